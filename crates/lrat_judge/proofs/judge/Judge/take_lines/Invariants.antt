use Rattle.std.proofs.Common.{◌≡◌, ◌++◌, ℕ, List, length}
use Rattle.lrat_judge.specs.Reached.{HasRead}
use Rattle.lrat_judge.proofs.judge.Judge.take_lines.Given as goal

-- the formula is the same, and of a text that was read, and the piece, a front was read and the rest is left
abbrev pub invariant-loop-line : goal.invariant-loop-line
invariant-loop-line l = record {
  formula : l.self.formula ≡ l.initial.self.formula;
  read : (text : List ℕ) → HasRead l.initial.self text → (done : List ℕ) × (text ++ l.piece ≡ done ++ l.rest) × HasRead l.self done;
}

abbrev pub decreases-loop-line : goal.decreases-loop-line
decreases-loop-line l = length l.rest
