use Rattle.std.proofs.Common.{◌≡◌, ◌++◌, ℕ, List, length}
use Rattle.sat_text.specs.Stands.{HasRead}
use Rattle.sat_text.proofs.value_reader.Reader.take.Given as goal

-- of a text that was read, and the piece, a front was read and the rest is left
abbrev pub invariant-loop-line : goal.invariant-loop-line
invariant-loop-line l = (variables : ℕ) (text : List ℕ) → HasRead variables text l.initial.self → (done : List ℕ) × (text ++ l.piece ≡ done ++ l.rest) × HasRead variables done l.self

abbrev pub decreases-loop-line : goal.decreases-loop-line
decreases-loop-line l = length l.rest
