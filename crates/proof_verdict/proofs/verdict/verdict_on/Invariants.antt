use Rattle.std.proofs.Common.{◌≡◌, ◌≤◌, ◌<◌, length}
use Rattle.pl_io.specs.Tape.{IsAtFront}
use Rattle.pl_io.specs.declared.tape.Reading.TheVariants.{Goes}
use Rattle.lrat_judge.specs.Reached.{HasRead}
use Rattle.proof_verdict.proofs.verdict.verdict_on.Given as goal

-- the judge is one of the formula, and has read what the tape handed over, of the same file, whose end was not told; the count of its faults
-- did not fall
abbrev pub invariant-reading : goal.invariant-reading
invariant-reading g l = record {
  formula : l.judge.formula ≡ l.fn.formula;
  some : 0 < length l.piece;
  faults : g.T.Tape.faults l.fn.tape ≤ g.T.Tape.faults l.tape;
  opened : (g.T.Tape.given l.tape).opened ≡ (g.T.Tape.given l.fn.tape).opened;
  goes : IsAtFront (g.T.Tape.given l.fn.tape) → (g.T.Tape.given l.tape).reading ≡ Goes;
  read : IsAtFront (g.T.Tape.given l.fn.tape) → HasRead l.judge (g.T.Tape.given l.tape).bytes;
}

abbrev pub decreases-reading : goal.decreases-reading
decreases-reading g l = g.T.Tape.pieces l.tape
