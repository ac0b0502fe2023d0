use Rattle.std.proofs.Common.{◌≡◌, ◌≤◌, ◌<◌, length}
use Rattle.pl_io.specs.declared.tape.Reading.TheVariants.{Goes}
use Rattle.sat_text.specs.Stands.{HasRead}
use Rattle.judge_top.proofs.model.read_given.Given as goal

-- the reader has read what the tape handed over, of the same file, whose end was not told; the count of the tape's faults did not fall
abbrev pub invariant-reading : goal.invariant-reading
invariant-reading g l = record {
  read : HasRead l.fn.variables (g.T.Tape.given l.tape).bytes l.reader;
  some : 0 < length l.piece;
  faults : g.T.Tape.faults l.fn.tape ≤ g.T.Tape.faults l.tape;
  opened : (g.T.Tape.given l.tape).opened ≡ (g.T.Tape.given l.fn.tape).opened;
  goes : (g.T.Tape.given l.tape).reading ≡ Goes;
}

abbrev pub decreases-reading : goal.decreases-reading
decreases-reading g l = g.T.Tape.pieces l.tape
