use Rattle.std.proofs.Common.{List, length}
use Rattle.sat_text.specs.declared.words.Signed.{Signed}
use Rattle.sat_text.specs.own.Reading.{Reads}
use Rattle.sat_text.proofs.LineLaws.{Passes}
use Rattle.sat_text.proofs.lrat_line.Line.read_part.Given as goal

-- some numbers were read
abbrev pub invariant-loop-told : goal.invariant-loop-told
invariant-loop-told l = (passed : List Signed) × Passes l.fn.words l.words passed × Reads l.fn.part l.fn.self l.self passed

abbrev pub decreases-loop-told : goal.decreases-loop-told
decreases-loop-told l = length l.words
