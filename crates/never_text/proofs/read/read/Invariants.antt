use Rattle.std.proofs.Common.{◌≡◌, ◌+◌, ◌-◌, Ok, length}
use Rattle.std.specs.Prelude.{MatchOption}
use Rattle.never_text.specs.Certificate.{Nothing, lines_of, with_lines}
use Rattle.never_text.specs.own.Reading.{IsReader, told_by}
use Rattle.never_text.proofs.read.read.Given as goal

abbrev pub invariant-reading : goal.invariant-reading
invariant-reading l = record {
  reader : IsReader l.reader;
  facts : l.reader.facts ≡ l.facts;
  left : MatchOption l.left
      (with_lines l.facts Nothing 0 (lines_of l.text) ≡ Ok (told_by l.reader))
      (λ rest. (with_lines l.facts Nothing 0 (lines_of l.text) ≡ with_lines l.facts (told_by l.reader) l.at (lines_of rest.now)) × (l.at + length rest.now ≡ length l.text));
}

abbrev pub decreases-reading : goal.decreases-reading
decreases-reading l = (length l.text + 1) - l.at
