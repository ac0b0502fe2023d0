use Rattle.std.proofs.Common.{◌≡◌, ◌<◌, length}
use Rattle.sat_text.specs.own.Cut.{digits_front, after_digits}
use Rattle.sat_text.specs.Words.{value_with}
use Rattle.sat_text.proofs.words.more_digits.Given as goal

abbrev pub invariant-loop-digit : goal.invariant-loop-digit
invariant-loop-digit l = record {
  value : value_with l.number (digits_front l.rest) ≡ value_with l.first (digits_front l.text);
  small : l.number < 18446744073709551616;
  after : after_digits l.rest ≡ after_digits l.text;
}

abbrev pub decreases-loop-digit : goal.decreases-loop-digit
decreases-loop-digit l = length l.rest
