use Rattle.std.proofs.Common.{◌≡◌, ◌+◌, ◌<◌, drop, length}
use Rattle.sat_text.specs.own.Cut.{digits_front, after_digits}
use Rattle.sat_text.specs.Words.{value_of, value_with}
use Rattle.sat_text.proofs.Digits.{most_of}
use Rattle.sat_text.proofs.words.few_digits.Given as goal

abbrev pub invariant-loop-place : goal.invariant-loop-place
invariant-loop-place l = record {
  value : value_with l.number (digits_front (drop l.place l.bytes)) ≡ value_of (digits_front l.bytes);
  small : l.number < most_of l.place;
  after : after_digits (drop l.place l.bytes) ≡ after_digits l.bytes;
  long : l.place + length (digits_front (drop l.place l.bytes)) ≡ length (digits_front l.bytes);
}
