use Rattle.std.proofs.Common.{◌≡◌, ◌≤◌, ◌<◌, ℕ, get_or, length, ◌||◌}
use Rattle.bit_sets.specs.Rows.{word_has}
use Rattle.bit_sets.proofs.row.unite_words.Given as goal

abbrev pub invariant-loop-i : goal.invariant-loop-i
invariant-loop-i l = record {
  long : length l.words ≡ length l.initial.words;
  front : (j : ℕ) → j < l.from → get_or l.words j 0 ≡ get_or l.initial.words j 0;
  done : (j k : ℕ) → l.from ≤ j → j < l.i → word_has (get_or l.words j 0) k ≡ (word_has (get_or l.initial.words j 0) k || word_has (get_or l.others j 0) k);
  left : (j : ℕ) → l.i ≤ j → get_or l.words j 0 ≡ get_or l.initial.words j 0;
}
