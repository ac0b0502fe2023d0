use Rattle.std.proofs.Common.{◌≡◌, ◌≤◌, ◌<◌, ℕ, get_or, length, not, ◌&&◌, ◌||◌}
use Rattle.bit_sets.specs.Rows.{word_has}
use Rattle.bit_sets.proofs.row.unite_words_less.Given as goal

abbrev pub invariant-loop-i : goal.invariant-loop-i
invariant-loop-i l = record {
  long : length l.words ≡ length l.initial.words;
  done : (j k : ℕ) → j < l.i → word_has (get_or l.words j 0) k ≡ (word_has (get_or l.initial.words j 0) k || (word_has (get_or l.others j 0) k && not (word_has (get_or l.thirds j 0) k)));
  left : (j : ℕ) → l.i ≤ j → get_or l.words j 0 ≡ get_or l.initial.words j 0;
}
