use Rattle.std.proofs.Common.{◌≡◌, ℕ, length}
use Rattle.sat_text.specs.Values.{Told}
use Rattle.sat_text.specs.Stands.{HasTold}
use Rattle.sat_text.proofs.ValueNumbers.{from_words}
use Rattle.sat_text.proofs.value_lines.Lines.take_numbers.Given as goal

-- what was told so far, and the words that are left, lead where all words led
abbrev pub invariant-taking : goal.invariant-taking
invariant-taking l = record {
  at : l.self.at ≡ l.initial.self.at;
  told : (variables : ℕ) (before : Told) → HasTold variables before l.initial.self → (now : Told) × HasTold variables now l.self × (from_words variables before l.initial.words ≡ from_words variables now l.words);
}

abbrev pub decreases-taking : goal.decreases-taking
decreases-taking l = length l.words
