-- The lines of a text, from the first one on.
use Rattle.std.proofs.Common.{◌≡◌, ◌++◌, ◌∷◌, [], ℕ, List, true, refl}
use Rattle.sat_text.specs.Lines.{has_no_end}
use Rattle.sat_text.proofs.published.Texts.{lines_on, last_on, lines_same, last_more}
use Rattle.never_text.specs.Certificate.{lines_of}

-- a line that ends, and what follows it
pub one_more : (text line more : List ℕ) → has_no_end line ≡ true → text ≡ line ++ 10 ∷ more → lines_of text ≡ line ∷ lines_of more
one_more text line more none is = rw is (rw (lines_on [] line more none, last_on [] line more none) refl)

-- a line that does not end
pub last_one : (text : List ℕ) → has_no_end text ≡ true → lines_of text ≡ text ∷ []
last_one text none = rw (lines_same [] text none, last_more [] text none) refl
