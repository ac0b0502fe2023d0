-- The next of what is left of a log.
use Rattle.std.proofs.Common.{arith, ◌≡◌, ℕ, ◌+◌, ◌<◌, List, ◌∷◌, length, drop, get_or, refl, ap, sym, ◌∙◌, Some}
use Rattle.std.specs.List.{slice_get}
use Rattle.std.proofs.lemmas.List.{drop_more, length-drop}
use Rattle.std.proofs.lemmas.Option.{slice_get_read}
use Rattle.clause_base.specs.declared.log.Entry.{Entry}

-- an entry is the one with a number, and these come after it
pub record IsTurn (log rest : List Entry) (n : ℕ) (entry : Entry) : Type 0 where
  pub in_range : n < length log
  pub is : entry ≡ get_or log n entry
  pub at : slice_get log n ≡ Some entry
  pub next : rest ≡ drop (n + 1) log

-- the next of the entries from a number on has that number
pub turn : (log now rest : List Entry) (n : ℕ) (entry : Entry) → n < length log → now ≡ drop n log → now ≡ entry ∷ rest → IsTurn log rest n entry
turn log now rest n entry within d e =
    let both : entry ∷ rest ≡ get_or log n entry ∷ drop (n + 1) log = sym e ∙ d ∙ drop_more log n entry within in
    let is : entry ≡ get_or log n entry = cc in
    let next : rest ≡ drop (n + 1) log = cc in
    record { in_range = within; is = is; at = slice_get_read log (length log) n entry refl within is; next = next }

-- entries are left where the number is below the length
pub some_left : (log now : List Entry) (n : ℕ) → n < length log → now ≡ drop n log → 0 < length now
some_left log now n within d = omega (arith, ap length d ∙ length-drop n log)
