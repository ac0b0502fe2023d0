-- How far a judge has come in a text.
use Rattle.std.specs.Prelude.{◌≡◌, ℕ, ◌+◌, List, ◌++◌, length, Bool, true, false, Option, Some, None}
use Rattle.clause_base.specs.declared.log.Entry.{Entry}
use Rattle.rup_check.specs.Taken.{CheckerView, HasTaken}
use Rattle.lrat_judge.specs.Judged.{Judged, counted}
pub use Rattle.sat_text.specs.Lines.{has_no_end}
use Rattle.lrat_judge.specs.Follow.{Known, known_first}
use Rattle.lrat_judge.specs.Verdicts.{Outcome, Ends, Goes, judged, whole_lines, last_part}
use Rattle.lrat_judge.specs.declared.verdict.Verdict.{Verdict}
use Rattle.lrat_judge.specs.declared.verdict.Verdict.TheVariants.{More}

-- a checker has taken these entries, and so many are counted, where there are such, and where that was said; else it was said that
-- there are none
abbrev pub Enters : Bool → CheckerView → ℕ → Option (List Entry) → Type 0
Enters answer checker entries None = answer ≡ false
Enters answer checker entries (Some log) = (answer ≡ true) × HasTaken checker log × (entries ≡ counted (length log))

-- a checker, ids and a count of entries stand where this is known
pub record StandsAt (checker : CheckerView) (ids : List ℕ) (entries : ℕ) (known : Known) : Type 0 where
  pub taken : HasTaken checker known.log
  pub ids_are : ids ≡ known.ids
  pub entries_are : entries ≡ counted (length known.log)

-- and so it stands after this, where there is such, and where that was said; else it was said that there is none
abbrev pub Stands : Bool → CheckerView → List ℕ → ℕ → Option Known → Type 0
Stands answer checker ids entries None = answer ≡ false
Stands answer checker ids entries (Some known) = (answer ≡ true) × StandsAt checker ids entries known

-- a judge stands where this is known, before a line with this offset and so many lines before it
pub record IsBefore (judge : Judged) (known : Known) (at count : ℕ) : Type 0 where
  pub stands : StandsAt judge.checker judge.ids judge.entries known
  pub at_is : judge.at ≡ counted at
  pub count_is : judge.count ≡ counted count

-- the verdict on a line is its outcome's, and a judge that goes on stands after it
abbrev pub Comes : Outcome → Verdict → Judged → (at count : ℕ) → Type 0
Comes (Ends verdict) said judge at count = said ≡ verdict
Comes (Goes known) said judge at count = (said ≡ More) × IsBefore judge known at count

-- a judge has read a text and goes on: on its whole lines it stands where judging them leads, and it holds the part that is left
pub record HasRead (judge : Judged) (text : List ℕ) : Type 0 where
  pub known : Known
  pub at : ℕ
  pub count : ℕ
  pub before : IsBefore judge known at count
  pub leads : (more : List (List ℕ)) → judged judge.formula (known_first judge.formula) 0 0 (whole_lines text ++ more) ≡ judged judge.formula known at count more
  pub front : judge.front ≡ last_part text
  pub begins : at + length (last_part text) ≡ length text
