use Rattle.std.specs.Prelude.{◌≡◌, ℕ, ◌*◌, ◌≤◌, List, false, length}
use Rattle.bit_sets.specs.Layered.{words_have}
use Rattle.conflict_analysis.specs.own.Resolvent.{MarksView, IsClear}

-- what conflicts are worked out in, as its clients see it: the marks of the clause in the making, and the set that puts it in order
pub record AnalysisView : Type 0 where
  pub marks : MarksView
  pub codes : List ℕ

-- a conflict over so many variables may be worked out: there is room, and nothing is left of the one before
pub record IsReady (variables : ℕ) (a : AnalysisView) : Type 0 where
  pub clear : IsClear variables a.marks
  pub room : 2 * variables ≤ 64 * length a.codes
  pub empty : (l : ℕ) → words_have a.codes l ≡ false
