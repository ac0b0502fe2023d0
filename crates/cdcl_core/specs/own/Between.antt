use Rattle.std.specs.Prelude.{◌≡◌, ℕ, zero, suc, ◌≤◌, true, Option, if◌then◌else◌}
use Rattle.clause_base.specs.Choice.{Known}
use Rattle.cdcl_defs.specs.State.{State}
use Rattle.cdcl_defs.specs.Run.{next, is_going}
use Rattle.cdcl_defs.specs.Laws.{IsQuiet}

-- the state after so many more events; once it is settled it stays
abbrev pub after_events : (Known → Option ℕ) → ℕ → State → State
after_events choose zero s = s
after_events choose (suc m) s = after_events choose m (if is_going s.standing then next choose s else s)

-- wherever a run has come to, the forced literals and decisions that follow with no conflict between are no more than the variables
abbrev pub IsShortBetween : (Known → Option ℕ) → State → Type 0
IsShortBetween choose x =
    (m n : ℕ) → is_going (after_events choose m x).standing ≡ true → IsQuiet choose n (after_events choose m x) → n ≤ x.variables
