-- Between two conflicts come no more events than there are variables.
use Rattle.std.proofs.Common.{◌≡◌, ℕ, zero, suc, ◌≤◌, Bool, true, false, Option, if◌then◌else◌, refl, sym, subst}
use Rattle.clause_base.specs.Formula.{Cnf}
use Rattle.clause_base.specs.Choice.{Known}
use Rattle.cdcl_defs.specs.State.{State}
use Rattle.cdcl_defs.specs.Open.{Opens}
use Rattle.cdcl_defs.specs.Run.{next, is_going}
use Rattle.cdcl_defs.specs.Sound.{IsSound}
use Rattle.cdcl_defs.proofs.published.Kept.{sound_next}
use Rattle.cdcl_defs.proofs.published.Cuts.{quiet_short}
use Rattle.cdcl_core.specs.own.Between.{after_events, IsShortBetween}

one_sound : (f : Cnf) (choose : Known → Option ℕ) (s : State) (g : Bool) → is_going s.standing ≡ g → Opens f.variables choose → IsSound f s → IsSound f (if g then next choose s else s)
one_sound f choose s true e c o = sound_next f choose s c o e
one_sound f choose s false e c o = o

-- a sound state is sound after any number of events
events_sound : (f : Cnf) (choose : Known → Option ℕ) (m : ℕ) (s : State) → Opens f.variables choose → IsSound f s → IsSound f (after_events choose m s)
events_sound f choose zero s c o = o
events_sound f choose (suc m) s c o = events_sound f choose m _ c (one_sound f choose s (is_going s.standing) refl c o)

pub short_between : (f : Cnf) (choose : Known → Option ℕ) (x : State) → Opens f.variables choose → IsSound f x → IsShortBetween choose x
short_between f choose x c o m n g q =
    subst (λ (v : ℕ). n ≤ v) (sym o.many) (quiet_short f choose (after_events choose m x) n c (events_sound f choose m x c o) g q)
