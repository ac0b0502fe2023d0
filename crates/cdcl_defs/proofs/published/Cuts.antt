use Rattle.std.proofs.Common.{arith, ◌≡◌, ℕ, zero, suc, ◌+◌, ◌*◌, ◌≤◌, List, [], ◌∷◌, Option, true, false, fold, refl, sym, ap, ◌∙◌, zero-add}
use Rattle.clause_base.specs.Formula.{Cnf}
use Rattle.clause_base.specs.Choice.{Known}
use Rattle.cdcl_defs.specs.declared.event.Event.{Event}
use Rattle.cdcl_defs.specs.declared.event.Event.TheVariants.{Conflict, Force, Decide, Finish}
use Rattle.cdcl_defs.specs.State.{State}
use Rattle.cdcl_defs.specs.Event.{event_of}
use Rattle.cdcl_defs.specs.Open.{Opens}
use Rattle.cdcl_defs.specs.Run.{next, rests, apply, after, is_going, is_conflict}
use Rattle.cdcl_defs.proofs.published.Cutting.{stays}
use Rattle.cdcl_defs.proofs.RunLaws.{settled_rests, below}
use Rattle.cdcl_defs.proofs.published.Measure.{events_left, events_left-le, fewer_left}
use Rattle.cdcl_defs.specs.Sound.{IsSound}
use Rattle.cdcl_defs.specs.Laws.{AfterAddsUp, AfterSettled, AfterIsWithin, is_assignment, IsQuiet, QuietIsShort, LogIsShort}
use Rattle.cdcl_defs.proofs.published.Kept.{sound_next}
use Rattle.cdcl_defs.proofs.published.Logs.{logged_short}
use Rattle.cdcl_defs.proofs.published.Fuel.{after_cut, opens}

from_after : (f : Cnf) (choose : Known → Option ℕ) (x : State) (k : ℕ) (more : List ℕ) → Opens f.variables choose → IsSound f x → fold (after choose) (after choose x k) more ≡ after choose x (fold ◌+◌ k more)
from_after f choose x k [] c o = refl
from_after f choose x k (j ∷ more) c o =
    ap (λ (y : State). fold (after choose) y more) (after_cut f choose x k j c o) ∙ from_after f choose x (k + j) more c o

-- to go on by each of some numbers in turn is to go on by their sum
pub adds_up : AfterAddsUp
adds_up f choose x c o k more =
    from_after f choose x k more c o ∙ ap (λ (n : ℕ). after choose x (fold ◌+◌ n more)) (sym (zero-add k))

-- a settled state stays as it is
pub settled_stays : AfterSettled
unfolding after
settled_stays choose x g k =
    stays (next choose) (rests choose) (x.conflicts + k) ((k + 1) * (x.variables + 2)) x (settled_rests (is_going x.standing) (is_conflict (event_of choose x)) (x.conflicts + k) x.conflicts g)

pub after_within : AfterIsWithin
unfolding after
after_within choose x k = below choose (x.conflicts + k) ((k + 1) * (x.variables + 2)) x (omega arith)

-- an assignment is no conflict, and leaves the state going
quiet_event : (s : State) (e : Event) → is_going s.standing ≡ true → is_assignment e ≡ true → (is_conflict e ≡ false) × (is_going (apply s e).standing ≡ true)
quiet_event s (Conflict i) g q = cc
quiet_event s (Force l i) g q = (refl, g)
quiet_event s (Decide l) g q = (refl, g)
quiet_event s Finish g q = cc

one_left : (s : State) → is_going s.standing ≡ true → 1 ≤ events_left s
one_left s g = rw g (omega arith)

quiet_left : (f : Cnf) (choose : Known → Option ℕ) (n : ℕ) (s : State) → Opens f.variables choose → IsSound f s → is_going s.standing ≡ true → IsQuiet choose n s → n + 1 ≤ events_left s
quiet_left f choose zero s c o g q = one_left s g
quiet_left f choose (suc n) s c o g q =
    let e = quiet_event s (event_of choose s) g q.0 in
    let less = fewer_left s (event_of choose s) g e.0 (opens f choose s c o) in
    let later = quiet_left f choose n (next choose s) c (sound_next f choose s c o g) e.1 q.1 in
    omega (arith, less, later)

-- each assignment leaves one variable less without a value
pub quiet_short : QuietIsShort
quiet_short f choose x n c o g q =
    let h = quiet_left f choose n x c o g q in
    let l = events_left-le x (is_going x.standing) refl in
    omega (arith, h, l, o.many)

-- a log is short
pub log_short : LogIsShort
log_short f s o = let h = logged_short f s.clauses s.kept s.log o.logged in omega (arith, h, o.counted)
