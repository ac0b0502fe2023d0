use Rattle.std.proofs.Common.{arith, ◌≡◌, ℕ, ◌+◌, ◌≤◌, ◌<◌, Bool, true, false, not, ◌||◌, ◌&&◌, refl, sym, ◌∙◌, IsTrue, nat_le, Option}
use Rattle.std.proofs.lemmas.Bool.Decides.{nat_tests}
use Rattle.clause_base.specs.Choice.{Known}
use Rattle.cdcl_defs.specs.State.{State}
use Rattle.cdcl_defs.specs.declared.event.Event.{Event}
use Rattle.cdcl_defs.specs.declared.event.Event.TheVariants.{Conflict, Force, Decide, Finish}
use Rattle.cdcl_defs.specs.Event.{event_of}
use Rattle.cdcl_defs.specs.Run.{apply, next, rests, is_going, is_conflict}
use Rattle.cdcl_defs.proofs.published.Cutting.{Reaches, turns-add}

waits_false : (going w : Bool) → going ≡ true → w ≡ false → (not going || w) ≡ false
waits_false true w g h = h
waits_false false w g h = cc

-- one more turn
pub one_on : (choose : Known → Option ℕ) (limit : ℕ) (x s t : State) (e : Event) → Reaches (next choose) (rests choose) limit x s → is_going s.standing ≡ true → e ≡ event_of choose s → (is_conflict e && nat_le limit s.conflicts) ≡ false → t ≡ apply s e → Reaches (next choose) (rests choose) limit x t
one_on choose limit x s t e r g is w to =
    let stop : rests choose limit s ≡ false = waits_false (is_going s.standing) (is_conflict (event_of choose s) && nat_le limit s.conflicts) g (rw is at w) in
    let same : t ≡ next choose s = rw is at to in
    (r.0 + 1, turns-add (next choose) (rests choose) limit r.0 1 x ∙ rw (r.1, stop) (sym same))

below_limit : (c : Bool) (limit n : ℕ) → (c && nat_le limit n) ≡ false → c ≡ true → n < limit
below_limit true limit n w h = grind (arith, nat_tests)
below_limit false limit n w h = cc

pub conflict_below : (e : Event) (limit n : ℕ) → (is_conflict e && nat_le limit n) ≡ false → IsTrue (is_conflict e) → n < limit
conflict_below e limit n w h = below_limit (is_conflict e) limit n w h

pub conflicts_stay : (s : State) (e : Event) (limit : ℕ) → s.conflicts ≤ limit → (is_conflict e && nat_le limit s.conflicts) ≡ false → (apply s e).conflicts ≤ limit
conflicts_stay s (Conflict i) limit l w = let h : s.conflicts < limit = conflict_below (Conflict i) limit s.conflicts w refl in omega arith
conflicts_stay s (Force l i) limit m w = m
conflicts_stay s (Decide l) limit m w = m
conflicts_stay s Finish limit m w = m

-- what does not rest is going
pub going_from : (going w : Bool) → (not going || w) ≡ false → going ≡ true
going_from true w e = refl
going_from false w e = cc
