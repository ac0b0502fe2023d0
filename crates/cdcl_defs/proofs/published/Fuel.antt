use Rattle.std.proofs.Common.{arith, ◌≡◌, ℕ, zero, suc, ◌+◌, ◌-◌, ◌*◌, ◌≤◌, ◌<◌, Bool, true, false, not, ◌||◌, ◌&&◌, refl, sym, ◌∙◌, if◌then◌else◌, ap, nat_le, Option, List, All, subst, [], ◌∷◌}
use Rattle.std.proofs.lemmas.Bool.Decides.{nat_tests}
use Rattle.std.specs.List.{AllByRecursion}
use Rattle.std.proofs.lemmas.List.Elements.{All-from_recursion}
use Rattle.clause_base.specs.Clause.{HasVariablesBelow}
use Rattle.clause_base.specs.Formula.{Cnf}
use Rattle.clause_base.specs.Choice.{Known}
use Rattle.cdcl_defs.specs.State.{State}
use Rattle.cdcl_defs.specs.declared.event.Event.{Event}
use Rattle.cdcl_defs.specs.declared.event.Event.TheVariants.{Conflict, Force, Decide, Finish}
use Rattle.cdcl_defs.specs.Event.{event_of}
use Rattle.cdcl_defs.specs.Run.{apply, next, rests, after, is_going, is_conflict, IsAfter}
use Rattle.cdcl_defs.specs.Open.{IsOpenEvent, Opens}
use Rattle.cdcl_defs.specs.Machine.{turns}
use Rattle.cdcl_defs.proofs.published.Cutting.{enough}
use Rattle.cdcl_defs.proofs.RunLaws.{across_cuts, after_unique}
use Rattle.cdcl_defs.proofs.published.Advance.{going_from}
use Rattle.cdcl_defs.proofs.published.Measure.{event_open, fewer_left, events_left, events_left-le}
use Rattle.cdcl_defs.specs.Sound.{IsLawful, IsSound}
use Rattle.cdcl_defs.proofs.published.Kept.{sound_next}

-- conflicts that are left, then events
abbrev pub left : ℕ → State → ℕ
left b s = (b - s.conflicts) * (s.variables + 2) + events_left s

waits_less : (g c : Bool) (b n : ℕ) → (not g || (c && nat_le b n)) ≡ false → c ≡ true → n < b
waits_less true true b n e h = grind (arith, nat_tests)
waits_less true false b n e h = cc
waits_less false c b n e h = cc

pub left_falls : (b : ℕ) (s : State) (e : Event) → is_going s.standing ≡ true → IsOpenEvent s e → (is_conflict e ≡ true → s.conflicts < b) → left b (apply s e) < left b s
left_falls b s (Conflict i) g o l =
    let t = apply s (Conflict i) in
    let h : events_left t ≤ s.variables + 1 = events_left-le t (is_going t.standing) refl in
    let c : s.conflicts < b = l refl in
    let k : b - s.conflicts ≡ suc (b - (s.conflicts + 1)) = omega arith in
    let m : (b - s.conflicts) * (s.variables + 2) ≡ (b - (s.conflicts + 1)) * (s.variables + 2) + (s.variables + 2) = ap (λ (x : ℕ). x * (s.variables + 2)) k ∙ grind arith in
    omega (arith, h, m)
left_falls b s (Force l' i) g o l = let h = fewer_left s (Force l' i) g refl o in omega (arith, h)
left_falls b s (Decide l') g o l = let h = fewer_left s (Decide l') g refl o in omega (arith, h)
left_falls b s Finish g o l = let h = fewer_left s Finish g refl o in omega (arith, h)

lawful_below : (n : ℕ) (clauses : List (List ℕ)) → AllByRecursion (IsLawful n) clauses → AllByRecursion (HasVariablesBelow n) clauses
lawful_below n [] a = tt
lawful_below n (c ∷ clauses) a = (a.0.below, lawful_below n clauses a.1)

pub all_below : (f : Cnf) (s : State) → IsSound f s → All (HasVariablesBelow s.variables) s.clauses
all_below f s o = subst (λ (n : ℕ). All (HasVariablesBelow n) s.clauses) (sym o.many) (All-from_recursion (HasVariablesBelow f.variables) s.clauses (lawful_below f.variables s.clauses o.lawful))

pub opens : (f : Cnf) (choose : Known → Option ℕ) (s : State) → Opens f.variables choose → IsSound f s → IsOpenEvent s (event_of choose s)
opens f choose s c o = event_open choose s (all_below f s o) (λ values e. c values (e ∙ o.many))

falls : (f : Cnf) (choose : Known → Option ℕ) (b : ℕ) → Opens f.variables choose → (s : State) → IsSound f s → rests choose b s ≡ false → IsSound f (next choose s) × (left b (next choose s) < left b s)
falls f choose b c s o r =
    let e = event_of choose s in
    let g = going_from (is_going s.standing) (is_conflict e && nat_le b s.conflicts) r in
    (sound_next f choose s c o g, left_falls b s e g (opens f choose s c o) (waits_less (is_going s.standing) (is_conflict e) b s.conflicts r))

fuel : (b k n x : ℕ) (l : ℕ) → b ≡ x + k → l ≤ n + 1 → (b - x) * (n + 2) + l ≤ (k + 1) * (n + 2)
fuel b k n x l e h =
    let s : b - x ≡ k = omega arith in
    let m : (b - x) * (n + 2) ≡ k * (n + 2) = ap (λ (y : ℕ). y * (n + 2)) s in
    let d : (k + 1) * (n + 2) ≡ k * (n + 2) + (n + 2) = grind arith in
    omega (arith, m, d)

-- so many turns are enough
pub after_rests : (f : Cnf) (choose : Known → Option ℕ) (x : State) (k : ℕ) → Opens f.variables choose → IsSound f x → IsAfter choose x k (after choose x k)
unfolding after
after_rests f choose x k c o = record {
  count = (k + 1) * (x.variables + 2);
  reached = refl;
  at_rest = enough (next choose) (rests choose) (IsSound f) (left (x.conflicts + k)) (x.conflicts + k) (falls f choose (x.conflicts + k) c) ((k + 1) * (x.variables + 2)) x o (fuel (x.conflicts + k) k x.variables x.conflicts (events_left x) refl (events_left-le x (is_going x.standing) refl));
}

sound_turn : (f : Cnf) (choose : Known → Option ℕ) (b : ℕ) (s : State) (r : Bool) → Opens f.variables choose → rests choose b s ≡ r → IsSound f s → IsSound f (if r then s else next choose s)
sound_turn f choose b s true c e o = o
sound_turn f choose b s false c e o = sound_next f choose s c o (going_from (is_going s.standing) (is_conflict (event_of choose s) && nat_le b s.conflicts) e)

sound_turns : (f : Cnf) (choose : Known → Option ℕ) (b n : ℕ) (s : State) → Opens f.variables choose → IsSound f s → IsSound f (turns (next choose) (rests choose) b n s)
sound_turns f choose b zero s c o = o
sound_turns f choose b (suc n) s c o = sound_turns f choose b n _ c (sound_turn f choose b s (rests choose b s) c refl o)

-- what holds of the start holds after any number of conflicts
pub sound_after : (f : Cnf) (choose : Known → Option ℕ) (x : State) (k : ℕ) → Opens f.variables choose → IsSound f x → IsSound f (after choose x k)
unfolding after
sound_after f choose x k c o = sound_turns f choose (x.conflicts + k) ((k + 1) * (x.variables + 2)) x c o

-- the state after k more conflicts is the only one
pub after_is : (f : Cnf) (choose : Known → Option ℕ) (x y : State) (k : ℕ) → Opens f.variables choose → IsSound f x → IsAfter choose x k y → y ≡ after choose x k
after_is f choose x y k c o h = after_unique choose x y (after choose x k) k h (after_rests f choose x k c o)

-- to go on by j and then by k is to go on by j + k
pub after_cut : (f : Cnf) (choose : Known → Option ℕ) (x : State) (j k : ℕ) → Opens f.variables choose → IsSound f x → after choose (after choose x j) k ≡ after choose x (j + k)
after_cut f choose x j k c o =
    let y = after choose x j in
    let first = after_rests f choose x j c o in
    let second = after_rests f choose y k c (sound_after f choose x j c o) in
    after_is f choose x (after choose y k) (j + k) c o (across_cuts choose x y (after choose y k) j k first second)
