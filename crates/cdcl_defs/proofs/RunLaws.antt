use Rattle.std.proofs.Common.{arith, ◌≡◌, ℕ, zero, suc, ◌+◌, ◌≤◌, Bool, true, false, not, ◌||◌, ◌&&◌, refl, sym, ◌∙◌, if◌then◌else◌, nat_le, Option, ◌⊎◌, inl, inr, subst}
use Rattle.std.proofs.lemmas.Bool.Decides.{nat_tests}
use Rattle.clause_base.specs.Choice.{Known}
use Rattle.cdcl_defs.specs.State.{State}
use Rattle.cdcl_defs.specs.declared.event.Event.{Event}
use Rattle.cdcl_defs.specs.declared.event.Event.TheVariants.{Conflict, Force, Decide, Finish}
use Rattle.cdcl_defs.specs.Event.{event_of}
use Rattle.cdcl_defs.specs.Run.{next, rests, apply, is_going, is_conflict, IsAfter, GoesOnAcrossCuts, IsAfterUnique}
use Rattle.cdcl_defs.specs.Machine.{turns, ComesToRest}
use Rattle.cdcl_defs.proofs.published.Cutting.{cutting, IsLooser, stays, one_rest}

-- the test over plain values
pub looser_test : (going conflict : Bool) (a b n : ℕ) → a ≤ b → (not going || (conflict && nat_le b n)) ≡ true → (not going || (conflict && nat_le a n)) ≡ true
looser_test true true a b n l t = grind (arith, nat_tests)
looser_test true false a b n l t = t
looser_test false conflict a b n l t = refl

-- a conflict is counted, and nothing else is
pub conflicts-apply : (s : State) (e : Event) → (apply s e).conflicts ≡ (if is_conflict e then s.conflicts + 1 else s.conflicts)
conflicts-apply s (Conflict i) = refl
conflicts-apply s (Force l i) = refl
conflicts-apply s (Decide l) = refl
conflicts-apply s Finish = refl

pub below_test : (going conflict : Bool) (limit n m : ℕ) → (not going || (conflict && nat_le limit n)) ≡ false → m ≡ (if conflict then n + 1 else n) → n ≤ limit → m ≤ limit
below_test true true limit n m t e l = grind (arith, nat_tests)
below_test true false limit n m t e l = omega (arith, e)
below_test false conflict limit n m t e l = cc

module _ (choose : Known → Option ℕ) where
  looser : (a b : ℕ) → a ≤ b → IsLooser (next choose) (rests choose) a b
  looser a b l s t = looser_test (is_going s.standing) (is_conflict (event_of choose s)) a b s.conflicts l t

  below_turn : (limit : ℕ) (s : State) (r : Bool) → rests choose limit s ≡ r → s.conflicts ≤ limit → (if r then s else next choose s).conflicts ≤ limit
  below_turn limit s true e l = l
  below_turn limit s false e l =
      below_test (is_going s.standing) (is_conflict (event_of choose s)) limit s.conflicts _ e (conflicts-apply s (event_of choose s)) l

  -- no more conflicts than the limit
  pub below : (limit n : ℕ) (s : State) → s.conflicts ≤ limit → (turns (next choose) (rests choose) limit n s).conflicts ≤ limit
  below limit zero s l = l
  below limit (suc n) s l = below limit n _ (below_turn limit s (rests choose limit s) refl l)

-- at rest: settled, or at the limit
pub rest_cases : (going conflict : Bool) (limit n : ℕ) → (not going || (conflict && nat_le limit n)) ≡ true → (going ≡ false) ⊎ (limit ≤ n)
rest_cases false conflict limit n t = inl refl
rest_cases true true limit n t = inr (grind (arith, nat_tests))
rest_cases true false limit n t = cc

pub settled_rests : (going conflict : Bool) (b n : ℕ) → going ≡ false → (not going || (conflict && nat_le b n)) ≡ true
settled_rests false conflict b n e = refl
settled_rests true conflict b n e = cc

-- the second part of the run, by the limit of the whole
later : (choose : Known → Option ℕ) (x y z : State) (j k : ℕ) → IsAfter choose y k z → y.conflicts ≤ x.conflicts + j → (is_going y.standing ≡ false) ⊎ (x.conflicts + j ≤ y.conflicts) → ComesToRest (next choose) (rests choose) (x.conflicts + (j + k)) y z
later choose x y z j k second n (inl settled) =
    let r = settled_rests (is_going y.standing) (is_conflict (event_of choose y)) (y.conflicts + k) y.conflicts settled in
    let same : z ≡ y = sym second.reached ∙ stays (next choose) (rests choose) (y.conflicts + k) second.count y r in
    record { count = 0; reached = sym same; at_rest = rw same (settled_rests (is_going y.standing) (is_conflict (event_of choose y)) (x.conflicts + (j + k)) y.conflicts settled) }
later choose x y z j k second n (inr full) =
    let e : y.conflicts + k ≡ x.conflicts + (j + k) = omega arith in
    subst (λ (b : ℕ). ComesToRest (next choose) (rests choose) b y z) e second

pub across_cuts : GoesOnAcrossCuts
across_cuts choose x y z j k first second =
    let n : y.conflicts ≤ x.conflicts + j = subst (λ (s : State). s.conflicts ≤ x.conflicts + j) first.reached (below choose (x.conflicts + j) first.count x (omega arith)) in
    let l = looser choose (x.conflicts + j) (x.conflicts + (j + k)) (omega arith) in
    cutting (next choose) (rests choose) (x.conflicts + j) (x.conflicts + (j + k)) x y z l first
    (later choose x y z j k second n (rest_cases (is_going y.standing) (is_conflict (event_of choose y)) (x.conflicts + j) y.conflicts first.at_rest))

pub after_unique : IsAfterUnique
after_unique choose x y z k first second = one_rest (next choose) (rests choose) (x.conflicts + k) x y z first second
