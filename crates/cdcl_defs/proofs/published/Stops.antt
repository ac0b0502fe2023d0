-- How many conflicts a run uses of those that it is granted.
use Rattle.std.proofs.Common.{arith, ◌≡◌, ℕ, zero, suc, ◌+◌, ◌*◌, ◌≤◌, Bool, true, false, not, ◌||◌, ◌&&◌, refl, sym, ◌∙◌, if◌then◌else◌, nat_le, Option, ◌⊎◌, inl, inr, ap, subst}
use Rattle.std.proofs.lemmas.Bool.Decides.{nat_tests}
use Rattle.clause_base.specs.Choice.{Known}
use Rattle.clause_base.specs.Formula.{Cnf}
use Rattle.cdcl_defs.specs.State.{State}
use Rattle.cdcl_defs.specs.Event.{event_of}
use Rattle.cdcl_defs.specs.Run.{next, rests, after, is_going, is_conflict, IsAfter}
use Rattle.cdcl_defs.specs.Open.{Opens}
use Rattle.cdcl_defs.specs.Machine.{turns}
use Rattle.cdcl_defs.proofs.published.Cutting.{stays}
use Rattle.cdcl_defs.proofs.RunLaws.{conflicts-apply, looser_test, rest_cases}
use Rattle.cdcl_defs.specs.Sound.{IsSound}
use Rattle.cdcl_defs.specs.Laws.{IsAgain, IsUsedUp, Rises, AfterGrants, AfterRests}
use Rattle.cdcl_defs.proofs.published.Fuel.{after_rests, after_is, after_cut}
use Rattle.cdcl_defs.proofs.published.Cuts.{after_within}

grows : (c : Bool) (n m : ℕ) → m ≡ (if c then n + 1 else n) → n ≤ m
grows true n m e = omega (arith, e)
grows false n m e = omega (arith, e)

one_more : (c : Bool) (n m : ℕ) → c ≡ true → m ≡ (if c then n + 1 else n) → m ≡ n + 1
one_more true n m t e = e
one_more false n m t e = cc

-- a lower limit rests where the higher one does not: at a conflict that is past the lower one
passes : (going conflict : Bool) (a b n : ℕ) → (not going || (conflict && nat_le b n)) ≡ false → (not going || (conflict && nat_le a n)) ≡ true → (conflict ≡ true) × (a ≤ n)
passes true true a b n f t = (refl, grind (arith, nat_tests))
passes true false a b n f t = cc
passes false conflict a b n f t = cc

module _ (choose : Known → Option ℕ) where
  rises_turn : (b : ℕ) (s : State) (r : Bool) → s.conflicts ≤ (if r then s else next choose s).conflicts
  rises_turn b s true = omega arith
  rises_turn b s false = grows (is_conflict (event_of choose s)) s.conflicts _ (conflicts-apply s (event_of choose s))

  -- conflicts are never taken back
  rises : (b n : ℕ) (s : State) → s.conflicts ≤ (turns (next choose) (rests choose) b n s).conflicts
  rises b zero s = omega arith
  rises b (suc n) s =
      let h = rises_turn b s (rests choose b s) in
      let t = rises b n (if rests choose b s then s else next choose s) in
      omega (arith, h, t)

  lower_turn : (a b n : ℕ) (s y : State) (q r : Bool) → rests choose a s ≡ q → rests choose b s ≡ r → a ≤ b → y.conflicts ≡ a → turns (next choose) (rests choose) b n (if r then s else next choose s) ≡ y → ((t : State) → turns (next choose) (rests choose) b n t ≡ y → turns (next choose) (rests choose) a n t ≡ y) → turns (next choose) (rests choose) a n (if q then s else next choose s) ≡ y
  lower_turn a b n s y true true qe re l c e later =
      stays (next choose) (rests choose) a n s qe ∙ (sym (stays (next choose) (rests choose) b n s re) ∙ e)
  lower_turn a b n s y true false qe re l c e later =
      let p = passes (is_going s.standing) (is_conflict (event_of choose s)) a b s.conflicts re qe in
      let m : (next choose s).conflicts ≡ s.conflicts + 1 = one_more (is_conflict (event_of choose s)) s.conflicts _ p.0 (conflicts-apply s (event_of choose s)) in
      let u = rises b n (next choose s) in
      let v : (turns (next choose) (rests choose) b n (next choose s)).conflicts ≡ a = ap (λ (t : State). t.conflicts) e ∙ c in
      absurd (omega (arith, p.1, m, u, v))
  lower_turn a b n s y false true qe re l c e later =
      let t : rests choose a s ≡ true = looser_test (is_going s.standing) (is_conflict (event_of choose s)) a b s.conflicts l re in
      cc
  lower_turn a b n s y false false qe re l c e later = later (next choose s) e

  -- to stop at as many conflicts as were reached leads to the same state
  lower : (a b n : ℕ) (s y : State) → a ≤ b → y.conflicts ≡ a → turns (next choose) (rests choose) b n s ≡ y → turns (next choose) (rests choose) a n s ≡ y
  lower a b zero s y l c e = e
  lower a b (suc n) s y l c e =
      lower_turn a b n s y (rests choose a s) (rests choose b s) refl refl l c e (λ t. lower a b n t y l c)

  rises_after : (x : State) (k : ℕ) → x.conflicts ≤ (after choose x k).conflicts
  unfolding after
  rises_after x k = rises (x.conflicts + k) ((k + 1) * (x.variables + 2)) x

  stop : (f : Cnf) (x y : State) (j k : ℕ) → IsAfter choose x k y → x.conflicts + j ≡ y.conflicts → j ≤ k → IsAfter choose x j y
  stop f x y j k h e l = record {
    count = h.count;
    reached = lower (x.conflicts + j) (x.conflicts + k) h.count x y (omega arith) (sym e) h.reached;
    at_rest = looser_test (is_going y.standing) (is_conflict (event_of choose y)) (x.conflicts + j) (x.conflicts + k) y.conflicts (omega arith) h.at_rest;
  }

  full : (going : Bool) (n m : ℕ) → going ≡ true → (going ≡ false) ⊎ (m ≤ n) → m ≤ n
  full going n m g (inl f) = cc
  full going n m g (inr l) = l

  pub again : (f : Cnf) (x : State) → Opens f.variables choose → IsSound f x → IsAgain choose x
  again f x o s j k l e = sym (after_is f choose x (after choose x k) j o s (stop f x (after choose x k) j k (after_rests f choose x k o s) e l))

  pub used_up : (f : Cnf) (x : State) → Opens f.variables choose → IsSound f x → IsUsedUp choose x
  used_up f x o s k g =
      let y = after choose x k in
      let h = after_rests f choose x k o s in
      let full : x.conflicts + k ≤ y.conflicts = full (is_going y.standing) y.conflicts (x.conflicts + k) g (rest_cases (is_going y.standing) (is_conflict (event_of choose y)) (x.conflicts + k) y.conflicts h.at_rest) in
      omega (arith, full, after_within choose x k)

  pub more_rises : (f : Cnf) (x : State) → Opens f.variables choose → IsSound f x → Rises choose x
  more_rises f x o s j k = subst (λ (y : State). (after choose x j).conflicts ≤ y.conflicts) (after_cut f choose x j k o s) (rises_after (after choose x j) k)

pub grants : AfterGrants
grants f choose x o s = record { again = again choose f x o s; used_up = used_up choose f x o s; rises = more_rises choose f x o s }

pub rests_always : AfterRests
rests_always f choose x o s k = after_rests f choose x k o s
