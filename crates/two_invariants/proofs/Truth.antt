use Rattle.std.proofs.Common.{arith, ◌≡◌, ℕ, ◌==◌, ◌+◌, ◌*◌, ◌/◌, List, [], ◌∷◌, ◌++◌, Bool, true, false, not, ◌&&◌, ◌||◌, refl, ap, sym, ◌∙◌, subst, ◌⊎◌, inl, inr}
use Rattle.std.proofs.lemmas.List.Folds.{list_all-append}
use Rattle.gt_core.specs.Literal.{opposite, holds, all_hold}
use Rattle.gt_core.specs.Task.{Effect, Action, Task, action, initial_state}
use Rattle.gt_core.specs.Active.{is_active}
use Rattle.gt_core.specs.Execution.{action_makes, action_gains, action_loses, next_of_one, CanRun, run}
use Rattle.gt_core.specs.Interference.{has_clause, Knows}
use Rattle.gt_core.proofs.published.Basics.{Among, passing, any_at, or_split, or_left, or_right, or_none, and_split, and_both, apart, cases, same_test, test_same, each_from, all_at}
use Rattle.gt_core.proofs.published.Literals.{opposite_holds, holds_add, holds_delete, add_opposite, delete_opposite, delete_is_odd}
use Rattle.implied_literals.specs.Known.{IsFull, IsKnown, AllKnown}
use Rattle.implied_literals.specs.Breaks.{AnyByRecursion, is_add, Takes, Loses, Gives, Sure, BreaksBy, Breaks}
use Rattle.two_invariants.specs.Closed.{IsClosed}
use Rattle.two_invariants.specs.Laws.{InvariantsHold}
use Rattle.implied_literals.proofs.published.Lists.{any_from}

-- Each clause of a closed set holds in every state that a sequence of actions reaches.

-- the state after an action
abbrev after : (ℕ → Bool) → Action → ℕ → Bool
after s x f = action_gains s x f || (s f && not (action_loses s x f))

literal_or_opposite : (s : ℕ → Bool) (l : ℕ) → holds s l ≡ true → holds s (opposite l) ≡ true → ⊥
literal_or_opposite s l t o = step (holds s l) t (sym (opposite_holds s l) ∙ o)
  where
    step : (b : Bool) → b ≡ true → not b ≡ true → ⊥
    step true e f = cc
    step false e f = cc

shape : (l : ℕ) → (f : ℕ) × ((l ≡ 2 * f) ⊎ (l ≡ 2 * f + 1))
shape l = (l / 2, grind arith)

even_falls : (a d v : Bool) → (v || a) ≡ true → (a || (v && not (d && not a))) ≡ false → (d ≡ true) × (a ≡ false)
even_falls true d v t f = cc
even_falls false true v t f = (refl, refl)
even_falls false false true t f = cc
even_falls false false false t f = cc

odd_falls : (a d v : Bool) → (not v || d) ≡ true → not (a || (v && not (d && not a))) ≡ false → a ≡ true
odd_falls true d v t f = refl
odd_falls false true true t f = cc
odd_falls false false true t f = cc
odd_falls false true false t f = cc
odd_falls false false false t f = cc

-- a literal that held or was made true, and then does not hold, was taken by an effect that no add overruled
falls_by : (s : ℕ → Bool) (x : Action) (l f : ℕ) → (l ≡ 2 * f) ⊎ (l ≡ 2 * f + 1) → (holds s l || action_makes s x l) ≡ true → holds (after s x) l ≡ false → (action_makes s x (opposite l) ≡ true) × (is_add l ≡ true → action_makes s x l ≡ false)
falls_by s x l f (inl e) t n =
    let held : (s f || action_makes s x (2 * f)) ≡ true = ap (λ (b : Bool). b || action_makes s x (2 * f)) (sym (holds_add s f)) ∙ ap (λ (k : ℕ). holds s k || action_makes s x k) (sym e) ∙ t in
    let gone : after s x f ≡ false = sym (holds_add (after s x) f) ∙ ap (holds (after s x)) (sym e) ∙ n in
    let both = even_falls (action_makes s x (2 * f)) (action_makes s x (2 * f + 1)) (s f) held gone in
    (ap (action_makes s x) (add_opposite l f e) ∙ both.0, λ even. ap (action_makes s x) e ∙ both.1)
falls_by s x l f (inr e) t n =
    let held : (not (s f) || action_makes s x (2 * f + 1)) ≡ true = ap (λ (b : Bool). b || action_makes s x (2 * f + 1)) (sym (holds_delete s f)) ∙ ap (λ (k : ℕ). holds s k || action_makes s x k) (sym e) ∙ t in
    let gone : not (after s x f) ≡ false = sym (holds_delete (after s x) f) ∙ ap (holds (after s x)) (sym e) ∙ n in
    let made = odd_falls (action_makes s x (2 * f)) (action_makes s x (2 * f + 1)) (s f) held gone in
    (ap (action_makes s x) (delete_opposite l f e) ∙ made, λ even. absurd (apart _ even (delete_is_odd l f e)))

falls : (s : ℕ → Bool) (x : Action) (l : ℕ) → (holds s l || action_makes s x l) ≡ true → holds (after s x) l ≡ false → (action_makes s x (opposite l) ≡ true) × (is_add l ≡ true → action_makes s x l ≡ false)
falls s x l = falls_by s x l (shape l).0 (shape l).1

-- an effect that makes a literal true
record Made (s : ℕ → Bool) (x : Action) (l : ℕ) : Type 0 where
  pub effect : Effect
  pub among : Among effect x.effects
  pub literal : effect.literal ≡ l
  pub condition : all_hold s effect.condition ≡ true

made_by : (s : ℕ → Bool) (x : Action) (l : ℕ) → action_makes s x l ≡ true → Made s x l
made_by s x l t =
    let p = passing (is_active s l) x.effects t in
    let y = and_split (p.one.literal == l) (all_hold s p.one.condition) p.passes in
    record { effect = p.one; among = p.among; literal = test_same _ _ y.0; condition = y.1 }

any_made : (s : ℕ → Bool) (x : Action) (l : ℕ) (e : Effect) → Among e x.effects → e.literal ≡ l → all_hold s e.condition ≡ true → action_makes s x l ≡ true
any_made s x l e i a c = any_at (is_active s l) x.effects e i (and_both (e.literal == l) _ (same_test e.literal l a) c)

same_twice : (b : Bool) → (b || b) ≡ true → b ≡ true
same_twice true t = refl
same_twice false t = t

-- clauses that hold in a state
abbrev HoldIn : (ℕ → ℕ → Bool) → (ℕ → Bool) → Type 0
HoldIn V s = (l m : ℕ) → V l m ≡ true → (holds s l || holds s m) ≡ true

module _ (V : ℕ → ℕ → Bool) (s : ℕ → Bool) (hold : HoldIn V s) where
  other_true : (l m : ℕ) → holds s l ≡ true → (holds s (opposite l) ≡ true) ⊎ (holds s m ≡ true) → holds s m ≡ true
  other_true l m t (inl o) = absurd (literal_or_opposite s l t o)
  other_true l m t (inr h) = h

  full : (base : List ℕ) → all_hold s base ≡ true → IsFull V base (holds s)
  full base t = record {
    given = each_from _ base (λ l i. all_at (holds s) base l t i);
    single = λ l v. same_twice (holds s l) (hold l l v);
    chain = λ l m i v. other_true l m i (or_split _ _ (hold (opposite l) m v));
  }

  -- what is known holds
  known_true : (base : List ℕ) → all_hold s base ≡ true → (m : ℕ) → IsKnown V base m → holds s m ≡ true
  known_true base t m known = known (holds s) (full base t)

  all_known_true : (base : List ℕ) → all_hold s base ≡ true → (lits : List ℕ) → AllKnown V base lits → all_hold s lits ≡ true
  all_known_true base t [] all = refl
  all_known_true base t (l ∷ lits) all = and_both _ _ (known_true base t l all.0) (all_known_true base t lits all.1)

  module _ (x : Action) (runs : all_hold s x.precondition ≡ true) where
    joined : (ls ms : List ℕ) → all_hold s ls ≡ true → all_hold s ms ≡ true → all_hold s (ls ++ ms) ≡ true
    joined ls ms a b = list_all-append (holds s) ls ms ∙ and_both _ _ a b

    takes_from : (c : List ℕ) → all_hold s c ≡ true → (l : ℕ) (e : Effect) → e.literal ≡ opposite l → all_hold s e.condition ≡ true → (is_add l ≡ true → action_makes s x l ≡ false) → Takes V x c e l
    takes_from c tc l e lit te never =
        let base = x.precondition ++ (c ++ e.condition) in
        let all : all_hold s base ≡ true = joined x.precondition _ runs (joined c e.condition tc te) in
        record {
          against = lit;
          consistent = λ m p q. literal_or_opposite s m (known_true base all m p) (known_true base all (opposite m) q);
          stands = λ even. each_from _ x.effects (λ f i is known. apart _ (any_made s x l f i is (all_known_true base all f.condition known)) (never even));
        }

    loses_from : (c : List ℕ) → all_hold s c ≡ true → (l : ℕ) → (holds s l || action_makes s x l) ≡ true → holds (after s x) l ≡ false → Loses V x c l
    loses_from c tc l held gone =
        let fell = falls s x l held gone in
        let m = made_by s x (opposite l) fell.0 in
        any_from _ x.effects m.effect m.among (λ f same. subst (λ (g : Effect). Takes V x c g l) same (takes_from c tc l m.effect m.literal m.condition fell.1))

    -- what is sure holds afterwards
    given_made : (m : ℕ) (base : List ℕ) → all_hold s base ≡ true → (es : List Effect) → ((e : Effect) → Among e es → Among e x.effects) → AnyByRecursion (λ e. (e.literal ≡ m) × AllKnown V base e.condition) es → action_makes s x m ≡ true
    given_made m base t [] sub g = absurd g
    given_made m base t (e ∷ es) sub (inl g) = any_made s x m e (sub e (inl refl)) g.0 (all_known_true base t e.condition g.1)
    given_made m base t (e ∷ es) sub (inr g) = given_made m base t es (λ f i. sub f (inr i)) g

    sure_holds : (c : List ℕ) → all_hold s c ≡ true → (m : ℕ) → Sure V x c m → holds (after s x) m ≡ false → ⊥
    sure_holds c tc m sure gone = sure.stays (loses_from c tc m (held sure.holds) gone)
      where
        held : IsKnown V (x.precondition ++ c) m ⊎ Gives V x c m → (holds s m || action_makes s x m) ≡ true
        held (inl known) = or_left _ _ (known_true (x.precondition ++ c) (joined x.precondition c runs tc) m known)
        held (inr g) = or_right _ _ (given_made m (x.precondition ++ c) (joined x.precondition c runs tc) x.effects (λ e i. i) g)

    -- where l fell and m does not hold afterwards, an effect takes l where m is not sure
    broken_by : (l m : ℕ) → holds s l ≡ true → holds (after s x) l ≡ false → holds (after s x) m ≡ false → BreaksBy V x l m
    broken_by l m held gone other =
        let fell = falls s x l (or_left _ _ held) gone in
        let made = made_by s x (opposite l) fell.0 in
        any_from _ x.effects made.effect made.among (λ f same. subst (λ (g : Effect). Takes V x [] g l × (Sure V x g.condition m → ⊥)) same
        (takes_from [] refl l made.effect made.literal made.condition fell.1, λ sure. sure_holds made.effect.condition made.condition m sure other))

    fallen : (l m : ℕ) → holds (after s x) l ≡ false → holds (after s x) m ≡ false → (l ≡ m) ⊎ (l ≡ m → ⊥) → (holds s l ≡ true) ⊎ (holds s m ≡ true) → Breaks V x l m
    fallen l m gl gm (inl e) (inl t) = inl (e, loses_from [] refl l (or_left _ _ t) gl)
    fallen l m gl gm (inl e) (inr t) = inl (e, loses_from [] refl l (or_left _ _ (ap (holds s) e ∙ t)) gl)
    fallen l m gl gm (inr d) (inl t) = inr (d, inl (broken_by l m t gl gm))
    fallen l m gl gm (inr d) (inr t) = inr (d, inr (broken_by m l t gm gl))

    clause_stays : (l m : ℕ) → (Breaks V x l m → ⊥) → V l m ≡ true → (holds (after s x) l || holds (after s x) m) ≡ true
    clause_stays l m unbroken v = step (cases (holds (after s x) l || holds (after s x) m))
      where
        same_or_not : (a b : ℕ) → (a ≡ b) ⊎ (a ≡ b → ⊥)
        same_or_not a b = grind arith

        step : ((holds (after s x) l || holds (after s x) m) ≡ true) ⊎ ((holds (after s x) l || holds (after s x) m) ≡ false) → (holds (after s x) l || holds (after s x) m) ≡ true
        step (inl t) = t
        step (inr f) = (let n = or_none _ _ f in absurd (unbroken (fallen l m n.0 n.1 (same_or_not l m) (or_split _ _ (hold l m v)))))

run_holds : (task : Task) (V : ℕ → ℕ → Bool) → IsClosed task V → (ks : List ℕ) (s : ℕ → Bool) → HoldIn V s → CanRun task s ks → HoldIn V (run task s ks)
run_holds task V closed [] s hold can = hold
run_holds task V closed (a ∷ ks) s hold can =
    run_holds task V closed ks (next_of_one task s a) (λ l m v. clause_stays V s hold (action task a) can.0.able l m (closed.unbroken a can.0.action l m v) v) can.1

knows_from : (clauses : List (ℕ × ℕ)) (s : ℕ → Bool) → HoldIn (has_clause clauses) s → Knows clauses s
knows_from clauses s hold = each_from _ clauses (λ c i. hold c.0 c.1 (any_at _ clauses c i (or_left _ _ (and_both (c.0 == c.0) _ (same_test c.0 c.0 refl) (same_test c.1 c.1 refl)))))

pub invariants_hold : InvariantsHold
invariants_hold task clauses are ks can =
    knows_from clauses (run task (initial_state task) ks) (run_holds task (has_clause clauses) are.closed ks (initial_state task) are.closed.initial can)
