-- What holds in a state: clauses, sets of literals that are propagated, and the literals after an action.
use Rattle.std.proofs.Common.{arith, ◌≡◌, ℕ, ◌==◌, ◌+◌, ◌*◌, ◌/◌, List, [], ◌∷◌, ◌++◌, map, Bool, true, false, not, ◌&&◌, ◌||◌, refl, ap, sym, ◌∙◌, subst, ◌⊎◌, inl, inr}
use Rattle.std.proofs.lemmas.List.Folds.{list_all-append}
use Rattle.gt_core.specs.Literal.{opposite, holds, all_hold, is_in}
use Rattle.gt_core.specs.Task.{Effect, Action}
use Rattle.gt_core.specs.Active.{is_active}
use Rattle.gt_core.specs.Execution.{action_makes, action_gains, action_loses}
use Rattle.gt_core.specs.Interference.{has_clause, Knows}
use Rattle.gt_core.proofs.published.Basics.{Among, passing, any_at, or_split, or_left, or_right, and_split, and_both, apart, same_test, test_same, each_from, each_at, all_at, not_true}
use Rattle.gt_core.proofs.published.Literals.{opposite_holds, holds_add, holds_delete, add_opposite, delete_opposite, add_is_even, in_among}
use Rattle.implied_literals.specs.Known.{IsFull}
use Rattle.implied_literals.specs.Breaks.{is_add}
use Rattle.implied_literals.specs.Rows.{HasNoPair}
use Rattle.never_defs.specs.Sets.{is_true_in, AreTrue}
use Rattle.never_defs.specs.Propagation.{IsLeft, IsPropagated, IsRefuted}

pub both_hold : (s : ℕ → Bool) (l : ℕ) → holds s l ≡ true → holds s (opposite l) ≡ true → ⊥
both_hold s l t o = step (holds s l) t (sym (opposite_holds s l) ∙ o)
  where
    step : (b : Bool) → b ≡ true → not b ≡ true → ⊥
    step true e f = cc
    step false e f = cc

pub opposite_true : (s : ℕ → Bool) (l : ℕ) → holds s l ≡ false → holds s (opposite l) ≡ true
opposite_true s l f = opposite_holds s l ∙ ap not f

pub opposite_false : (s : ℕ → Bool) (l : ℕ) → holds s (opposite l) ≡ true → holds s l ≡ false
opposite_false s l t = not_true _ (λ h. both_hold s l h t)

-- a literal is that of a true fact or of a false one
pub shape : (l : ℕ) → (f : ℕ) × ((l ≡ 2 * f) ⊎ (l ≡ 2 * f + 1))
shape l = (l / 2, grind arith)

-- no literal of a false clause holds
pub none_holds : (s : ℕ → Bool) (c : List ℕ) → is_true_in s c ≡ false → (l : ℕ) → Among l c → holds s l ≡ false
none_holds s c f l i = not_true _ (λ h. apart _ (any_at (holds s) c l i h) f)

-- the opposites of its literals hold
pub opposites_hold : (s : ℕ → Bool) (c : List ℕ) → ((l : ℕ) → Among l c → holds s l ≡ false) → all_hold s (map opposite c) ≡ true
opposites_hold s [] h = refl
opposites_hold s (l ∷ c) h = and_both _ _ (opposite_true s l (h l (inl refl))) (opposites_hold s c (λ m i. h m (inr i)))

pub joined : (s : ℕ → Bool) (ls ms : List ℕ) → all_hold s ls ≡ true → all_hold s ms ≡ true → all_hold s (ls ++ ms) ≡ true
joined s ls ms a b = list_all-append (holds s) ls ms ∙ and_both _ _ a b

-- the literals of a list hold, one by one
pub given_hold : (s : ℕ → Bool) (ls : List ℕ) → all_hold s ls ≡ true → (l : ℕ) → is_in ls l ≡ true → holds s l ≡ true
given_hold s ls t l i = all_at (holds s) ls l t (in_among ls l i)

-- some known clause is the one of two literals
pub known_holds : (known : List (ℕ × ℕ)) (s : ℕ → Bool) → Knows known s → (l m : ℕ) → has_clause known l m ≡ true → (holds s l || holds s m) ≡ true
known_holds known s knows l m h =
    let p = passing (λ (c : ℕ × ℕ). ((c.0 == l) && (c.1 == m)) || ((c.0 == m) && (c.1 == l))) known h in
    let t = each_at (λ (c : ℕ × ℕ). (holds s c.0 || holds s c.1) ≡ true) known p.one knows p.among in
    elim (or_split _ _ p.passes) [
      | inl e ↦
          let z = and_split (p.one.0 == l) _ e in
          subst (λ (k : ℕ). (holds s k || holds s m) ≡ true) (test_same p.one.0 l z.0) (subst (λ (k : ℕ). (holds s p.one.0 || holds s k) ≡ true) (test_same p.one.1 m z.1) t)
      | inr e ↦
          let z = and_split (p.one.0 == m) _ e in
          swap (holds s m) (holds s l) (subst (λ (k : ℕ). (holds s k || holds s l) ≡ true) (test_same p.one.0 m z.0) (subst (λ (k : ℕ). (holds s p.one.0 || holds s k) ≡ true) (test_same p.one.1 l z.1) t))
    ]
  where
    swap : (b d : Bool) → (b || d) ≡ true → (d || b) ≡ true
    swap b d h = elim (or_split b d h) [ inl e ↦ or_right _ _ e | inr e ↦ or_left _ _ e ]

-- the literals that hold in a state are full under what is known there
pub state_full : (known : List (ℕ × ℕ)) (s : ℕ → Bool) → Knows known s → IsFull (has_clause known) [] (holds s)
state_full known s knows = record {
  given = tt;
  single = λ l v. twice _ (known_holds known s knows l l v);
  chain = λ l m i v. other l m i (or_split _ _ (known_holds known s knows (opposite l) m v));
}
  where
    twice : (b : Bool) → (b || b) ≡ true → b ≡ true
    twice true t = refl
    twice false t = t

    other : (l m : ℕ) → holds s l ≡ true → (holds s (opposite l) ≡ true) ⊎ (holds s m ≡ true) → holds s m ≡ true
    other l m t (inl o) = absurd (both_hold s l t o)
    other l m t (inr h) = h

-- of a true clause the literal that is left holds
left_holds : (s : ℕ → Bool) (c : List ℕ) (l : ℕ) → is_true_in s c ≡ true → IsLeft (holds s) c l → holds s l ≡ true
left_holds s c l t left =
    let p = passing (holds s) c t in
    elim (each_at (λ (m : ℕ). (m ≡ l) ⊎ (holds s (opposite m) ≡ true)) c p.one left p.among) [
      | inl e ↦ subst (λ (k : ℕ). holds s k ≡ true) e p.passes
      | inr o ↦ absurd (both_hold s p.one p.passes o)
    ]

-- the literals that hold in a state are propagated, and no two of them are opposite
pub state_propagated : (known : List (ℕ × ℕ)) (clauses : List (List ℕ)) (base s : ℕ → Bool) → Knows known s → AreTrue s clauses → ((l : ℕ) → base l ≡ true → holds s l ≡ true) → IsPropagated known clauses base (holds s)
state_propagated known clauses base s knows are h = record {
  given = h;
  full = state_full known s knows;
  unit = each_from _ clauses (λ c i l left. left_holds s c l (each_at (λ (d : List ℕ). is_true_in s d ≡ true) clauses c are i) left);
}

pub state_has_no_pair : (s : ℕ → Bool) → HasNoPair (holds s)
state_has_no_pair s f t u = both_hold s (2 * f) t (ap (holds s) (add_opposite (2 * f) f refl) ∙ u)

-- so nothing is refuted that a state makes true
pub not_refuted : (known : List (ℕ × ℕ)) (clauses : List (List ℕ)) (base s : ℕ → Bool) → Knows known s → AreTrue s clauses → ((l : ℕ) → base l ≡ true → holds s l ≡ true) → IsRefuted known clauses base → ⊥
not_refuted known clauses base s knows are h refuted = refuted (holds s) (state_propagated known clauses base s knows are h) (state_has_no_pair s)

pub true_joined : (s : ℕ → Bool) (cs ds : List (List ℕ)) → AreTrue s cs → AreTrue s ds → AreTrue s (cs ++ ds)
true_joined s [] ds t u = u
true_joined s (c ∷ cs) ds t u = (t.0, true_joined s cs ds t.1 u)

-- The state after an action.

abbrev pub after : (ℕ → Bool) → Action → ℕ → Bool
after s x f = action_gains s x f || (s f && not (action_loses s x f))

-- why a literal holds after an action
pub record Came (s : ℕ → Bool) (x : Action) (l : ℕ) : Type 0 where
  pub from : (action_makes s x l ≡ true) ⊎ ((holds s l ≡ true) × (action_makes s x (opposite l) ≡ false))
  pub wins : is_add l ≡ false → action_makes s x (opposite l) ≡ false

add_came : (a d v : Bool) → (a || (v && not (d && not a))) ≡ true → (a ≡ true) ⊎ ((v ≡ true) × (d ≡ false))
add_came true d v t = inl refl
add_came false true true t = cc
add_came false true false t = cc
add_came false false true t = inr (refl, refl)
add_came false false false t = cc

delete_came : (a d v : Bool) → not (a || (v && not (d && not a))) ≡ true → (a ≡ false) × ((d ≡ true) ⊎ (not v ≡ true))
delete_came true d v t = cc
delete_came false true v t = (refl, inl refl)
delete_came false false true t = cc
delete_came false false false t = (refl, inr refl)

came_by : (s : ℕ → Bool) (x : Action) (l f : ℕ) → (l ≡ 2 * f) ⊎ (l ≡ 2 * f + 1) → holds (after s x) l ≡ true → Came s x l
came_by s x l f (inl e) t =
    let y = add_came (action_makes s x (2 * f)) (action_makes s x (2 * f + 1)) (s f) (sym (holds_add (after s x) f) ∙ ap (holds (after s x)) (sym e) ∙ t) in
    record {
      from = elim y [
        | inl m ↦ inl (ap (action_makes s x) e ∙ m)
        | inr h ↦ inr (ap (holds s) e ∙ holds_add s f ∙ h.0, ap (action_makes s x) (add_opposite l f e) ∙ h.1)
      ];
      wins = λ odd. absurd (apart _ (add_is_even l f e) odd);
    }
came_by s x l f (inr e) t =
    let y = delete_came (action_makes s x (2 * f)) (action_makes s x (2 * f + 1)) (s f) (sym (holds_delete (after s x) f) ∙ ap (holds (after s x)) (sym e) ∙ t) in
    let never : action_makes s x (opposite l) ≡ false = ap (action_makes s x) (delete_opposite l f e) ∙ y.0 in
    record {
      from = elim y.1 [
        | inl m ↦ inl (ap (action_makes s x) e ∙ m)
        | inr h ↦ inr (ap (holds s) e ∙ holds_delete s f ∙ h, never)
      ];
      wins = λ odd. never;
    }

pub came : (s : ℕ → Bool) (x : Action) (l : ℕ) → holds (after s x) l ≡ true → Came s x l
came s x l = came_by s x l (shape l).0 (shape l).1

-- an effect that makes a literal true
pub record Made (s : ℕ → Bool) (x : Action) (l : ℕ) : Type 0 where
  pub effect : Effect
  pub among : Among effect x.effects
  pub literal : effect.literal ≡ l
  pub condition : all_hold s effect.condition ≡ true

pub made_by : (s : ℕ → Bool) (x : Action) (l : ℕ) → action_makes s x l ≡ true → Made s x l
made_by s x l t =
    let p = passing (is_active s l) x.effects t in
    let y = and_split (p.one.literal == l) (all_hold s p.one.condition) p.passes in
    record { effect = p.one; among = p.among; literal = test_same _ _ y.0; condition = y.1 }

pub any_made : (s : ℕ → Bool) (x : Action) (l : ℕ) (e : Effect) → Among e x.effects → e.literal ≡ l → all_hold s e.condition ≡ true → action_makes s x l ≡ true
any_made s x l e i a c = any_at (is_active s l) x.effects e i (and_both (e.literal == l) _ (same_test e.literal l a) c)
