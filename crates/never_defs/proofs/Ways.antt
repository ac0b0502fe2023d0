-- Where all literals of a clause are false after an action, one of its cases holds before it.
use Rattle.std.proofs.Common.{◌≡◌, ℕ, ◌==◌, List, [], ◌∷◌, map, Bool, true, false, ◌&&◌, refl, ap, sym, ◌∙◌, subst, ◌⊎◌, inl, inr}
use Rattle.std.specs.Prelude.{if◌then◌else◌}
use Rattle.std.specs.List.{filter, flat_map}
use Rattle.gt_core.specs.Literal.{opposite, holds, all_hold}
use Rattle.gt_core.specs.Task.{Effect, Action}
use Rattle.gt_core.specs.Execution.{action_makes}
use Rattle.gt_core.specs.Interference.{action_surely_makes}
use Rattle.gt_core.proofs.published.Basics.{Among, or_left, or_right, apart, cases, same_test, test_same, not_true}
use Rattle.gt_core.proofs.published.Pairwise.{among_left, among_right}
use Rattle.implied_literals.specs.Breaks.{is_add}
use Rattle.never_defs.specs.Sets.{is_true_in, AreTrue}
use Rattle.never_defs.specs.Cases.{Case, conditions_of, none_makes, if_made, ways_of, both, cases_of}
use Rattle.never_defs.proofs.Truth.{after, Came, came, made_by, any_made, opposite_true, joined, true_joined}

-- a case holds in a state
pub record HoldsIn (s : ℕ → Bool) (q : Case) : Type 0 where
  pub literals : all_hold s q.literals ≡ true
  pub clauses : AreTrue s q.clauses

-- one of some cases holds
pub record SomeHolds (s : ℕ → Bool) (qs : List Case) : Type 0 where
  pub one : Case
  pub among : Among one qs
  pub holds : HoldsIn s one

-- of literals that do not all hold some opposite holds
some_false : (s : ℕ → Bool) (ls : List ℕ) → all_hold s ls ≡ false → is_true_in s (map opposite ls) ≡ true
some_false s [] f = cc
some_false s (l ∷ ls) f = elim (cases (holds s l)) [
  | inl t ↦ or_right _ _ (some_false s ls (subst (λ (b : Bool). (b && all_hold s ls) ≡ false) t f))
  | inr n ↦ or_left _ _ (opposite_true s l n)
]

-- where no effect makes a literal true, its clauses are true
none_true : (s : ℕ → Bool) (x : Action) (l : ℕ) → action_makes s x l ≡ false → AreTrue s (none_makes x l)
none_true s x l none = go x.effects (λ e i. i)
  where
    by : (e : Effect) (es : List Effect) (b : Bool) → (e.literal == l) ≡ b → Among e x.effects → AreTrue s (map (map opposite) (map (λ d. d.condition) (filter (λ d. d.literal == l) es))) → AreTrue s (map (map opposite) (map (λ d. d.condition) (if b then e ∷ filter (λ d. d.literal == l) es else filter (λ d. d.literal == l) es)))
    by e es true t i rest = (some_false s e.condition (not_true _ (λ h. apart _ (any_made s x l e i (test_same _ _ t) h) none)), rest)
    by e es false t i rest = rest

    go : (es : List Effect) → ((e : Effect) → Among e es → Among e x.effects) → AreTrue s (map (map opposite) (map (λ d. d.condition) (filter (λ d. d.literal == l) es)))
    go [] sub = tt
    go (e ∷ es) sub = by e es (e.literal == l) refl (sub e (inl refl)) (go es (λ d i. sub d (inr i)))

made_true : (s : ℕ → Bool) (x : Action) (l : ℕ) → Came s x l → AreTrue s (if_made x l)
made_true s x l c = by (is_add l) refl
  where
    by : (b : Bool) → is_add l ≡ b → AreTrue s (if b then [] else none_makes x (opposite l))
    by true e = tt
    by false e = none_true s x (opposite l) (c.wins e)

-- the condition of an effect with a literal is listed
condition_among : (x : Action) (l : ℕ) (e : Effect) → Among e x.effects → e.literal ≡ l → Among e.condition (conditions_of x l)
condition_among x l e i same = go x.effects i
  where
    here : (d : Effect) (es : List Effect) (b : Bool) → (d.literal == l) ≡ b → (e ≡ d) ⊎ Among e.condition (map (λ g. g.condition) (filter (λ g. g.literal == l) es)) → Among e.condition (map (λ g. g.condition) (if b then d ∷ filter (λ g. g.literal == l) es else filter (λ g. g.literal == l) es))
    here d es true t (inl s) = inl (ap (λ (g : Effect). g.condition) s)
    here d es true t (inr r) = inr r
    here d es false t (inl s) = absurd (apart _ (same_test d.literal l (ap (λ (g : Effect). g.literal) (sym s) ∙ same)) t)
    here d es false t (inr r) = r

    go : (es : List Effect) → Among e es → Among e.condition (map (λ g. g.condition) (filter (λ g. g.literal == l) es))
    go [] a = absurd a
    go (d ∷ es) (inl s) = here d es (d.literal == l) refl (inl s)
    go (d ∷ es) (inr a) = here d es (d.literal == l) refl (inr (go es a))

among_map : {A B : Type 0} (f : A → B) (xs : List A) (x : A) → Among x xs → Among (f x) (map f xs)
among_map f [] x a = absurd a
among_map f (y ∷ ys) x (inl s) = inl (ap f s)
among_map f (y ∷ ys) x (inr a) = inr (among_map f ys x a)

-- the ways, by whether an effect surely makes the literal true
abbrev ways_if : Action → ℕ → Bool → List Case
ways_if x l b =
    if b
    then record { literals = []; clauses = if_made x l } ∷ []
    else record { literals = l ∷ []; clauses = none_makes x (opposite l) } ∷ map (λ c. record { literals = c; clauses = if_made x l }) (conditions_of x l)

-- why a literal holds afterwards is one of its ways
some_way : (s : ℕ → Bool) (x : Action) (l : ℕ) → Came s x l → SomeHolds s (ways_of x l)
some_way s x l c = by (action_surely_makes x l) c.from
  where
    by : (b : Bool) → (action_makes s x l ≡ true) ⊎ ((holds s l ≡ true) × (action_makes s x (opposite l) ≡ false)) → SomeHolds s (ways_if x l b)
    by true from = record { one = record { literals = []; clauses = if_made x l }; among = inl refl; holds = record { literals = refl; clauses = made_true s x l c } }
    by false (inl m) =
        let e = made_by s x l m in
        record {
          one = record { literals = e.effect.condition; clauses = if_made x l };
          among = inr (among_map (λ (d : List ℕ). let q : Case = record { literals = d; clauses = if_made x l } in q) (conditions_of x l) e.effect.condition (condition_among x l e.effect e.among e.literal));
          holds = record { literals = e.condition; clauses = made_true s x l c };
        }
    by false (inr h) = record { one = record { literals = l ∷ []; clauses = none_makes x (opposite l) }; among = inl refl; holds = record { literals = rw h.0 refl; clauses = none_true s x (opposite l) h.1 } }

among_flat : (f : Case → List Case) (qs : List Case) (q r : Case) → Among q qs → Among r (f q) → Among r (flat_map f qs)
among_flat f [] q r a b = absurd a
among_flat f (p ∷ qs) q r (inl s) b = among_left (f p) (flat_map f qs) r (subst (λ (z : Case). Among r (f z)) s b)
among_flat f (p ∷ qs) q r (inr a) b = among_right (f p) (flat_map f qs) r (among_flat f qs q r a b)

-- where each literal of a clause is false afterwards, a case of it holds
pub some_case : (s : ℕ → Bool) (x : Action) (c : List ℕ) → ((l : ℕ) → Among l c → holds (after s x) l ≡ false) → SomeHolds s (cases_of x c)
some_case s x [] h = record { one = record { literals = []; clauses = [] }; among = inl refl; holds = record { literals = refl; clauses = tt } }
some_case s x (l ∷ c) h =
    let w = some_way s x (opposite l) (came s x (opposite l) (opposite_true (after s x) l (h l (inl refl)))) in
    let r = some_case s x c (λ m i. h m (inr i)) in
    record {
      one = both w.one r.one;
      among = among_flat (λ p. map (both p) (cases_of x c)) (ways_of x (opposite l)) w.one (both w.one r.one) w.among (among_map (both w.one) (cases_of x c) r.one r.among);
      holds = record { literals = joined s w.one.literals r.one.literals w.holds.literals r.holds.literals; clauses = true_joined s w.one.clauses r.one.clauses w.holds.clauses r.holds.clauses };
    }
