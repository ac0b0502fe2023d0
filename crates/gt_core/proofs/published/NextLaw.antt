use Rattle.std.proofs.Common.{arith, ◌≡◌, ◌==◌, ℕ, zero, suc, ◌+◌, ◌*◌, ◌<◌, List, [], ◌∷◌, ◌++◌, map, length, Bool, true, false, not, ◌&&◌, ◌||◌, refl, ap, ◌∙◌}
use Rattle.std.specs.Prelude.{slice_index_or}
use Rattle.std.specs.List.{list_any}
use Rattle.std.proofs.Math.Bool.{or-false}
use Rattle.std.proofs.lemmas.List.Folds.{list_any-append}
use Rattle.gt_core.specs.Literal.{state_of, range, range_from}
use Rattle.gt_core.specs.Task.{Effect, Action, Task, EffectOf, owned, effects_from, effects, action}
use Rattle.gt_core.specs.Active.{is_active}
use Rattle.gt_core.specs.Execution.{next_of_one, next_values}
use Rattle.gt_core.proofs.published.Basics.{same_test, not_true, test_same}

-- The effects of an action among all effects of its task, and the state after it.

-- an action's effects in two parts
pub owned_append : (a : ℕ) (es ds : List Effect) → owned a (es ++ ds) ≡ owned a es ++ owned a ds
owned_append a [] ds = refl
owned_append a (e ∷ es) ds = ap (λ (r : List EffectOf). record { action = a; condition = e.condition; literal = e.literal } ∷ r) (owned_append a es ds)

-- a test of effects that looks at their action first
abbrev pub of_action : ℕ → (Effect → Bool) → EffectOf → Bool
of_action a p e = (e.action == a) && p (record { condition = e.condition; literal = e.literal })

any_owned_by : (p : Effect → Bool) (k a : ℕ) (b : Bool) (es : List Effect) → (k == a) ≡ b → list_any (of_action a p) (owned k es) ≡ (b && list_any p es)
any_owned_by p k a true [] s = refl
any_owned_by p k a false [] s = refl
any_owned_by p k a true (e ∷ es) s = rw (s, any_owned_by p k a true es s) refl
any_owned_by p k a false (e ∷ es) s = rw (s, any_owned_by p k a false es s) refl

none_before : (p : Effect → Bool) (first a : ℕ) (xs : List Action) → a < first → list_any (of_action a p) (effects_from first xs) ≡ false
none_before p first a [] lt = refl
none_before p first a (x ∷ xs) lt =
    let ne : (first == a) ≡ false = not_true (first == a) (λ e. let s : first ≡ a = test_same _ _ e in omega arith) in
    list_any-append (of_action a p) (owned first x.effects) _ ∙ rw (any_owned_by p first a false x.effects ne, none_before p (first + 1) a xs (omega arith)) refl

any_at_number : (p : Effect → Bool) (first k : ℕ) (xs : List Action) → list_any (of_action (first + k) p) (effects_from first xs) ≡ list_any p (slice_index_or xs k (record { precondition = []; effects = [] })).effects
any_at_number p first k [] = refl
any_at_number p first zero (x ∷ xs) =
    let same : (first == first + 0) ≡ true = same_test _ _ (omega arith) in
    list_any-append (of_action (first + 0) p) (owned first x.effects) _ ∙ rw (any_owned_by p first (first + 0) true x.effects same, none_before p (first + 1) (first + 0) xs (omega arith)) (or-false (list_any p x.effects))
any_at_number p first (suc k) (x ∷ xs) =
    let ne : (first == first + suc k) ≡ false = not_true (first == first + suc k) (λ e. let s : first ≡ first + suc k = test_same _ _ e in omega arith) in
    let next : first + suc k ≡ (first + 1) + k = omega arith in
    list_any-append (of_action (first + suc k) p) (owned first x.effects) _
    ∙ rw (any_owned_by p first (first + suc k) false x.effects ne) (rw next (any_at_number p (first + 1) k xs))

-- a test over the effects of an action, among all effects and among its own
pub any_of_action : (task : Task) (p : Effect → Bool) (a : ℕ) → list_any (of_action a p) (effects task) ≡ list_any p (action task a).effects
any_of_action task p a = let z : a ≡ 0 + a = omega arith in ap (λ (n : ℕ). list_any (of_action n p) (effects task)) z ∙ any_at_number p 0 a task.actions

-- an add over a delete, each over the state before
pub settled : (g d now : Bool) → (g || (now && not d)) ≡ (g || (now && not (d && not g)))
settled true d now = refl
settled false true true = refl
settled false true false = refl
settled false false true = refl
settled false false false = refl

-- a list of truth values by what it says of each fact
values_from : (p : ℕ → Bool) (first : ℕ) (values : List Bool) → ((k : ℕ) → k < length values → state_of values k ≡ p (first + k)) → values ≡ map p (range_from first (length values))
values_from p first [] h = refl
values_from p first (v ∷ vs) h =
    let at : v ≡ p (first + 0) = h 0 (omega arith) in
    let here : v ≡ p first = let z : first + 0 ≡ first = omega arith in rw z at at in
    let rest : vs ≡ map p (range_from (first + 1) (length vs)) = values_from p (first + 1) vs (λ k lt. let z : (first + 1) + k ≡ first + suc k = omega arith in rw z (h (suc k) (omega arith))) in
    rw (← here) (ap (λ (r : List Bool). v ∷ r) rest)

pub values_are : (p : ℕ → Bool) (facts : ℕ) (values : List Bool) → length values ≡ facts → ((f : ℕ) → f < facts → state_of values f ≡ p f) → values ≡ map p (range facts)
values_are p facts values long h =
    values_from p 0 values (λ k lt. let z : 0 + k ≡ k = omega arith in rw z (h k (omega arith))) ∙ ap (λ (n : ℕ). map p (range n)) long

-- the state after an action, from its deletes and then its adds
pub next_after : (task : Task) (s : ℕ → Bool) (a : ℕ) (values : List Bool) → length values ≡ task.facts → ((f : ℕ) → f < task.facts → state_of values f ≡ (list_any (is_active s (2 * f)) (action task a).effects || (s f && not (list_any (is_active s (2 * f + 1)) (action task a).effects)))) → values ≡ next_values task s a
next_after task s a values long h =
    values_are (next_of_one task s a) task.facts values long (λ f lt.
    h f lt ∙ settled (list_any (is_active s (2 * f)) (action task a).effects) (list_any (is_active s (2 * f + 1)) (action task a).effects) (s f))
