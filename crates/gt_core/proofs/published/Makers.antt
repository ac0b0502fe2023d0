use Rattle.std.proofs.Common.{arith, ◌≡◌, ◌==◌, ℕ, zero, suc, ◌+◌, ◌*◌, ◌<◌, List, [], ◌∷◌, length, Bool, true, false, ◌&&◌, sym, ap, ◌∙◌, subst, inl, inr}
use Rattle.std.specs.Prelude.{slice_index_or}
use Rattle.std.specs.List.{list_any}
use Rattle.gt_core.specs.Literal.{all_hold}
use Rattle.gt_core.specs.Task.{Effect, Action, Task, EffectOf, owned, effects_from, effects, action, action_numbers}
use Rattle.gt_core.specs.Active.{is_active}
use Rattle.gt_core.specs.Execution.{makes, gains, loses}
use Rattle.gt_core.specs.Step.{gained, lost}
use Rattle.gt_core.proofs.published.Basics.{Among, passing, any_at, and_split, and_both, same_test, test_same}
use Rattle.gt_core.proofs.published.Literals.{among_range}
use Rattle.gt_core.proofs.published.Pairwise.{among_left, among_right}
use Rattle.gt_core.proofs.published.NextLaw.{of_action, any_of_action}

-- The effects behind a gain or a loss.

-- an effect that makes a literal true for an action
pub record Maker (task : Task) (s : ℕ → Bool) (a l : ℕ) : Type 0 where
  pub effect : EffectOf
  pub among : Among effect (effects task)
  pub action : effect.action ≡ a
  pub literal : effect.literal ≡ l
  pub condition : all_hold s effect.condition ≡ true

pub maker : (task : Task) (s : ℕ → Bool) (a l : ℕ) → makes task s a l ≡ true → Maker task s a l
maker task s a l h =
    let p = passing (of_action a (is_active s l)) (effects task) (any_of_action task (is_active s l) a ∙ h) in
    let x = and_split (p.one.action == a) _ p.passes in
    let y = and_split (p.one.literal == l) (all_hold s p.one.condition) x.1 in
    record { effect = p.one; among = p.among; action = test_same _ _ x.0; literal = test_same _ _ y.0; condition = y.1 }

pub made : (task : Task) (s : ℕ → Bool) (a l : ℕ) → Maker task s a l → makes task s a l ≡ true
made task s a l m =
    sym (any_of_action task (is_active s l) a)
    ∙ any_at (of_action a (is_active s l)) (effects task) m.effect m.among
    (and_both (m.effect.action == a) _ (same_test _ _ m.action) (and_both (m.effect.literal == l) _ (same_test _ _ m.literal) m.condition))

-- an effect of an action is among all effects, beside its number
pub own_among : (task : Task) (a : ℕ) (e : Effect) → Among e (action task a).effects → Among (record { action = a; condition = e.condition; literal = e.literal }) (effects task)
own_among task a e i = let z : 0 + a ≡ a = omega arith in subst (λ (n : ℕ). Among (record { action = n; condition = e.condition; literal = e.literal }) (effects task)) z (own_from 0 task.actions a e i)
  where
    owned_among : (k : ℕ) (es : List Effect) (e : Effect) → Among e es → Among (record { action = k; condition = e.condition; literal = e.literal }) (owned k es)
    owned_among k [] e i = absurd i
    owned_among k (d ∷ es) e (inl s) = inl (ap (λ (x : Effect). record { action = k; condition = x.condition; literal = x.literal }) s)
    owned_among k (d ∷ es) e (inr i) = inr (owned_among k es e i)

    own_from : (first : ℕ) (xs : List Action) (a : ℕ) (e : Effect) → Among e (slice_index_or xs a (record { precondition = []; effects = [] })).effects → Among (record { action = first + a; condition = e.condition; literal = e.literal }) (effects_from first xs)
    own_from first [] a e i = absurd i
    own_from first (x ∷ xs) zero e i =
        let z : first ≡ first + 0 = omega arith in
        among_left _ _ _ (subst (λ (n : ℕ). Among (record { action = n; condition = e.condition; literal = e.literal }) (owned first x.effects)) z (owned_among first x.effects e i))
    own_from first (x ∷ xs) (suc a) e i =
        let z : (first + 1) + a ≡ first + suc a = omega arith in
        among_right (owned first x.effects) _ _ (subst (λ (n : ℕ). Among (record { action = n; condition = e.condition; literal = e.literal }) (effects_from (first + 1) xs)) z (own_from (first + 1) xs a e i))

-- what has an effect is one of the actions
pub has_effect_below : (xs : List Action) (a : ℕ) (p : Effect → Bool) → list_any p (slice_index_or xs a (record { precondition = []; effects = [] })).effects ≡ true → a < length xs
has_effect_below [] a p h = absurd (let e : false ≡ true = h in cc)
has_effect_below (x ∷ xs) zero p h = omega arith
has_effect_below (x ∷ xs) (suc a) p h = let r = has_effect_below xs a p h in omega arith

makes_among : (task : Task) (s : ℕ → Bool) (a l : ℕ) → makes task s a l ≡ true → Among a (action_numbers task)
makes_among task s a l h = let lt = has_effect_below task.actions a (is_active s l) h in among_range (length task.actions) 0 a (omega arith) (omega arith)

-- a member of a set that passes a test
pub record Doer (members does : ℕ → Bool) : Type 0 where
  pub one : ℕ
  pub member : members one ≡ true
  pub done : does one ≡ true

doer : (task : Task) (members does : ℕ → Bool) → list_any (λ a. members a && does a) (action_numbers task) ≡ true → Doer members does
doer task members does h =
    let p = passing (λ a. members a && does a) (action_numbers task) h in
    let x = and_split (members p.one) (does p.one) p.passes in
    record { one = p.one; member = x.0; done = x.1 }

done_by : (task : Task) (members does : ℕ → Bool) (a l : ℕ) (s : ℕ → Bool) → members a ≡ true → does a ≡ true → makes task s a l ≡ true → list_any (λ a. members a && does a) (action_numbers task) ≡ true
done_by task members does a l s e d m = any_at (λ a. members a && does a) (action_numbers task) a (makes_among task s a l m) (and_both (members a) (does a) e d)

-- a member gains a fact
pub gainer : (task : Task) (members s : ℕ → Bool) (f : ℕ) → gained task s members f ≡ true → Doer members (λ a. gains task s a f)
gainer task members s f h = doer task members (λ a. gains task s a f) h

pub gained_by : (task : Task) (members s : ℕ → Bool) (a f : ℕ) → members a ≡ true → gains task s a f ≡ true → gained task s members f ≡ true
gained_by task members s a f e g = done_by task members (λ a. gains task s a f) a (2 * f) s e g g

-- a member loses a fact
pub loser : (task : Task) (members s : ℕ → Bool) (f : ℕ) → lost task s members f ≡ true → Doer members (λ a. loses task s a f)
loser task members s f h = doer task members (λ a. loses task s a f) h

pub lost_by : (task : Task) (members s : ℕ → Bool) (a f : ℕ) → members a ≡ true → loses task s a f ≡ true → lost task s members f ≡ true
lost_by task members s a f e l =
    let m = and_split (makes task s a (2 * f + 1)) _ l in
    done_by task members (λ a. loses task s a f) a (2 * f + 1) s e l m.0
