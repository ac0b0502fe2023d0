use Rattle.std.proofs.Common.{arith, ◌≡◌, ◌==◌, ℕ, ◌+◌, ◌-◌, ◌*◌, ◌/◌, ◌%◌, ◌<◌, List, [], ◌∷◌, ◌++◌, length, take, Bool, true, false, not, ◌&&◌, ◌||◌, refl, sym, ap, ◌∙◌, subst, inl, inr}
use Rattle.std.specs.Prelude.{slice_index_or, if◌then◌else◌}
use Rattle.std.specs.List.{list_any, AllByRecursion}
use Rattle.gt_core.specs.Literal.{opposite, is_in}
use Rattle.gt_core.specs.Task.{Effect}
use Rattle.gt_core.proofs.published.Basics.{passing, any_at, each_at, each_from, and_split, and_both, or_split, or_left, or_right, same_if, test_same}
use Rattle.gt_core.proofs.published.Literals.{in_among, among_in, add_opposite, delete_opposite, even_is_add, odd_is_delete, add_is_even, delete_is_odd}
use Rattle.gt_core.specs.Interference.{action_may_make, action_surely_makes, action_surely_loses, actions_clash}
use Rattle.action_order.specs.own.Readers.{of_effects}
use Rattle.action_order.specs.own.Sure.{is_sure, is_sure_of, makes_surely, AreMade}
use Rattle.action_order.proofs.GrowLaw.{any_more, in_pushed}

-- The literals that an action surely makes true, and what they say of two actions.

abbrev sure_in : List Effect → ℕ → Bool
sure_in effects l = action_surely_makes (of_effects effects) l

abbrev may_in : List Effect → ℕ → Bool
may_in effects l = action_may_make (of_effects effects) l

abbrev lost_in : List Effect → ℕ → Bool
lost_in effects f = action_surely_loses (of_effects effects) f

abbrev clash_in : List Effect → List Effect → Bool
clash_in gaining losing = actions_clash (of_effects gaining) (of_effects losing)

kept_test : (q c s t b x : Bool) → x ≡ (s && t) → (q ≡ true → b ≡ (c && t)) → ((b && q) || x) ≡ (((q && c) || s) && t)
kept_test true true s true b x e h = let y = h refl in rw y refl
kept_test true true s false b x e h = let y = h refl in rw (y, e) (none s)
  where
    none : (s : Bool) → ((false && true) || (s && false)) ≡ (((true && true) || s) && false)
    none true = refl
    none false = refl
kept_test true false s t b x e h = let y = h refl in rw (y, e) refl
kept_test false c s t true x e h = e
kept_test false c s t false x e h = e

-- one more effect, whose literal is listed where it is surely made true
pub sure_more : (effects : List Effect) (made sure : List ℕ) (i : ℕ) (d : Effect) → i < length effects
    → AreMade made effects → ((l : ℕ) → is_in sure l ≡ is_sure_of (take i effects) effects l)
    → (l : ℕ) → ((makes_surely made (slice_index_or effects i d) && ((slice_index_or effects i d).literal == l)) || is_in sure l) ≡ is_sure_of (take (i + 1) effects) effects l
sure_more effects made sure i d lt m s l =
    let e = slice_index_or effects i d in
    kept_test (e.literal == l) (length e.condition == 0) (sure_in (take i effects) l) ((l % 2 == 0) || not (may_in effects (l - 1))) (makes_surely made e) (is_in sure l) (s l) (λ q.
    subst (λ (k : ℕ). makes_surely made e ≡ ((length e.condition == 0) && ((k % 2 == 0) || not (may_in effects (k - 1))))) (test_same e.literal l q) (ap (λ (b : Bool). (length e.condition == 0) && ((e.literal % 2 == 0) || not b)) (m (e.literal - 1))))
    ∙ ap (λ (b : Bool). b && ((l % 2 == 0) || not (may_in effects (l - 1)))) (sym (any_more (λ x. (x.literal == l) && (length x.condition == 0)) effects i d lt))

pub pushed : (b : Bool) (sure : List ℕ) (x l : ℕ) → is_in (if b then sure ++ x ∷ [] else sure) l ≡ ((b && (x == l)) || is_in sure l)
pushed true sure x l = in_pushed sure x l
pushed false sure x l = refl

-- a literal that is surely made true is that of an effect
pub sure_below : (top : ℕ) (effects : List Effect) (sure : List ℕ) → ((l : ℕ) → is_in sure l ≡ is_sure effects l) → AllByRecursion (λ e. e.literal < top) effects → AllByRecursion (λ l. l < top) sure
sure_below top effects sure s h = each_from _ sure (λ l i.
    let t : is_sure effects l ≡ true = sym (s l) ∙ among_in sure l i in
    let p = passing (λ e. (e.literal == l) && (length e.condition == 0)) effects (and_split (sure_in effects l) _ t).0 in
    let same = test_same p.one.literal l (and_split (p.one.literal == l) _ p.passes).0 in
    subst (λ (k : ℕ). k < top) same (each_at (λ x. x.literal < top) effects p.one h p.among))

pub gain_is : (effects : List Effect) (f : ℕ) → is_sure effects (2 * f) ≡ sure_in effects (2 * f)
gain_is effects f = let even : ((2 * f) % 2 == 0) ≡ true = add_is_even (2 * f) f refl in rw even (all (sure_in effects (2 * f)))
  where
    all : (b : Bool) → (b && true) ≡ b
    all true = refl
    all false = refl

pub loss_is : (effects : List Effect) (f : ℕ) → is_sure effects (2 * f + 1) ≡ lost_in effects f
loss_is effects f =
    let odd : ((2 * f + 1) % 2 == 0) ≡ false = delete_is_odd (2 * f + 1) f refl in
    let less : (2 * f + 1) - 1 ≡ 2 * f = omega arith in
    rw (odd, less) refl

-- a fact that the one surely gains and the other surely loses
clash_at : (gaining losing : List Effect) (f : ℕ) → sure_in gaining (2 * f) ≡ true → lost_in losing f ≡ true → clash_in gaining losing ≡ true
clash_at gaining losing f g l =
    let m = passing (λ e. (e.literal == 2 * f) && (length e.condition == 0)) gaining g in
    let same : m.one.literal / 2 ≡ f = let e = test_same _ _ (and_split (m.one.literal == 2 * f) _ m.passes).0 in omega arith in
    any_at _ gaining m.one m.among (subst (λ (k : ℕ). (sure_in gaining (2 * k) && lost_in losing k) ≡ true) (sym same) (and_both _ _ g l))

record Clash (gaining losing : List Effect) : Type 0 where
  fact : ℕ
  gained : sure_in gaining (2 * fact) ≡ true
  lost : lost_in losing fact ≡ true

clash_of : (gaining losing : List Effect) → clash_in gaining losing ≡ true → Clash gaining losing
clash_of gaining losing h =
    let p = passing (λ e. sure_in gaining (2 * (e.literal / 2)) && lost_in losing (e.literal / 2)) gaining h in
    let x = and_split (sure_in gaining (2 * (p.one.literal / 2))) _ p.passes in
    record { fact = p.one.literal / 2; gained = x.0; lost = x.1 }

-- a literal that the other surely makes true, and the one its opposite
opposed : (x y : List Effect) (l : ℕ) → is_sure y l ≡ true → is_sure x (opposite l) ≡ true → (clash_in x y || clash_in y x) ≡ true
opposed x y l s o = by (l % 2 == 0) refl
  where
    by : (b : Bool) → (l % 2 == 0) ≡ b → (clash_in x y || clash_in y x) ≡ true
    by true e =
        let f = l / 2 in
        let is : l ≡ 2 * f = even_is_add l e in
        let gained : sure_in y (2 * f) ≡ true = sym (gain_is y f) ∙ subst (λ (k : ℕ). is_sure y k ≡ true) is s in
        let lost : lost_in x f ≡ true = sym (loss_is x f) ∙ subst (λ (k : ℕ). is_sure x k ≡ true) (add_opposite l f is) o in
        or_right (clash_in x y) (clash_in y x) (clash_at y x f gained lost)
    by false e =
        let f = l / 2 in
        let is : l ≡ 2 * f + 1 = odd_is_delete l e in
        let lost : lost_in y f ≡ true = sym (loss_is y f) ∙ subst (λ (k : ℕ). is_sure y k ≡ true) is s in
        let gained : sure_in x (2 * f) ≡ true = sym (gain_is x f) ∙ subst (λ (k : ℕ). is_sure x k ≡ true) (delete_opposite l f is) o in
        or_left (clash_in x y) (clash_in y x) (clash_at x y f gained lost)

-- a gain of the one is a loss of the other, or the other way round, where the opposite of a literal that the one
-- surely makes true is one that the other surely makes true
pub clash_is : (x y : List Effect) (own : ℕ → Bool) (sure : List ℕ) → ((l : ℕ) → is_in sure l ≡ is_sure y l) → ((l : ℕ) → is_in sure l ≡ true → own (opposite l) ≡ is_sure x (opposite l))
    → list_any (λ l. own (opposite l)) sure ≡ (clash_in x y || clash_in y x)
clash_is x y own sure s o = same_if _ _
    (λ h.
    let p = passing (λ l. own (opposite l)) sure h in
    let i = among_in sure p.one p.among in
    opposed x y p.one (sym (s p.one) ∙ i) (sym (o p.one i) ∙ p.passes))
    (λ h. elim (or_split (clash_in x y) (clash_in y x) h) [
      | inl a ↦
          let c = clash_of x y a in
          found (2 * c.fact + 1) (loss_is y c.fact ∙ c.lost) (subst (λ (k : ℕ). is_sure x k ≡ true) (sym (delete_opposite (2 * c.fact + 1) c.fact refl)) (gain_is x c.fact ∙ c.gained))
      | inr b ↦
          let c = clash_of y x b in
          found (2 * c.fact) (gain_is y c.fact ∙ c.gained) (subst (λ (k : ℕ). is_sure x k ≡ true) (sym (add_opposite (2 * c.fact) c.fact refl)) (loss_is x c.fact ∙ c.lost))
    ])
  where
    found : (l : ℕ) → is_sure y l ≡ true → is_sure x (opposite l) ≡ true → list_any (λ k. own (opposite k)) sure ≡ true
    found l a b = let i = s l ∙ a in any_at (λ k. own (opposite k)) sure l (in_among sure l i) (o l i ∙ b)
