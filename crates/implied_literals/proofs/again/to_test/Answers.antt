use Rattle.std.proofs.Common.{arith, ◌≡◌, ◌∙◌, ◌==◌, ◌||◌, ◌+◌, ◌<◌, ◌⊎◌, inl, inr, ap, sym, subst, Vec, Global, List, [], ◌∷◌, ◌++◌, length, Bool, true, ℕ}
use Rattle.std.specs.List.{list_any, AllByRecursion}
use Rattle.std.proofs.lemmas.List.{get_or_read}
use Rattle.gt_core.proofs.published.Basics.{or_left, or_right, or_split, same_test}
use Rattle.implied_literals.specs.Tested.{act_at}
use Rattle.implied_literals.specs.Renewed.{is_unmoved}
use Rattle.implied_literals.proofs.published.Lists.{all_joined}
use Rattle.implied_literals.proofs.published.Steps.{any_push}
use Rattle.implied_literals.proofs.again.to_test.Goals as goal
use Rattle.implied_literals.proofs.again.to_test.Goals.{then-not-is_unmoved+in_ok-push, else-not-is_unmoved}

-- a list has a number, or it is the one that is put at its end
pushed : (xs : List ℕ) (a k : ℕ) (u : Bool) → ((list_any (λ b. b == k) xs || u) ≡ true) ⊎ (a ≡ k) → (list_any (λ b. b == k) (xs ++ a ∷ []) || u) ≡ true
pushed xs a k u h = ap (λ (b : Bool). b || u) (any_push (λ b. b == k) xs a) ∙ by h
  where
    more : (list_any (λ b. b == k) xs ≡ true) ⊎ (u ≡ true) → ((list_any (λ b. b == k) xs || (a == k)) || u) ≡ true
    more (inl t) = or_left (list_any (λ b. b == k) xs || (a == k)) u (or_left (list_any (λ b. b == k) xs) (a == k) t)
    more (inr t) = or_right (list_any (λ b. b == k) xs || (a == k)) u t

    by : ((list_any (λ b. b == k) xs || u) ≡ true) ⊎ (a ≡ k) → ((list_any (λ b. b == k) xs || (a == k)) || u) ≡ true
    by (inl t) = more (or_split _ _ t)
    by (inr e) = or_left (list_any (λ b. b == k) xs || (a == k)) u (or_right (list_any (λ b. b == k) xs) (a == k) (same_test a k e))

pub loop-a-preserved : goal.loop-a-preserved
loop-a-preserved c =
    let i = c.loop-a.invariant in
    let a = c.loop-a.a in
    let acts = c.args.acts.now in
    let unmoved : ℕ → Bool = λ k. is_unmoved c.args.moved.now (act_at acts k) in
    let left : List ℕ → ℕ → Type 0 = λ xs k. (list_any (λ b. b == k) xs || unmoved k) ≡ true in
    let place : (k : ℕ) → k < a + 1 → (k < a) ⊎ (a ≡ k) = λ k lt. grind arith in
    elim c.if-not-is_unmoved.branch [
      | then-not-is_unmoved+in_ok-push w ↦
          let items = ap (λ (v : Vec ℕ Global). v.items) w.todo-is ∙ w.in_ok-push.ensures.items in
          record {
            numbers = subst (AllByRecursion (λ k. k < length acts)) (sym items) (all_joined (λ k. k < length acts) c.loop-a.todo.items (a ∷ []) i.numbers (c.loop-a-test.true, tt));
            left = λ k lt. subst (λ (xs : List ℕ). left xs k) (sym items) (elim (place k lt) [
              | inl l ↦ pushed c.loop-a.todo.items a k (unmoved k) (inl (i.left k l))
              | inr e ↦ pushed c.loop-a.todo.items a k (unmoved k) (inr e)
            ]);
          }
      | else-not-is_unmoved w ↦
          let items = ap (λ (v : Vec ℕ Global). v.items) w.todo-is in
          let read = get_or_read acts a c.index-acts-a.result c.loop-a-test.true c.index-acts-a.is (record { precondition = []; effects = [] }) in
          let same : unmoved a ≡ true = ap (is_unmoved c.args.moved.now) (sym read) ∙ sym c.is_unmoved.ensures ∙ w.if-not-is_unmoved.false in
          record {
            numbers = subst (AllByRecursion (λ k. k < length acts)) (sym items) i.numbers;
            left = λ k lt. subst (λ (xs : List ℕ). left xs k) (sym items) (elim (place k lt) [
              | inl l ↦ i.left k l
              | inr e ↦ or_right _ _ (subst (λ (j : ℕ). unmoved j ≡ true) e same)
            ]);
          }
    ]
