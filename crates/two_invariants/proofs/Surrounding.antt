use Rattle.std.proofs.Common.{arith, ◌≡◌, ◌==◌, ℕ, ◌+◌, ◌-◌, ◌*◌, ◌/◌, ◌%◌, List, length, Bool, true, false, not, ◌&&◌, ◌||◌, refl, ap, sym, ◌∙◌, ◌⊎◌, inl, inr}
use Rattle.std.specs.Prelude.{nat_lt, if◌then◌else◌}
use Rattle.std.proofs.lemmas.Bool.Decides.{nat_tests}
use Rattle.gt_core.specs.Literal.{opposite, holds}
use Rattle.gt_core.specs.Task.{Task, initial_state}
use Rattle.gt_core.proofs.published.Basics.{and_split, and_both, not_true, not_false, not_split, same_test, test_same, apart, same_if}
use Rattle.gt_core.proofs.published.Literals.{half_opposite}
use Rattle.implied_literals.specs.Rows.{clause_in}
use Rattle.two_invariants.specs.own.First.{is_first}
use Rattle.two_invariants.specs.own.Greatest.{Surrounds}
use Rattle.std.proofs.lemmas.Bool.{lt-ltb}
use Rattle.two_invariants.proofs.Steps.{opposite_test}

-- The first clauses surround the invariants.

same_half : (l m : ℕ) → l / 2 ≡ m / 2 → (l ≡ m) ⊎ (opposite l ≡ m)
same_half l m e = by (l % 2 == 0) (m % 2 == 0) refl refl
  where
    by : (b c : Bool) → (l % 2 == 0) ≡ b → (m % 2 == 0) ≡ c → (l ≡ m) ⊎ ((if b then l + 1 else l - 1) ≡ m)
    by true true p q = let x : l % 2 ≡ 0 = test_same (l % 2) 0 p in let y : m % 2 ≡ 0 = test_same (m % 2) 0 q in inl (omega arith)
    by true false p q = let x : l % 2 ≡ 0 = test_same (l % 2) 0 p in let y : m % 2 ≡ 1 = grind (arith, nat_tests) in inr (omega arith)
    by false true p q = let x : l % 2 ≡ 1 = grind (arith, nat_tests) in let y : m % 2 ≡ 0 = test_same (m % 2) 0 q in inr (omega arith)
    by false false p q = let x : l % 2 ≡ 1 = grind (arith, nat_tests) in let y : m % 2 ≡ 1 = grind (arith, nat_tests) in inl (omega arith)

not_opposite_itself : (l : ℕ) → opposite l ≡ l → ⊥
not_opposite_itself l e = by (l % 2 == 0) refl e
  where
    by : (b : Bool) → (l % 2 == 0) ≡ b → (if b then l + 1 else l - 1) ≡ l → ⊥
    by true p q = omega arith
    by false p q = let x : l % 2 ≡ 1 = grind (arith, nat_tests) in omega arith

proper_first : (l m : ℕ) → (opposite l == m) ≡ false → (l ≡ m) ⊎ (l / 2 ≡ m / 2 → ⊥)
proper_first l m f = by (same_or_not (l / 2) (m / 2))
  where
    same_or_not : (a b : ℕ) → (a ≡ b) ⊎ (a ≡ b → ⊥)
    same_or_not a b = grind arith

    half : (l ≡ m) ⊎ (opposite l ≡ m) → (l ≡ m) ⊎ (l / 2 ≡ m / 2 → ⊥)
    half (inl e) = inl e
    half (inr e) = absurd (apart _ (same_test (opposite l) m e) f)

    by : (l / 2 ≡ m / 2) ⊎ (l / 2 ≡ m / 2 → ⊥) → (l ≡ m) ⊎ (l / 2 ≡ m / 2 → ⊥)
    by (inl e) = half (same_half l m e)
    by (inr d) = inr d

pub not_opposite : (l m : ℕ) → (l ≡ m) ⊎ (l / 2 ≡ m / 2 → ⊥) → opposite l ≡ m → ⊥
not_opposite l m (inl e) o = not_opposite_itself l (o ∙ sym e)
not_opposite l m (inr d) o = d (sym (half_opposite l) ∙ ap (λ (k : ℕ). k / 2) o)

either_first : (facts : ℕ) (s : ℕ → Bool) (l m : ℕ) → is_first facts s l m ≡ is_first facts s m l
either_first facts s l m =
    swap (nat_lt l (2 * facts)) (nat_lt m (2 * facts)) (opposite l == m) (opposite m == l) (holds s l) (holds s m)
    (sym (opposite_test l m) ∙ same_if (l == opposite m) (opposite m == l) (λ t. same_test _ _ (sym (test_same _ _ t))) (λ t. same_test _ _ (sym (test_same _ _ t))))
  where
    swap : (a b o p x y : Bool) → o ≡ p → (a && (b && (not o && (x || y)))) ≡ (b && (a && (not p && (y || x))))
    swap a b o p x y e = grind arith

first_inner : (facts : ℕ) (s : ℕ → Bool) (l m : ℕ) → is_first facts s l m ≡ true → (not (opposite l == m) && (holds s l || holds s m)) ≡ true
first_inner facts s l m t = (and_split _ _ (and_split (nat_lt l (2 * facts)) _ t).1).1

pub surrounds_first : (task : Task) (rows : List (List ℕ)) → length task.initial ≡ task.facts → ((l m : ℕ) → clause_in rows l m ≡ is_first (length task.initial) (initial_state task) l m) → Surrounds task rows
surrounds_first task rows long same = record {
  either = λ l m. same l m ∙ either_first (length task.initial) (initial_state task) l m ∙ sym (same m l);
  proper = λ l m t. proper_first l m (not_split _ (and_split _ _ (inner l m t)).0);
  initial = λ l m t. (and_split _ _ (inner l m t)).1;
  greatest = λ V closed l m v. same l m ∙ and_both _ _ (lt-ltb l _ (let h = closed.within l m v in omega (arith, h, long))) (and_both _ _ (lt-ltb m _ (let h = closed.within m l (sym (closed.either l m) ∙ v) in omega (arith, h, long)))
      (and_both _ _ (not_false _ (not_true _ (λ t. not_opposite l m (closed.proper l m v) (test_same _ _ t)))) (closed.initial l m v)));
}
  where
    inner : (l m : ℕ) → clause_in rows l m ≡ true → (not (opposite l == m) && (holds (initial_state task) l || holds (initial_state task) m)) ≡ true
    inner l m t = first_inner (length task.initial) (initial_state task) l m (sym (same l m) ∙ t)
