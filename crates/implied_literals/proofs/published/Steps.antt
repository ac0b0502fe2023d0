use Rattle.std.proofs.Common.{arith, ◌≡◌, ◌==◌, ℕ, ◌+◌, ◌*◌, ◌<◌, ◌≤◌, List, [], ◌∷◌, ◌++◌, length, Bool, true, false, ◌&&◌, ◌||◌, refl, ap, sym, ◌∙◌, Some, None, Option}
use Rattle.std.specs.Prelude.{nat_lt, is_some}
use Rattle.std.specs.List.{list_any}
use Rattle.std.proofs.lemmas.List.{get_or_past}
use Rattle.std.proofs.lemmas.Bool.Decides.{nat_tests}
use Rattle.bit_sets.specs.Rows.{row_has, IsLeastFrom}
use Rattle.gt_core.specs.Literal.{opposite}
use Rattle.gt_core.proofs.published.Basics.{and_both, test_same}
use Rattle.implied_literals.specs.Rows.{clause_in}
use Rattle.std.proofs.Math.Bool.{or-false}
use Rattle.std.proofs.lemmas.List.Folds.{list_any-append}
use Rattle.std.proofs.lemmas.Bool.{lt-ltb}

-- What the loops and branches of the code need.

-- ---- numbers and literals

pub opposite_below : (l n : ℕ) → l < 2 * n → opposite l < 2 * n
opposite_below l n h = grind (arith, nat_tests)

-- ---- sets of the first numbers

pub more_below : (s : ℕ → Bool) (l m : ℕ) → s l ≡ true → ((l == m) || (nat_lt m l && s m)) ≡ (nat_lt m (l + 1) && s m)
more_below s l m t = by (l == m) refl
  where
    by : (b : Bool) → (l == m) ≡ b → (b || (nat_lt m l && s m)) ≡ (nat_lt m (l + 1) && s m)
    by true e = let same : l ≡ m = test_same l m e in sym (and_both _ _ (lt-ltb m (l + 1) (omega arith)) (ap s (sym same) ∙ t))
    by false e = ap (λ (b : Bool). b && s m) (grind (arith, nat_tests))

pub same_below : (s : ℕ → Bool) (l m : ℕ) → s l ≡ false → (nat_lt m l && s m) ≡ (nat_lt m (l + 1) && s m)
same_below s l m f = by (l == m) refl
  where
    none : (a b c : Bool) → c ≡ false → (a && c) ≡ (b && c)
    none true true c e = refl
    none true false c e = e
    none false true c e = sym e
    none false false c e = refl

    by : (b : Bool) → (l == m) ≡ b → (nat_lt m l && s m) ≡ (nat_lt m (l + 1) && s m)
    by true e = none (nat_lt m l) (nat_lt m (l + 1)) (s m) (ap s (sym (test_same l m e)) ∙ f)
    by false e = ap (λ (b : Bool). b && s m) (grind (arith, nat_tests))

-- ---- rows and lists

pub past_rows : (rows : List (List ℕ)) (l m : ℕ) → length rows ≤ l → clause_in rows l m ≡ false
past_rows rows l m le = ap (λ (r : List ℕ). row_has r m) (get_or_past rows l [] le) ∙ none m
  where
    none : (m : ℕ) → row_has [] m ≡ false
    none m = grind (arith, nat_tests)

pub any_push : {A : Type 0} (p : A → Bool) (xs : List A) (x : A) → list_any p (xs ++ x ∷ []) ≡ (list_any p xs || p x)
any_push p xs x = list_any-append p xs (x ∷ []) ∙ ap (λ (b : Bool). list_any p xs || b) (or-false (p x))

-- a set without a least element is empty
pub nothing_in : (p : ℕ → Bool) (o : Option ℕ) → IsLeastFrom p 0 o → is_some o ≡ false → (k : ℕ) → p k ≡ false
nothing_in p None h e k = h k (omega arith)
nothing_in p (Some j) h e k = cc
