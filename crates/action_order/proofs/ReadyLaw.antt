use Rattle.std.proofs.Common.{arith, ◌≡◌, ℕ, ◌<◌, ◌==◌, List, [], ◌∷◌, Bool, true, false, refl, sym, subst, ◌⊎◌, inl, inr, Ordering, Less, Equal, Greater, cond}
use Rattle.std.specs.Prelude.{nat_lt}
use Rattle.std.specs.List.{All}
use Rattle.std.specs.Ordering.{nat_cmp, match_ordering}
use Rattle.std.specs.BTreeSet.{insert_key}
use Rattle.std.specs.BTreeMap.Range.{IsLtBy}
use Rattle.std.proofs.lemmas.Bool.Decides.{nat_tests}
use Rattle.gt_core.specs.Literal.{is_in}
use Rattle.gt_core.proofs.published.Basics.{or_split, or_left, or_right, same_test, test_same}
use Rattle.action_order.specs.own.Graph.{item}
use Rattle.action_order.specs.own.KeySet.{IsFirst, IsWith}
use Rattle.action_order.proofs.published.Lists.{place_of}

-- An ordered set of numbers by what stands in it.

abbrev choose : Ordering → ℕ → ℕ → List ℕ → List ℕ → List ℕ
choose o k y xs more = match_ordering o (k ∷ y ∷ xs) (y ∷ xs) (y ∷ more)

nat_equal : (k y : ℕ) → nat_cmp k y ≡ Equal → k ≡ y
nat_equal k y e = by (nat_lt k y) (k == y) refl refl e
  where
    by : (a b : Bool) → nat_lt k y ≡ a → (k == y) ≡ b → cond a Less (cond b Equal Greater) ≡ Equal → k ≡ y
    by true b s t e = cc
    by false true s t e = test_same k y t
    by false false s t e = cc

nat_less : (k y : ℕ) → nat_cmp k y ≡ Less → k < y
nat_less k y e = by (nat_lt k y) (k == y) refl refl e
  where
    by : (a b : Bool) → nat_lt k y ≡ a → (k == y) ≡ b → cond a Less (cond b Equal Greater) ≡ Less → k < y
    by true b s t e = grind (arith, nat_tests)
    by false true s t e = cc
    by false false s t e = cc

in_choose : (o : Ordering) (k y : ℕ) (xs more : List ℕ) → (o ≡ Equal → k ≡ y) → is_in more k ≡ true → is_in (choose o k y xs more) k ≡ true
in_choose Less k y xs more e h = or_left (k == k) _ (same_test k k refl)
in_choose Equal k y xs more e h = or_left (y == k) _ (same_test y k (sym (e refl)))
in_choose Greater k y xs more e h = or_right (y == k) _ h

kept_choose : (o : Ordering) (k y x : ℕ) (xs more : List ℕ) → (is_in xs x ≡ true → is_in more x ≡ true) → is_in (y ∷ xs) x ≡ true → is_in (choose o k y xs more) x ≡ true
kept_choose Less k y x xs more m h = or_right (k == x) _ h
kept_choose Equal k y x xs more m h = h
kept_choose Greater k y x xs more m h = elim (or_split (y == x) (is_in xs x) h) [ inl e ↦ or_left (y == x) _ e | inr i ↦ or_right (y == x) _ (m i) ]

only_choose : (o : Ordering) (k y x : ℕ) (xs more : List ℕ) → (is_in more x ≡ true → (x ≡ k) ⊎ (is_in xs x ≡ true)) → is_in (choose o k y xs more) x ≡ true → (x ≡ k) ⊎ (is_in (y ∷ xs) x ≡ true)
only_choose Less k y x xs more m h = elim (or_split (k == x) (is_in (y ∷ xs) x) h) [ inl e ↦ inl (sym (test_same k x e)) | inr i ↦ inr i ]
only_choose Equal k y x xs more m h = inr h
only_choose Greater k y x xs more m h =
    elim (or_split (y == x) (is_in more x) h) [
      | inl e ↦ inr (or_left (y == x) _ e)
      | inr i ↦ elim (m i) [ inl s ↦ inl s | inr j ↦ inr (or_right (y == x) _ j) ]
    ]

pub with_key : (xs : List ℕ) (k : ℕ) → IsWith xs k (insert_key nat_cmp xs k)
with_key [] k = record { added = or_left (k == k) false (same_test k k refl); kept = λ x h. absurd (let f : false ≡ true = h in cc); only = λ x h. elim (or_split (k == x) false h) [ inl e ↦ inl (sym (test_same k x e)) | inr f ↦ inr f ] }
with_key (y ∷ xs) k =
    let r = with_key xs k in
    record {
      added = in_choose (nat_cmp k y) k y xs (insert_key nat_cmp xs k) (nat_equal k y) r.added;
      kept = λ x h. kept_choose (nat_cmp k y) k y x xs (insert_key nat_cmp xs k) (r.kept x) h;
      only = λ x h. only_choose (nat_cmp k y) k y x xs (insert_key nat_cmp xs k) (r.only x) h;
    }

pub first_key : (before : List ℕ) (k : ℕ) (after : List ℕ) → before ≡ k ∷ after → All (IsLtBy nat_cmp k) after → IsFirst before k after
first_key before k after e above = record {
  among = rw e (or_left (k == k) _ (same_test k k refl));
  others = λ x h. (
    rw e (or_right (k == x) _ h),
    let p = place_of after x h in
        subst (λ (y : ℕ). k < y) p.is (nat_less k (item after p.place) (above p.place 0 p.within)),
  );
  rest = λ x h. elim (or_split (k == x) (is_in after x) (rw e at h)) [ inl s ↦ inl (sym (test_same k x s)) | inr i ↦ inr i ];
}
