use Rattle.std.proofs.Common.{arith, ◌≡◌, ◌==◌, ℕ, ◌+◌, ◌*◌, ◌<◌, ◌≤◌, List, length, get_or, drop, Bool, true, false, not, ◌&&◌, ◌||◌, refl, ap, sym, ◌∙◌, ◌⊎◌, inl, inr}
use Rattle.std.specs.Prelude.{nat_lt}
use Rattle.std.specs.List.{list_any}
use Rattle.std.proofs.lemmas.List.{drop_more}
use Rattle.std.proofs.lemmas.Bool.{cases_lt, lt-ltb, ltb-true, le-ltb}
use Rattle.bit_sets.specs.Rows.{row_has}
use Rattle.gt_core.specs.Literal.{opposite, holds}
use Rattle.gt_core.proofs.published.Basics.{passing, or_split, and_split, same_test, test_same, same_if}
use Rattle.gt_core.proofs.published.Literals.{opposite_twice}
use Rattle.implied_literals.specs.Rows.{row_at, clause_in, AreRows}
use Rattle.implied_literals.specs.Tested.{IsSetOf, AreRowsOf, with_more}
use Rattle.two_invariants.specs.own.First.{is_first}
use Rattle.implied_literals.proofs.published.Steps.{past_rows}
use Rattle.gt_core.specs.Limits.{most_facts}

-- What the loops and branches of the code need.

-- ---- numbers and literals

-- an effect has the opposite of a literal where the literal is the opposite of its own
pub opposite_test : (e l : ℕ) → (e == opposite l) ≡ (opposite e == l)
opposite_test e l = same_if (e == opposite l) (opposite e == l)
    (λ t. same_test (opposite e) l (ap opposite (test_same e (opposite l) t) ∙ opposite_twice l))
    (λ t. same_test e (opposite l) (sym (opposite_twice e) ∙ ap opposite (test_same (opposite e) l t)))

pub and_true : (a b : Bool) → a ≡ true → b ≡ (a && b)
and_true true b e = refl
and_true false b e = cc

-- the clauses of a literal that holds, and of one that does not
pub first_true : (facts : ℕ) (s : ℕ → Bool) (l m : ℕ) → l < 2 * facts → holds s l ≡ true → (not (opposite l == m) && nat_lt m (2 * facts)) ≡ is_first facts s l m
first_true facts s l m lt t =
    swap (not (opposite l == m)) (nat_lt m (2 * facts)) (holds s l) (holds s m) t
    ∙ and_true (nat_lt l (2 * facts)) _ (lt-ltb l (2 * facts) lt)
  where
    swap : (o n h k : Bool) → h ≡ true → (o && n) ≡ (n && (o && (h || k)))
    swap o n h k e = grind arith

pub first_false : (facts : ℕ) (s : ℕ → Bool) (l m : ℕ) → l < 2 * facts → holds s l ≡ false → (not (opposite l == m) && (nat_lt m (2 * facts) && holds s m)) ≡ is_first facts s l m
first_false facts s l m lt f =
    swap (not (opposite l == m)) (nat_lt m (2 * facts)) (holds s l) (holds s m) f
    ∙ and_true (nat_lt l (2 * facts)) _ (lt-ltb l (2 * facts) lt)
  where
    swap : (o n h k : Bool) → h ≡ false → (o && (n && k)) ≡ (n && (o && (h || k)))
    swap o n h k e = grind arith

-- ---- sets with more literals

pub more_within : (size : ℕ) (rows : List (List ℕ)) (set : ℕ → Bool) (ls : List ℕ) → AreRowsOf size rows → IsSetOf size set → IsSetOf size (with_more rows set ls)
more_within size rows set ls are within m t = by (or_split (set m) _ t)
  where
    by : (set m ≡ true) ⊎ (list_any (λ l. row_has (row_at rows l) m) ls ≡ true) → m < size
    by (inl h) = within m h
    by (inr h) = let p = passing (λ l. row_has (row_at rows l) m) ls h in are.each p.one m p.passes

-- ---- effects that may take a literal

pub any_rest : {A : Type 0} (p : A → Bool) (xs : List A) (i : ℕ) (x : A) → i < length xs → x ≡ get_or xs i x → list_any p (drop i xs) ≡ (p x || list_any p (drop (i + 1) xs))
any_rest p xs i x l at = ap (list_any p) (drop_more xs i x l) ∙ ap (λ (y : _). p y || list_any p (drop (i + 1) xs)) (sym at)

-- ---- rows that are made one by one

first_past : (facts : ℕ) (s : ℕ → Bool) (l m : ℕ) → 2 * facts ≤ l → is_first facts s l m ≡ false
first_past facts s l m le = ap (λ (b : Bool). b && (nat_lt m (2 * facts) && (not (opposite l == m) && (holds s l || holds s m)))) (le-ltb l (2 * facts) le)

pub first_everywhere : (facts : ℕ) (s : ℕ → Bool) (rows : List (List ℕ)) → length rows ≡ 2 * facts → ((k m : ℕ) → k < 2 * facts → clause_in rows k m ≡ is_first facts s k m) → (l m : ℕ) → clause_in rows l m ≡ is_first facts s l m
first_everywhere facts s rows long each l m = elim (cases_lt l (2 * facts)) [
  | inl below ↦ each l m below
  | inr le ↦ past_rows rows l m (omega arith) ∙ sym (first_past facts s l m le)
]

pub first_are_rows : (facts : ℕ) (s : ℕ → Bool) (rows : List (List ℕ)) → facts ≤ most_facts → length rows ≡ 2 * facts → ((k m : ℕ) → k < 2 * facts → clause_in rows k m ≡ is_first facts s k m) → AreRows facts rows
first_are_rows facts s rows few long each = record {
  few = few;
  long = long;
  within = λ l m t. ltb-true m (2 * facts) (and_split _ _ (and_split _ _ (sym (first_everywhere facts s rows long each l m) ∙ t)).1).0;
}
