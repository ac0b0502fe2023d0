-- Rising lists of numbers, and their parts.
use Rattle.std.proofs.Common.{arith, ◌≡◌, ◌==◌, ℕ, zero, suc, ◌+◌, ◌<◌, ◌≤◌, List, [], ◌∷◌, Bool, true, false, sym, ◌∙◌, filter, take, if◌then◌else◌, ◌⊎◌, inl, inr}
use Rattle.std.specs.List.{range_with_len}
use Rattle.clause_base.specs.Clause.{IsRising}
use Rattle.clause_base.proofs.published.ClauseLemmas.{rising-tail}
use Rattle.cdcl_defs.proofs.published.Tests.{or_split, and_split, test_same}
use Rattle.cdcl_defs.proofs.published.Members.{is_in, head_in, tail_in, is_in-filter}
use Rattle.cdcl_defs.proofs.Chain.{above_head}

rising_cons : (l : ℕ) (ls : List ℕ) → ((m : ℕ) → is_in ls m ≡ true → l < m) → IsRising ls → IsRising (l ∷ ls)
rising_cons l [] h r = tt
rising_cons l (m ∷ ls) h r = (h m (head_in m ls), r)

-- those that pass a test
pub filter_rising : (p : ℕ → Bool) (ls : List ℕ) → IsRising ls → IsRising (filter p ls)
filter_rising p [] r = tt
filter_rising p (l ∷ ls) r = by (filter_rising p ls (rising-tail l ls r)) (p l)
  where
    by : IsRising (filter p ls) → (b : Bool) → IsRising (if b then l ∷ filter p ls else filter p ls)
    by h true = rising_cons l (filter p ls) (λ m e. above_head l ls m r (and_split (is_in ls m) (p m) (sym (is_in-filter p ls m) ∙ e)).0) h
    by h false = h

-- the first of them
pub take_in : (n : ℕ) (ls : List ℕ) (m : ℕ) → is_in (take n ls) m ≡ true → is_in ls m ≡ true
take_in zero ls m e = cc
take_in (suc n) [] m e = e
take_in (suc n) (l ∷ ls) m e = by (or_split (l == m) (is_in (take n ls) m) e) (take_in n ls m)
  where
    by : ((l == m) ≡ true) ⊎ (is_in (take n ls) m ≡ true) → (is_in (take n ls) m ≡ true → is_in ls m ≡ true) → is_in (l ∷ ls) m ≡ true
    by (inl s) on = rw s
    by (inr s) on = tail_in l ls m (on s)

pub take_rising : (n : ℕ) (ls : List ℕ) → IsRising ls → IsRising (take n ls)
take_rising zero ls r = tt
take_rising (suc n) [] r = tt
take_rising (suc n) (l ∷ ls) r =
    rising_cons l (take n ls) (λ m e. above_head l ls m r (take_in n ls m e)) (take_rising n ls (rising-tail l ls r))

-- numbers in turn
pub range_in : (k n m : ℕ) → is_in (range_with_len k n) m ≡ true → (k ≤ m) × (m < k + n)
range_in k zero m e = cc
range_in k (suc n) m e = by (or_split (k == m) (is_in (range_with_len (k + 1) n) m) e) (range_in (k + 1) n m)
  where
    by : ((k == m) ≡ true) ⊎ (is_in (range_with_len (k + 1) n) m ≡ true) → (is_in (range_with_len (k + 1) n) m ≡ true → (k + 1 ≤ m) × (m < k + 1 + n)) → (k ≤ m) × (m < k + suc n)
    by (inl s) on = let t : k ≡ m = test_same k m s in (omega arith, omega arith)
    by (inr s) on = let h = on s in (omega (arith, h.0), omega (arith, h.1))

pub range_rising : (k n : ℕ) → IsRising (range_with_len k n)
range_rising k zero = tt
range_rising k (suc n) = rising_cons k (range_with_len (k + 1) n) (λ m e. let h = range_in (k + 1) n m e in omega (arith, h.0)) (range_rising (k + 1) n)
