-- The clauses that a restart drops: they are learned ones, and none of them is kept after.
use Rattle.std.proofs.Common.{arith, ◌≡◌, ℕ, zero, suc, ◌+◌, ◌-◌, ◌/◌, ◌<◌, ◌≤◌, List, [], ◌∷◌, length, take, filter, set, get_or, if◌then◌else◌, Bool, true, false, refl}
use Rattle.std.specs.List.{AllByRecursion, range_with_len}
use Rattle.cdcl_defs.specs.State.{is_kept}
use Rattle.cdcl_defs.specs.declared.trail.Assigned.{Assigned}
use Rattle.cdcl_defs.specs.Reduce.{candidates, first_half, kept_without, is_candidate}

set_off : (kept : List Bool) (m n : ℕ) → get_or kept n false ≡ false → get_or (set kept m false) n false ≡ false
set_off [] m n e = e
set_off (b ∷ kept) zero zero e = refl
set_off (b ∷ kept) zero (suc n) e = e
set_off (b ∷ kept) (suc m) zero e = e
set_off (b ∷ kept) (suc m) (suc n) e = set_off kept m n e

set_own : (kept : List Bool) (n : ℕ) → get_or (set kept n false) n false ≡ false
set_own [] n = refl
set_own (b ∷ kept) zero = refl
set_own (b ∷ kept) (suc n) = set_own kept n

stays_off : (ns : List ℕ) (kept : List Bool) (n : ℕ) → is_kept kept n ≡ false → is_kept (kept_without kept ns) n ≡ false
stays_off [] kept n e = e
stays_off (m ∷ ns) kept n e = stays_off ns (set kept m false) n (set_off kept m n e)

-- none of what was dropped is kept
pub gone_all : (ns : List ℕ) (kept : List Bool) → AllByRecursion (λ n. is_kept (kept_without kept ns) n ≡ false) ns
gone_all [] kept = tt
gone_all (n ∷ ns) kept = (stays_off ns (set kept n false) n (set_own kept n), gone_all ns (set kept n false))

all_take : (P : ℕ → Type 0) (n : ℕ) (xs : List ℕ) → AllByRecursion P xs → AllByRecursion P (take n xs)
all_take P zero xs a = tt
all_take P (suc n) [] a = tt
all_take P (suc n) (x ∷ xs) a = (a.0, all_take P n xs a.1)

all_filter : (P : ℕ → Type 0) (q : ℕ → Bool) (xs : List ℕ) → AllByRecursion P xs → AllByRecursion P (filter q xs)
all_filter P q [] a = tt
all_filter P q (x ∷ xs) a = by (q x) (all_filter P q xs a.1)
  where
    by : (b : Bool) → AllByRecursion P (filter q xs) → AllByRecursion P (if b then x ∷ filter q xs else filter q xs)
    by true r = (a.0, r)
    by false r = r

all_range : (low high a n : ℕ) → low ≤ a → a + n ≤ high → AllByRecursion (λ k. (low ≤ k) × (k < high)) (range_with_len a n)
all_range low high a zero l h = tt
all_range low high a (suc n) l h = ((l, omega (arith, h)), all_range low high (a + 1) n (omega (arith, l)) (omega (arith, h)))

-- what is dropped are learned clauses
pub half_learned : (given : ℕ) (clauses : List (List ℕ)) (kept : List Bool) (trail : List Assigned) → given ≤ length clauses
    → AllByRecursion (λ n. (given ≤ n) × (n < length clauses)) (first_half (candidates given clauses kept trail))
half_learned given clauses kept trail le =
    let P : ℕ → Type 0 = (λ n. (given ≤ n) × (n < length clauses)) in
    all_take P (length (candidates given clauses kept trail) / 2) (candidates given clauses kept trail)
    (all_filter P (is_candidate clauses kept trail) (range_with_len given (length clauses - given))
    (all_range given (length clauses) given (length clauses - given) (omega arith) (omega (arith, le))))

-- what holds of all holds of each
pub all_at : (P : ℕ → Type 0) (xs : List ℕ) (i : ℕ) → AllByRecursion P xs → i < length xs → P (get_or xs i 0)
all_at P [] i a h = absurd (omega (arith, h))
all_at P (x ∷ xs) zero a h = a.0
all_at P (x ∷ xs) (suc i) a h = all_at P xs i a.1 (omega (arith, h))
