use Rattle.std.proofs.Common.{arith, ◌≡◌, ℕ, ◌+◌, ◌*◌, ◌/◌, ◌%◌, ◌^◌, ◌<◌, true, false, sym, ◌⊎◌, inl, inr}
use Rattle.std.specs.Prelude.{List, slice_index}
use Rattle.bit_sets.specs.own.Words.{word_has, IsPairAcross}
use Rattle.bit_sets.proofs.published.WordLaw.{below_half, same_or_apart}
use Rattle.bit_sets.specs.Rows.{row_has}

-- An even number in one row and the next one in another, word by word.

pair_places : (i f : ℕ) → f < 32 → (2 * (32 * i + f) / 64 ≡ i) × (2 * (32 * i + f) % 64 ≡ 2 * f) × ((2 * (32 * i + f) + 1) / 64 ≡ i) × ((2 * (32 * i + f) + 1) % 64 ≡ 2 * f + 1)
pair_places i f l = (omega arith, omega arith, omega arith, omega arith)

pub pair_in_rows : (words others : List ℕ) (i w v : ℕ) → w ≡ slice_index words i → v ≡ slice_index others i → v < 2 ^ 64 → IsPairAcross (word_has w) (word_has v) true → IsPairAcross (row_has words) (row_has others) true
pair_in_rows words others i w v e d fits t =
    let p = pair_places i t.0 (below_half v t.0 fits t.2) in
    (32 * i + t.0, rw (p.0, p.1, sym e) t.1, rw (p.2, p.3, sym d) t.2)

-- none up to a place, and none in the words there
abbrev pub NoPairBelow : List ℕ → List ℕ → ℕ → Type 0
NoPairBelow words others i = (f : ℕ) → 2 * f / 64 < i → row_has words (2 * f) ≡ true → row_has others (2 * f + 1) ≡ true → ⊥

split_places : (f : ℕ) → (2 * f % 64 ≡ 2 * (f % 32)) × ((2 * f + 1) / 64 ≡ 2 * f / 64) × ((2 * f + 1) % 64 ≡ 2 * (f % 32) + 1)
split_places f = (omega arith, omega arith, omega arith)

pub no_pair_more : (words others : List ℕ) (i w v : ℕ) → w ≡ slice_index words i → v ≡ slice_index others i → IsPairAcross (word_has w) (word_has v) false → NoPairBelow words others i → NoPairBelow words others (i + 1)
no_pair_more words others i w v e d none below f l a b = by (same_or_apart (2 * f / 64) i) (split_places f)
  where
    by : (2 * f / 64 ≡ i) ⊎ (2 * f / 64 ≡ i → ⊥) → (2 * f % 64 ≡ 2 * (f % 32)) × ((2 * f + 1) / 64 ≡ 2 * f / 64) × ((2 * f + 1) % 64 ≡ 2 * (f % 32) + 1) → ⊥
    by (inl s) p = none (f % 32) (rw (e, sym s, sym p.0) a) (rw (d, sym s, sym p.1, sym p.2) b)
    by (inr d) p = below f (omega arith) a b
