-- Bits at which words differ.
use Rattle.std.proofs.Common.{arith, ◌≡◌, ◌==◌, ℕ, ◌+◌, ◌*◌, ◌/◌, ◌%◌, ◌<◌, List, true, get_or, sym, ap, ◌∙◌, bit_xor}
use Rattle.std.specs.Prelude.{slice_index}
use Rattle.std.specs.Int.{bit_at}
use Rattle.std.proofs.lemmas.Bool.Decides.{nat_tests}
use Rattle.std.proofs.lemmas.Nat.Bits.{bit_at_xor, bit_at-lt, bit_at-zero, same_from_bits}
use Rattle.bit_sets.specs.Rows.{row_has, word_has}

one_of : (x y : ℕ) → x < 2 → y < 2 → ((x + y) % 2 == 1) ≡ true → (x == 1) ≡ (y == 1) → ⊥
one_of x y a b odd same = grind (arith, nat_tests)

-- a bit of the exclusive or tells the words apart
pub xor_tells : (word other bit : ℕ) → word_has (bit_xor word other) bit ≡ true → word_has word bit ≡ word_has other bit → ⊥
xor_tells word other bit has same =
    one_of (bit_at word bit) (bit_at other bit) (bit_at-lt word bit) (bit_at-lt other bit) (ap (λ (n : ℕ). n == 1) (sym (bit_at_xor word other bit)) ∙ has) same

even_same : (x y : ℕ) → x < 2 → y < 2 → (x + y) % 2 ≡ 0 → x ≡ y
even_same x y a b even = omega (arith, a, b, even)

-- words whose exclusive or is 0 are equal
pub xor_none : (word other : ℕ) → bit_xor word other ≡ 0 → word ≡ other
xor_none word other none =
    same_from_bits word other
    (λ i. even_same (bit_at word i) (bit_at other i) (bit_at-lt word i) (bit_at-lt other i) (sym (bit_at_xor word other i) ∙ ap (λ (n : ℕ). bit_at n i) none ∙ bit_at-zero i))

-- a bit of a word as one of its row
pub bit_of_word : (row : List ℕ) (place bit : ℕ) → bit < 64 → row_has row (64 * place + bit) ≡ word_has (get_or row place 0) bit
bit_of_word row place bit lt =
    let q : (64 * place + bit) / 64 ≡ place = omega (arith, lt) in
    let r : (64 * place + bit) % 64 ≡ bit = omega (arith, lt) in
    ap (λ (n : ℕ). word_has (slice_index row n) ((64 * place + bit) % 64)) q ∙ ap (word_has (slice_index row place)) r

pub differ_at : (row other : List ℕ) (place bit : ℕ) → bit < 64 → (word_has (get_or row place 0) bit ≡ word_has (get_or other place 0) bit → ⊥) → row_has row (64 * place + bit) ≡ row_has other (64 * place + bit) → ⊥
differ_at row other place bit lt apart same = apart (sym (bit_of_word row place bit lt) ∙ same ∙ bit_of_word other place bit lt)
