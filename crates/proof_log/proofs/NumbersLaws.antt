-- The bytes of numbers, and the numbers back from them.
use Rattle.std.proofs.Common.{arith, ◌≡◌, ℕ, zero, suc, ◌+◌, ◌-◌, ◌*◌, ◌^◌, ◌<◌, ◌≤◌, List, [], ◌∷◌, ◌++◌, length, take, drop, get_or, append_assoc, All, refl, ap, sym, subst, ◌∙◌}
use Rattle.std.proofs.lemmas.List.{take-take, length-take, length_push, drop_more}
use Rattle.std.proofs.lemmas.List.Elements.{All-more}
use Rattle.std.proofs.Math.Seq.{take-append_seam}
use Rattle.std.proofs.lemmas.Bool.Decides.{nat_tests}
use Rattle.proof_log.specs.own.Number.{bytes_of, number_of, after_number}
use Rattle.proof_log.specs.own.Numbers.{step_to, step_from, steps_of, numbers_of, after_numbers}
use Rattle.proof_log.proofs.NumberLaws.{number_back, after_back}

pub length-numbers_of : (k last : ℕ) (bytes : List ℕ) → length (numbers_of k last bytes) ≡ k
length-numbers_of zero last bytes = refl
length-numbers_of (suc k) last bytes = ap (λ (n : ℕ). suc n) (length-numbers_of k (step_from last (number_of bytes)) (after_number bytes))

-- a step leads where it is to
step_back : (last n : ℕ) → n < 2 ^ 32 → step_from last (step_to last n) ≡ n
step_back last n h = grind (arith, nat_tests)

step_fits : (last n : ℕ) → last < 2 ^ 32 → n < 2 ^ 32 → step_to last n < 2 ^ 64
step_fits last n l h = grind (arith, nat_tests)

-- a step takes 33 bits
pub step_small : (last n : ℕ) → last < 2 ^ 32 → n < 2 ^ 32 → step_to last n < 2 ^ 33
step_small last n l h = grind (arith, nat_tests)

-- what holds of each number holds of each after the first
All_rest : (n : ℕ) (numbers : List ℕ) → All (λ n. n < 2 ^ 32) (n ∷ numbers) → All (λ n. n < 2 ^ 32) numbers
All_rest n numbers a = λ k d h. a (suc k) d (omega arith)

-- the first of numbers comes back
first_back : (last n : ℕ) (rest : List ℕ) → last < 2 ^ 32 → n < 2 ^ 32 → step_from last (number_of (bytes_of (step_to last n) ++ rest)) ≡ n
first_back last n rest l h = ap (step_from last) (number_back (step_to last n) rest (step_fits last n l h)) ∙ step_back last n h

-- numbers come back, and so does what follows them
pub numbers_back : (last : ℕ) (numbers rest : List ℕ) → last < 2 ^ 32 → All (λ n. n < 2 ^ 32) numbers → numbers_of (length numbers) last (steps_of last numbers ++ rest) ≡ numbers
numbers_back last [] rest l a = refl
numbers_back last (n ∷ numbers) rest l a =
    let more = steps_of n numbers ++ rest in
    let here : n < 2 ^ 32 = a 0 0 (omega arith) in
    let first = first_back last n more l here in
    let whole : steps_of last (n ∷ numbers) ++ rest ≡ bytes_of (step_to last n) ++ more = append_assoc (bytes_of (step_to last n)) (steps_of n numbers) rest in
    ap (numbers_of (suc (length numbers)) last) whole
    ∙ (λ i. first i ∷ numbers_of (length numbers) (first i) (after_back (step_to last n) more (step_fits last n l here) i))
    ∙ ap (λ (xs : List ℕ). n ∷ xs) (numbers_back n numbers rest here (All_rest n numbers a))

pub after_numbers_back : (last : ℕ) (numbers rest : List ℕ) → last < 2 ^ 32 → All (λ n. n < 2 ^ 32) numbers → after_numbers (length numbers) (steps_of last numbers ++ rest) ≡ rest
after_numbers_back last [] rest l a = refl
after_numbers_back last (n ∷ numbers) rest l a =
    let more = steps_of n numbers ++ rest in
    let here : n < 2 ^ 32 = a 0 0 (omega arith) in
    ap (after_numbers (suc (length numbers))) (append_assoc (bytes_of (step_to last n)) (steps_of n numbers) rest)
    ∙ ap (after_numbers (length numbers)) (after_back (step_to last n) more (step_fits last n l here))
    ∙ after_numbers_back n numbers rest here (All_rest n numbers a)

-- what stood first still does, after more was written
pub first_still : (old now pushed : List ℕ) → take (length old) now ≡ old → take (length now) pushed ≡ now → take (length old) pushed ≡ old
first_still old now pushed n p =
    let long = ap length n in
    let fewer : length old ≤ length now = omega (arith, long, length-take (length old) now) in
    sym (take-take (length old) (length now) pushed fewer) ∙ ap (take (length old)) p ∙ n

-- what stood first still does before what was added
pub first_more : (old now more : List ℕ) → now ≡ old ++ more → take (length old) now ≡ old
first_more old now more e = ap (take (length old)) e ∙ take-append_seam old more

-- the bytes of one number more
steps_next : (old now pushed numbers : List ℕ) (index last n : ℕ) → index < length numbers → n ≡ get_or numbers index 0 → pushed ≡ now ++ bytes_of (step_to last n)
    → now ++ steps_of last (drop index numbers) ≡ old → pushed ++ steps_of n (drop (index + 1) numbers) ≡ old
steps_next old now pushed numbers index last n within g p e =
    let rest = drop (index + 1) numbers in
    ap (λ (xs : List ℕ). xs ++ steps_of n rest) p
    ∙ append_assoc now (bytes_of (step_to last n)) (steps_of n rest)
    ∙ ap (λ (m : ℕ). now ++ steps_of last (m ∷ rest)) g
    ∙ sym (ap (λ (ns : List ℕ). now ++ steps_of last ns) (drop_more numbers index 0 within))
    ∙ e

-- one number more of those that are read
numbers_next : (whole now pushed rest after : List ℕ) (count left last n : ℕ) → count ≡ suc left → pushed ≡ now ++ n ∷ [] → n ≡ step_from last (number_of rest) → after ≡ after_number rest
    → now ++ numbers_of count last rest ≡ whole → pushed ++ numbers_of left n after ≡ whole
numbers_next whole now pushed rest after count left last n c p e a h =
    (λ i. p i ++ numbers_of left n (a i))
    ∙ append_assoc now (n ∷ []) (numbers_of left n (after_number rest))
    ∙ ap (λ (m : ℕ). now ++ m ∷ numbers_of left m (after_number rest)) e
    ∙ sym (ap (λ (k : ℕ). now ++ numbers_of k last rest) c)
    ∙ h

-- the bytes after one number more
pub after_next : (whole rest after : List ℕ) (count left : ℕ) → count ≡ suc left → after ≡ after_number rest → after_numbers count rest ≡ whole → after_numbers left after ≡ whole
after_next whole rest after count left c a h = ap (after_numbers left) a ∙ sym (ap (λ (k : ℕ). after_numbers k rest) c) ∙ h

-- of numbers those before one are put, after what stood first, and there is room for five bytes of each that is left
pub record IsPut (start now : List ℕ) (last index : ℕ) (numbers : List ℕ) (capacity : ℕ) : Type 0 where
  pub told : now ++ steps_of last (drop index numbers) ≡ start ++ steps_of 0 numbers
  pub small : All (λ n. n < 2 ^ 32) (take index numbers)
  pub before : take (length start) now ≡ start
  pub room : length now + 5 * (length numbers - index) ≤ capacity

pub put_next : (start now pushed numbers : List ℕ) (index last n old new : ℕ) → index < length numbers → n ≡ get_or numbers index 0 → n < 2 ^ 32 → pushed ≡ now ++ bytes_of (step_to last n) → length pushed ≤ length now + 5 → new ≡ old
    → IsPut start now last index numbers old → IsPut start pushed n (index + 1) numbers new
put_next start now pushed numbers index last n old new within g fits p few same i = record {
  told = steps_next _ now pushed numbers index last n within g p i.told;
  small = All-more (λ (n : ℕ). n < 2 ^ 32) numbers index 0 within i.small (subst (λ (n : ℕ). n < 2 ^ 32) g fits);
  before = first_still start now pushed i.before (first_more now pushed (bytes_of (step_to last n)) p);
  room = omega (arith, i.room, within, few, same);
}

-- of so many numbers that bytes begin with these are read, so many are left where these bytes begin, and there is room for them
pub record IsRead (bytes : List ℕ) (count : ℕ) (now rest : List ℕ) (last left capacity : ℕ) : Type 0 where
  pub told : now ++ numbers_of left last rest ≡ numbers_of count 0 bytes
  pub after : after_numbers left rest ≡ after_numbers count bytes
  pub room : length now + left ≤ capacity

pub read_next : (bytes now pushed rest after : List ℕ) (count last n left next old new : ℕ) → left ≡ suc next → pushed ≡ now ++ n ∷ [] → n ≡ step_from last (number_of rest) → after ≡ after_number rest → new ≡ old
    → IsRead bytes count now rest last left old → IsRead bytes count pushed after n next new
read_next bytes now pushed rest after count last n left next old new one p e a same i = record {
  told = numbers_next _ now pushed rest after left next last n one p e a i.told;
  after = after_next _ rest after left next one a i.after;
  room = omega (arith, i.room, one, ap (λ (xs : List ℕ). length xs) p, length_push now n, same);
}
