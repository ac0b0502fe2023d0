-- The bytes of a number, and the number back from them.
use Rattle.std.proofs.Common.{arith, ◌≡◌, ℕ, zero, suc, ◌+◌, ◌-◌, ◌*◌, ◌/◌, ◌%◌, ◌^◌, ◌<◌, ◌≤◌, List, [], ◌∷◌, ◌++◌, length, Bool, true, false, if◌then◌else◌, refl, ap, sym, ◌∙◌, inl, inr, append_assoc}
use Rattle.std.specs.Prelude.{nat_lt}
use Rattle.std.proofs.Math.Nat.{pow-suc, add-mod-mod, add_comm, mul_assoc, mul_comm, mul-add}
use Rattle.std.proofs.lemmas.Nat.{mul-mod_first, mul-mod_second}
use Rattle.std.proofs.lemmas.Bool.{cases_lt}
use Rattle.std.proofs.lemmas.Bool.Decides.{nat_tests}
use Rattle.proof_log.specs.own.Number.{bytes_by, bytes_of, number_of, after_number}

-- what is left of a number takes a byte less
rest_fits : (n p : ℕ) → n < p * 128 → n / 128 < p
rest_fits n p h = omega arith

-- room for more bytes changes nothing
bytes_by-more : (k n : ℕ) → n < 128 ^ suc k → bytes_by (suc k) n ≡ bytes_by k n
bytes_by-more zero n h = let e : nat_lt n 128 ≡ true = grind (arith, nat_tests) in rw e refl
bytes_by-more (suc k) n h =
    let fits : n / 128 < 128 ^ suc k = rest_fits n (128 ^ suc k) (rw pow-suc at h) in
    ap (λ (rest : List ℕ). if nat_lt n 128 then n ∷ [] else (n % 128 + 128) ∷ rest) (bytes_by-more k (n / 128) fits)

-- a number below 128 is one byte
pub bytes_of-last : (n : ℕ) → n < 128 → bytes_of n ≡ n ∷ []
unfolding bytes_of
bytes_of-last n h = let e : nat_lt n 128 ≡ true = grind (arith, nat_tests) in rw e refl

-- another begins with its lowest seven bits
pub bytes_of-more : (n : ℕ) → 128 ≤ n → n < 2 ^ 64 → bytes_of n ≡ (n % 128 + 128) ∷ bytes_of (n / 128)
unfolding bytes_of
bytes_of-more n h fits =
    let e : nat_lt n 128 ≡ false = grind (arith, nat_tests) in
    let small : n / 128 < 128 ^ 9 = omega arith in
    rw e (ap (λ (rest : List ℕ). (n % 128 + 128) ∷ rest) (sym (bytes_by-more 8 (n / 128) small)))

-- the number comes back, and so does what follows it
record IsBack (n : ℕ) (bytes rest : List ℕ) : Type 0 where
  number : number_of bytes ≡ n
  after : after_number bytes ≡ rest

back_last : (n : ℕ) (rest : List ℕ) → n < 128 → IsBack n (n ∷ rest) rest
back_last n rest h =
    let e : nat_lt n 128 ≡ true = grind (arith, nat_tests) in
    record { number = rw e refl; after = rw e refl }

digits_back : (n : ℕ) → n < 2 ^ 64 → (n / 128 * 128 % 2 ^ 64 + (n % 128 + 128 - 128)) % 2 ^ 64 ≡ n
digits_back n h = omega arith

back_more : (n : ℕ) (high rest : List ℕ) → n < 2 ^ 64 → IsBack (n / 128) high rest → IsBack n ((n % 128 + 128) ∷ high) rest
back_more n high rest h b =
    let e : nat_lt (n % 128 + 128) 128 ≡ false = grind (arith, nat_tests) in
    record {
      number = rw e (ap (λ (m : ℕ). (m * 128 % 2 ^ 64 + (n % 128 + 128 - 128)) % 2 ^ 64) b.number ∙ digits_back n h);
      after = rw e b.after;
    }

back_by : (k n : ℕ) (rest : List ℕ) → n < 128 ^ suc k → n < 2 ^ 64 → IsBack n (bytes_by k n ++ rest) rest
back_by zero n rest h fits = back_last n rest (omega arith)
back_by (suc k) n rest h fits = elim (cases_lt n 128) [
  | inl low ↦ let e : nat_lt n 128 ≡ true = grind (arith, nat_tests) in rw e (back_last n rest low)
  | inr high ↦
      let e : nat_lt n 128 ≡ false = grind (arith, nat_tests) in
      let small : n / 128 < 128 ^ suc k = rest_fits n (128 ^ suc k) (rw pow-suc at h) in
      rw e (back_more n (bytes_by k (n / 128) ++ rest) rest fits (back_by k (n / 128) rest small (omega arith)))
]

back_of : (n : ℕ) (rest : List ℕ) → n < 2 ^ 64 → IsBack n (bytes_of n ++ rest) rest
unfolding bytes_of
back_of n rest h = back_by 9 n rest (omega arith) h

pub number_back : (n : ℕ) (rest : List ℕ) → n < 2 ^ 64 → number_of (bytes_of n ++ rest) ≡ n
number_back n rest h = (back_of n rest h).number

pub after_back : (n : ℕ) (rest : List ℕ) → n < 2 ^ 64 → after_number (bytes_of n ++ rest) ≡ rest
after_back n rest h = (back_of n rest h).after

-- a number takes a byte at least
pub some_bytes : (n : ℕ) → 1 ≤ length (bytes_of n)
unfolding bytes_of
some_bytes n = by (nat_lt n 128)
  where
    by : (b : Bool) → 1 ≤ length (if b then n ∷ [] else (n % 128 + 128) ∷ bytes_by 8 (n / 128))
    by true = omega arith
    by false = omega arith

-- a number of so many times seven bits takes no more bytes
bytes_by-few : (j k n : ℕ) → n < 128 ^ suc k → length (bytes_by j n) ≤ suc k
bytes_by-few zero k n h = omega arith
bytes_by-few (suc j) k n h = elim (cases_lt n 128) [
  | inl low ↦ let e : nat_lt n 128 ≡ true = grind (arith, nat_tests) in rw e (omega arith)
  | inr high ↦ let e : nat_lt n 128 ≡ false = grind (arith, nat_tests) in rw e (more k h high (λ (k : ℕ). bytes_by-few j k (n / 128)))
]
  where
    more : (k : ℕ) → n < 128 ^ suc k → 128 ≤ n → ((k : ℕ) → n / 128 < 128 ^ suc k → length (bytes_by j (n / 128)) ≤ suc k) → suc (length (bytes_by j (n / 128))) ≤ suc k
    more zero h high on = absurd (omega (arith, h, high))
    more (suc k) h high on = let f = on k (rest_fits n (128 ^ suc k) (rw pow-suc at h)) in omega (arith, f)

pub few_bytes : (n : ℕ) → n < 2 ^ 64 → length (bytes_of n) ≤ 10
unfolding bytes_of
few_bytes n h = let f = bytes_by-few 9 9 n (omega (arith, h)) in omega (arith, f)

pub five_bytes : (n : ℕ) → n < 2 ^ 35 → length (bytes_of n) ≤ 5
unfolding bytes_of
five_bytes n h = let f = bytes_by-few 9 4 n (omega (arith, h)) in omega (arith, f)

-- the lowest seven bits written, and the others still to write
pub put_more : (now pushed old : List ℕ) (rest n : ℕ) → 128 ≤ rest → rest < 2 ^ 64 → pushed ≡ now ++ (rest % 128 + 128) ∷ [] → now ++ bytes_of rest ≡ old ++ bytes_of n
    → pushed ++ bytes_of (rest / 128) ≡ old ++ bytes_of n
put_more now pushed old rest n high fits p e =
    ap (λ (xs : List ℕ). xs ++ bytes_of (rest / 128)) p
    ∙ append_assoc now ((rest % 128 + 128) ∷ []) (bytes_of (rest / 128))
    ∙ ap (λ (xs : List ℕ). now ++ xs) (sym (bytes_of-more rest high fits))
    ∙ e

-- a number that bytes begin with fits in 64 bits
pub number_fits : (bytes : List ℕ) → number_of bytes < 2 ^ 64
number_fits [] = omega arith
number_fits (b ∷ bytes) = by b (number_of bytes) (nat_lt b 128) refl
  where
    by : (b high : ℕ) (low : Bool) → nat_lt b 128 ≡ low → (if low then b else (high * 128 % 2 ^ 64 + (b - 128)) % 2 ^ 64) < 2 ^ 64
    by b high true e = grind (arith, nat_tests, e)
    by b high false e = omega arith

-- numbers with the same rest leave the same rest when the same is added
same_rest : (a x y m : ℕ) → x % m ≡ y % m → (a + x) % m ≡ (a + y) % m
same_rest a x y m e = sym (add-mod-mod a x m) ∙ ap (λ (r : ℕ). (a + r) % m) e ∙ add-mod-mod a y m

-- seven bits more, and the weight of those that follow
pub weighed : (n w high d m : ℕ) → ((n + w * d % m) % m + w * 128 % m * high) % m ≡ (n + w * ((high * 128 % m + d) % m)) % m
weighed n w high d m =
    let one : w * 128 % m * high % m ≡ w * (high * 128 % m) % m =
    mul-mod_first (w * 128) high m ∙ ap (λ (x : ℕ). x % m) (mul_assoc w 128 high ∙ ap (λ (x : ℕ). w * x) (mul_comm 128 high)) ∙ sym (mul-mod_second w (high * 128) m) in
    let first : ((n + w * d % m) % m + w * 128 % m * high) % m ≡ (w * 128 % m * high + (n + w * d)) % m =
    mod_first (n + w * d % m) (w * 128 % m * high) m ∙ same_rest (w * 128 % m * high) (n + w * d % m) (n + w * d) m (add-mod-mod n (w * d) m) in
    first
    ∙ ap (λ (x : ℕ). x % m) (add_comm (w * 128 % m * high) (n + w * d))
    ∙ same_rest (n + w * d) (w * 128 % m * high) (w * (high * 128 % m)) m one
    ∙ ap (λ (x : ℕ). x % m) (parts n (w * d) (w * (high * 128 % m)) ∙ ap (λ (x : ℕ). n + x) (sym (mul-add w (high * 128 % m) d)))
    ∙ sym (same_rest n (w * ((high * 128 % m + d) % m)) (w * (high * 128 % m + d)) m (mul-mod_second w (high * 128 % m + d) m))
  where
    mod_first : (x y k : ℕ) → (x % k + y) % k ≡ (y + x) % k
    mod_first x y k = ap (λ (z : ℕ). z % k) (add_comm (x % k) y) ∙ add-mod-mod y x k

    parts : (x y z : ℕ) → x + y + z ≡ x + (z + y)
    parts x y z = omega arith

-- the number that begins with a byte of 128 or more
pub number_more : (b : ℕ) (bytes : List ℕ) → 128 ≤ b → number_of (b ∷ bytes) ≡ (number_of bytes * 128 % 2 ^ 64 + (b - 128)) % 2 ^ 64
number_more b bytes h = let e : nat_lt b 128 ≡ false = grind (arith, nat_tests) in rw e refl

pub after_more : (b : ℕ) (bytes : List ℕ) → 128 ≤ b → after_number (b ∷ bytes) ≡ after_number bytes
after_more b bytes h = let e : nat_lt b 128 ≡ false = grind (arith, nat_tests) in rw e refl
