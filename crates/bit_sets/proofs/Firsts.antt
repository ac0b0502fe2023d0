-- A set that keeps its least member beside the others, as one list of words.
use Rattle.std.proofs.Common.{arith, inl, inr, ◌≡◌, ◌≢◌, ◌==◌, ℕ, ◌*◌, ◌/◌, ◌%◌, ◌<◌, ◌≤◌, min, max, leb, ltb, List, length, get_or, set, Bool, true, false, not, ◌||◌, ◌&&◌, refl, sym, ap, ◌∙◌, eqb, Option, Some, None}
use Rattle.std.proofs.lemmas.Bool.Decides.{nat_tests}
use Rattle.std.specs.Option.{option_eq}
use Rattle.std.specs.Prelude.{if◌then◌else◌}
use Rattle.bit_sets.proofs.published.WordLaw.{set_same, set_other}
use Rattle.bit_sets.proofs.Changed.{IsChanged, changed_bit}
use Rattle.bit_sets.specs.Layered.{word_has, word_with, words_have, words_with, bits_with, IsLeast, IsPast, IsInside, IsFirst, IsTakenLeast}

equal_of : (a b : ℕ) → (a == b) ≡ true → a ≡ b
equal_of a b h = grind (arith, nat_tests)

apart_of : (a b : ℕ) → (a == b) ≡ false → a ≡ b → ⊥
apart_of a b h e = let t : (a == b) ≡ true = grind (arith, nat_tests) in let z : true ≡ false = sym t ∙ h in cc

tests_equal : (a b : ℕ) → a ≡ b → (a == b) ≡ true
tests_equal a b h = grind (arith, nat_tests)

tests_apart : (a b : ℕ) → (a ≡ b → ⊥) → (a == b) ≡ false
tests_apart a b h = let n : a ≢ b = h in grind (arith, nat_tests)

-- a bit was changed
pub changed : (words : List ℕ) (n w : ℕ) (b : Bool) → n < 64 * length words → word_has w (n % 64) ≡ b → ((k : ℕ) → (k ≡ n % 64 → ⊥) → word_has w k ≡ word_has (get_or words (n / 64) 0) k) → (k : ℕ) → words_have (set words (n / 64) w) k ≡ (if k == n then b else words_have words k)
changed words n w b inside same others k = by (changed_bit words n w b inside same others k)
  where
    by : IsChanged words (set words (n / 64) w) n b k → words_have (set words (n / 64) w) k ≡ (if k == n then b else words_have words k)
    by (inl h) = h.1 ∙ ap (λ (t : Bool). if t then b else words_have words k) (sym (tests_equal k n (sym h.0)))
    by (inr h) = h.1 ∙ ap (λ (t : Bool). if t then b else words_have words k) (sym (tests_apart k n (λ (e : k ≡ n). h.0 (sym e))))

pub has_or : (t b : Bool) → (if t then true else b) ≡ (t || b)
has_or true b = refl
has_or false b = refl

pub has_not : (t b : Bool) → (if t then false else b) ≡ (not t && b)
has_not true b = refl
has_not false b = refl

-- a word with one more bit has that one and those that it had
pub has_with : (words : List ℕ) (n k : ℕ) → n < 64 * length words → words_have (words_with words (Some n)) k ≡ bits_with words n k
has_with words n k inside = changed words n (word_with (get_or words (n / 64) 0) (n % 64)) true inside (set_same (get_or words (n / 64) 0) (n % 64) (omega arith)) (set_other (get_or words (n / 64) 0) (n % 64) (omega arith)) k ∙ has_or (k == n) (words_have words k)

-- the least member is the one that is kept beside the others
pub first_least : (words : List ℕ) (least : Option ℕ) → IsFirst words least → IsLeast (words_have (words_with words least)) least
first_least words None i = i.past
first_least words (Some n) i = (
  has_with words n n i.inside ∙ ap (λ (b : Bool). b || words_have words n) (tests_equal n n refl),
  λ j h. has_with words n j i.inside ∙ ap (λ (b : Bool). b || words_have words j) (tests_apart j n (λ (e : j ≡ n). absurd (omega (arith, e, h)))) ∙ i.past j (omega (arith, h)),
)

-- a set has one least member
pub least_same : (p : ℕ → Bool) (a b : ℕ) → IsLeast p (Some a) → IsLeast p (Some b) → a ≡ b
least_same p a b i j = by (ltb a b) refl (ltb b a) refl
  where
    by : (s : Bool) → ltb a b ≡ s → (t : Bool) → ltb b a ≡ t → a ≡ b
    by true f t g = let h : a < b = grind (arith, nat_tests) in let z : true ≡ false = sym i.0 ∙ j.1 a h in absurd (let w : ⊥ = cc in w)
    by false f true g = let h : b < a = grind (arith, nat_tests) in let z : true ≡ false = sym j.0 ∙ i.1 b h in absurd (let w : ⊥ = cc in w)
    by false f false g = grind (arith, nat_tests)

-- words that have the same members beside the same least one
pub first_same : (words words' : List ℕ) (least : Option ℕ) → IsInside words least → length words ≤ length words' → ((k : ℕ) → words_have words' k ≡ words_have words k) → (k : ℕ) → words_have (words_with words' least) k ≡ words_have (words_with words least) k
first_same words words' None i long same k = same k
first_same words words' (Some n) i long same k = has_with words' n k (omega (arith, i, long)) ∙ ap (λ (b : Bool). k == n || b) (same k) ∙ sym (has_with words n k i)

-- the first member of an empty set
pub first_new : (words : List ℕ) (n : ℕ) → n < 64 * length words → ((k : ℕ) → words_have words k ≡ false) → (k : ℕ) → words_have (words_with words (Some n)) k ≡ (k == n || words_have (words_with words None) k)
first_new words n i none k = has_with words n k i

-- one more member
pub first_more : (words words' : List ℕ) (least next number : ℕ) → least < 64 * length words → next < 64 * length words' → ((k : ℕ) → bits_with words' next k ≡ (k == number || bits_with words least k)) → (k : ℕ) → words_have (words_with words' (Some next)) k ≡ (k == number || words_have (words_with words (Some least)) k)
first_more words words' least next number i j has k = has_with words' next k j ∙ has k ∙ ap (λ (b : Bool). k == number || b) (sym (has_with words least k i))

-- the least member is out
pub first_out : (words words' : List ℕ) (n : ℕ) (least : Option ℕ) → IsFirst words (Some n) → IsTakenLeast (words_have words) (words_have words') least → IsInside words' least → (k : ℕ) → words_have (words_with words' least) k ≡ (not (k == n) && words_have (words_with words (Some n)) k)
first_out words words' n least i taken inside k = left least taken inside ∙ by (k == n) refl
  where
    left : (o : Option ℕ) → IsTakenLeast (words_have words) (words_have words') o → IsInside words' o → words_have (words_with words' o) k ≡ words_have words k
    left None t s = t.1 k ∙ sym (t.0 k)
    left (Some m) t s = has_with words' m k s ∙ ap (λ (b : Bool). k == m || b) (t.1 k) ∙ here (k == m) refl
      where
        here : (b : Bool) → (k == m) ≡ b → (b || (not b && words_have words k)) ≡ words_have words k
        here true f = sym (ap (words_have words) (equal_of k m f) ∙ t.0.0)
        here false f = refl

    by : (b : Bool) → (k == n) ≡ b → words_have words k ≡ (not b && words_have (words_with words (Some n)) k)
    by true f = ap (words_have words) (equal_of k n f) ∙ i.past n (omega arith)
    by false f = sym (has_with words n k i.inside ∙ ap (λ (b : Bool). b || words_have words k) f)

-- another member is out
pub first_without : (words words' : List ℕ) (n : ℕ) (least : Option ℕ) → IsInside words least → length words' ≡ length words → (least ≡ Some n → ⊥) → ((k : ℕ) → words_have words' k ≡ (not (k == n) && words_have words k)) → (k : ℕ) → words_have (words_with words' least) k ≡ (not (k == n) && words_have (words_with words least) k)
first_without words words' n None i long ne has k = has k
first_without words words' n (Some m) i long ne has k = has_with words' m k (omega (arith, i, long)) ∙ ap (λ (b : Bool). k == m || b) (has k) ∙ by (k == m) refl (k == n) refl ∙ ap (λ (b : Bool). not (k == n) && b) (sym (has_with words m k i))
  where
    by : (a : Bool) → (k == m) ≡ a → (b : Bool) → (k == n) ≡ b → (a || (not b && words_have words k)) ≡ (not b && (a || words_have words k))
    by true f true g = absurd (ne (ap (λ (x : ℕ). Some x) (sym (equal_of k m f) ∙ equal_of k n g)))
    by true f false g = refl
    by false f b g = refl

-- what the test for the least member tells
pub is_least : (o : Option ℕ) (n : ℕ) → true ≡ option_eq eqb o (Some n) → o ≡ Some n
is_least None n e = absurd (let w : ⊥ = cc in w)
is_least (Some m) n e = ap (λ (x : ℕ). Some x) (equal_of m n (sym e))

pub not_least : (o : Option ℕ) (n : ℕ) → false ≡ option_eq eqb o (Some n) → o ≡ Some n → ⊥
not_least None n e q = let w : ⊥ = cc in w
not_least (Some m) n e q = let z : m ≡ n = cc in apart_of m n (sym e) z

-- a number and the least one, the less of them first
pub put_two : (a b lo hi k : ℕ) (h : Bool) → lo ≡ min a b → hi ≡ max a b → (k == lo || (k == hi || h)) ≡ (k == a || (k == b || h))
put_two a b lo hi k h l g = by (leb a b) refl
  where
    turned : (x y z : Bool) → (x || (y || z)) ≡ (y || (x || z))
    turned true true z = refl
    turned true false z = refl
    turned false y z = refl

    same : {x y u v : ℕ} → x ≡ u → y ≡ v → (k == x || (k == y || h)) ≡ (k == u || (k == v || h))
    same {x} {y} {u} {v} e f = ap (λ (n : ℕ). k == n || (k == y || h)) e ∙ ap (λ (n : ℕ). k == u || (k == n || h)) f

    by : (t : Bool) → leb a b ≡ t → (k == lo || (k == hi || h)) ≡ (k == a || (k == b || h))
    by true e = let le : a ≤ b = grind (arith, nat_tests) in same (omega (arith, l, le)) (omega (arith, g, le))
    by false e = let lt : b < a = grind (arith, nat_tests) in same (omega (arith, l, lt)) (omega (arith, g, lt)) ∙ turned (k == b) (k == a) h

-- past the least member of a set are all others
pub past_taken : (p q : ℕ → Bool) (o : Option ℕ) → IsTakenLeast p q o → IsPast q o
past_taken p q None t = t.1
past_taken p q (Some n) t = λ k le. t.1 k ∙ by k le (k == n) refl
  where
    by : (k : ℕ) → k ≤ n → (b : Bool) → (k == n) ≡ b → (not b && p k) ≡ false
    by k le true f = refl
    by k le false f = let ne : k ≢ n = apart_of k n f in t.0.1 k (omega (arith, le, ne))

and_none : (b : Bool) → (b && false) ≡ false
and_none true = refl
and_none false = refl

-- and of fewer members too
pub past_less : (p q : ℕ → Bool) (n : ℕ) (o : Option ℕ) → ((k : ℕ) → q k ≡ (not (k == n) && p k)) → IsPast p o → IsPast q o
past_less p q n None has past = λ k. has k ∙ ap (λ (b : Bool). not (k == n) && b) (past k) ∙ and_none (not (k == n))
past_less p q n (Some m) has past = λ k le. has k ∙ ap (λ (b : Bool). not (k == n) && b) (past k le) ∙ and_none (not (k == n))

pub inside_same : (words words' : List ℕ) (o : Option ℕ) → length words' ≡ length words → IsInside words o → IsInside words' o
inside_same words words' None long i = i
inside_same words words' (Some n) long i = omega (arith, long, i)
