-- How many members of a draft pass a test.
use Rattle.std.proofs.Common.{arith, ◌≡◌, ◌==◌, ℕ, zero, suc, ◌+◌, ◌<◌, ◌≤◌, List, [], ◌∷◌, length, set, Bool, true, false, refl, sym, ap, ◌∙◌, filter, if◌then◌else◌, zero-add, length-set}
use Rattle.std.proofs.lemmas.Bool.Decides.{nat_tests}
use Rattle.bit_sets.specs.Marks.{places, at}
use Rattle.bit_sets.proofs.published.Places.{bit, at-set}

abbrev pub number : (ℕ → Bool) → List ℕ → ℕ
number p ls = length (filter p ls)

pub number-cons : (p : ℕ → Bool) (l : ℕ) (ls : List ℕ) → number p (l ∷ ls) ≡ bit (p l) + number p ls
number-cons p l ls = by (p l)
  where
    by : (b : Bool) → length (if b then l ∷ filter p ls else filter p ls) ≡ bit b + number p ls
    by true = omega arith
    by false = omega arith

pub number-set : (p : ℕ → Bool) (v : ℕ) (on : List Bool) (i : ℕ) → i < length on → at on i ≡ false → number p (places v (set on i true)) ≡ number p (places v on) + bit (p (v + i))
number-set p v [] i h e = absurd (omega arith)
number-set p v (true ∷ on) zero h e = cc
number-set p v (false ∷ on) zero h e =
    let s : v + 0 ≡ v = omega arith in
    let t : bit (p (v + 0)) ≡ bit (p v) = ap (λ k. bit (p k)) s in
    omega (arith, number-cons p v (places (v + 1) on), t)
number-set p v (true ∷ on) (suc i) h e =
    let s : v + suc i ≡ v + 1 + i = omega arith in
    let t : bit (p (v + suc i)) ≡ bit (p (v + 1 + i)) = ap (λ k. bit (p k)) s in
    let r = number-set p (v + 1) on i (omega arith) e in
    omega (arith, number-cons p v (places (v + 1) on), number-cons p v (places (v + 1) (set on i true)), t, r)
number-set p v (false ∷ on) (suc i) h e =
    let s : v + suc i ≡ v + 1 + i = omega arith in
    let t : bit (p (v + suc i)) ≡ bit (p (v + 1 + i)) = ap (λ k. bit (p k)) s in
    let r = number-set p (v + 1) on i (omega arith) e in
    omega (arith, t, r)

set_back : (on : List Bool) (i : ℕ) → at on i ≡ true → set (set on i false) i true ≡ on
set_back [] i e = refl
set_back (b ∷ on) zero e = ap (λ (c : Bool). c ∷ on) (sym e)
set_back (b ∷ on) (suc i) e = ap (λ (cs : List Bool). b ∷ cs) (set_back on i e)

pub counted_new : (p : ℕ → Bool) (on : List Bool) (i n : ℕ) (b : Bool) → i < length on → at on i ≡ false → n ≡ number p (places 0 on) → p i ≡ b → n + bit b ≡ number p (places 0 (set on i true))
counted_new p on i n b h e c f =
    let t : bit (p (0 + i)) ≡ bit b = ap (λ k. bit (p k)) (zero-add i) ∙ ap bit f in
    let r = number-set p 0 on i h e in
    omega (arith, t, r)

pub counted_less : (p : ℕ → Bool) (on : List Bool) (i n : ℕ) (b : Bool) → i < length on → at on i ≡ true → n ≡ number p (places 0 on) → p i ≡ b → n ≡ number p (places 0 (set on i false)) + bit b
counted_less p on i n b h e c f =
    let t : bit (p (0 + i)) ≡ bit b = ap (λ k. bit (p k)) (zero-add i) ∙ ap bit f in
    let i_h : i < length (set on i false) = omega (arith, length-set on i false) in
    let iff : (i == i) ≡ true = grind (arith, nat_tests) in
    let off : at (set on i false) i ≡ false = at-set on i i false true h iff in
    let r = number-set p 0 (set on i false) i i_h off in
    let q : number p (places 0 (set (set on i false) i true)) ≡ number p (places 0 on) = ap (λ (o : List Bool). number p (places 0 o)) (set_back on i e) in
    omega (arith, t, r, q)

pub number_le : (p : ℕ → Bool) (v : ℕ) (on : List Bool) → number p (places v on) ≤ length on
number_le p v [] = omega arith
number_le p v (true ∷ on) = let r = number_le p (v + 1) on in let b = bit_le (p v) in omega (arith, number-cons p v (places (v + 1) on), r, b)
  where
    bit_le : (b : Bool) → bit b ≤ 1
    bit_le true = omega arith
    bit_le false = omega arith
number_le p v (false ∷ on) = let r = number_le p (v + 1) on in omega arith
