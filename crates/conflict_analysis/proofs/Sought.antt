-- The latest marked position, word by word.
use Rattle.std.proofs.Common.{arith, ◌≡◌, ◌==◌, ℕ, suc, ◌+◌, ◌-◌, ◌*◌, ◌/◌, ◌%◌, ◌^◌, ◌<◌, ◌≤◌, List, get_or, Bool, true, false, not, ◌&&◌, refl, sym, ap, ◌∙◌, Some, None, ◌⊎◌, inl, inr, w64}
use Rattle.std.specs.Prelude.{nat_le}
use Rattle.std.specs.Int.{leading_zeros}
use Rattle.std.proofs.Math.Nat.{pow-suc}
use Rattle.std.proofs.lemmas.Nat.{leading_top, div_below, le-div, pow_pos}
use Rattle.std.proofs.lemmas.Nat.Bits.{bit_at_above}
use Rattle.std.proofs.lemmas.Bool.Decides.{nat_tests}
use Rattle.bit_sets.proofs.published.WordLaw.{zero_has}
use Rattle.bit_sets.specs.Layered.{word_has, words_have}
use Rattle.conflict_analysis.specs.own.Resolvent.{IsLatest}

-- the greatest bit of a word that has one
pub top_bit : (a r : ℕ) → 0 < a → a < 2 ^ 64 → r ≡ 63 - leading_zeros w64 a → (r < 64) × (word_has a r ≡ true) × ((k : ℕ) → r < k → word_has a k ≡ false)
top_bit a r h f e =
    let t = leading_top 64 a h f in
    let s : r ≡ t.0 = omega (arith, e, t.1) in
    let twice : 2 ^ suc t.0 ≡ 2 ^ t.0 * 2 = pow-suc 2 t.0 in
    let pos : 0 < 2 ^ t.0 = pow_pos t.0 in
    let up = div_below a (2 ^ t.0) 2 pos (omega (arith, t.3, twice)) in
    let down = le-div 1 a (2 ^ t.0) pos (omega (arith, t.2)) in
    let one : a / 2 ^ t.0 ≡ 1 = omega (arith, up, down) in (
      omega (arith, e),
      ap (word_has a) s ∙ ap (λ (n : ℕ). n % 2 == 1) one,
      λ k l. ap (λ (n : ℕ). n == 1) (bit_at_above a (suc t.0) k t.3 (omega (arith, l, s))),
    )

-- at a word of marks, all before a bound that are not in words below are among the bits that are left of it
pub record IsSought (words : List ℕ) (bound place word : ℕ) : Type 0 where
  pub low : 64 * place ≤ bound
  pub here : (k : ℕ) → k < 64 → word_has word k ≡ true → (64 * place + k < bound) × (words_have words (64 * place + k) ≡ true)
  pub rest : (q : ℕ) → q < bound → words_have words q ≡ true → (q / 64 < place) ⊎ ((q / 64 ≡ place) × (word_has word (q % 64) ≡ true))

bit_of : (words : List ℕ) (place k : ℕ) → k < 64 → words_have words (64 * place + k) ≡ word_has (get_or words place 0) k
bit_of words place k l =
    let q : (64 * place + k) / 64 ≡ place = omega (arith, l) in
    let r : (64 * place + k) % 64 ≡ k = omega (arith, l) in
    ap (λ (i : ℕ). word_has (get_or words i 0) ((64 * place + k) % 64)) q ∙ ap (word_has (get_or words place 0)) r

masked : (a b : Bool) → (a && not (b && a)) ≡ true → (a ≡ true) × (b ≡ false)
masked true true e = cc
masked true false e = (refl, refl)
masked false b e = cc

unmasked : (a b : Bool) → a ≡ true → b ≡ false → (a && not (b && a)) ≡ true
unmasked true true e f = cc
unmasked true false e f = refl
unmasked false b e f = cc

le_not : (a b : ℕ) → nat_le a b ≡ false → b < a
le_not a b e = grind (arith, nat_tests)

not_le : (a b : ℕ) → b < a → nat_le a b ≡ false
not_le a b h = grind (arith, nat_tests)

less_or_same : (a b : ℕ) → a ≤ b → (a < b) ⊎ (a ≡ b)
less_or_same a b h = grind arith

-- the search begins at the word of the bound, without its bits from there on
pub sought_first : (words : List ℕ) (bound place last word : ℕ) → place ≡ bound / 64 → last ≡ get_or words place 0 → ((k : ℕ) → word_has word k ≡ (word_has last k && not (nat_le (bound % 64) k && word_has last k)))
    → IsSought words bound place word
sought_first words bound place last word p r e = record {
  low = omega (arith, p);
  here = λ k l t.
      let m = masked (word_has last k) (nat_le (bound % 64) k) (sym (e k) ∙ t) in
      let b = le_not (bound % 64) k m.1 in
      (omega (arith, p, b), bit_of words place k l ∙ ap (λ (w : ℕ). word_has w k) (sym r) ∙ m.0);
  rest = λ q l t. by q l t (less_or_same (q / 64) place (omega (arith, p, l)));
}
  where
    by : (q : ℕ) → q < bound → words_have words q ≡ true → (q / 64 < place) ⊎ (q / 64 ≡ place) → (q / 64 < place) ⊎ ((q / 64 ≡ place) × (word_has word (q % 64) ≡ true))
    by q l t (inl s) = inl s
    by q l t (inr s) =
        let on : word_has last (q % 64) ≡ true = ap (λ (w : ℕ). word_has w (q % 64)) (r ∙ ap (λ (i : ℕ). get_or words i 0) (sym s)) ∙ t in
        inr (s, e (q % 64) ∙ unmasked (word_has last (q % 64)) (nat_le (bound % 64) (q % 64)) on (not_le (bound % 64) (q % 64) (omega (arith, s, p, l))))

-- the word is 0: the one below is next
pub sought_next : (words : List ℕ) (bound place word below next : ℕ) → IsSought words bound place word → word ≡ 0 → place ≡ below + 1 → next ≡ get_or words below 0 → IsSought words bound below next
sought_next words bound place word below next s z p r =
    let low = s.low in
    record {
      low = omega (arith, low, p);
      here = λ k l t. (omega (arith, low, p, l), bit_of words below k l ∙ ap (λ (w : ℕ). word_has w k) (sym r) ∙ t);
      rest = λ q l t. by q t (s.rest q l t);
    }
  where
    step : (q : ℕ) → words_have words q ≡ true → (q / 64 < below) ⊎ (q / 64 ≡ below) → (q / 64 < below) ⊎ ((q / 64 ≡ below) × (word_has next (q % 64) ≡ true))
    step q t (inl x) = inl x
    step q t (inr x) = inr (x, ap (λ (w : ℕ). word_has w (q % 64)) (r ∙ ap (λ (i : ℕ). get_or words i 0) (sym x)) ∙ t)

    by : (q : ℕ) → words_have words q ≡ true → (q / 64 < place) ⊎ ((q / 64 ≡ place) × (word_has word (q % 64) ≡ true)) → (q / 64 < below) ⊎ ((q / 64 ≡ below) × (word_has next (q % 64) ≡ true))
    by q t (inl x) = step q t (less_or_same (q / 64) below (omega (arith, x, p)))
    by q t (inr x) = let e : false ≡ true = sym (zero_has (q % 64)) ∙ ap (λ (w : ℕ). word_has w (q % 64)) (sym z) ∙ x.1 in cc

-- the least word is 0
pub sought_none : (words : List ℕ) (bound place word : ℕ) → IsSought words bound place word → word ≡ 0 → place ≡ 0 → IsLatest (words_have words) bound None
sought_none words bound place word s z p q l = by (words_have words q) refl
  where
    no : (q / 64 < place) ⊎ ((q / 64 ≡ place) × (word_has word (q % 64) ≡ true)) → ⊥
    no (inl x) = omega (arith, x, p)
    no (inr x) = let e : false ≡ true = sym (zero_has (q % 64)) ∙ ap (λ (w : ℕ). word_has w (q % 64)) (sym z) ∙ x.1 in cc

    by : (b : Bool) → words_have words q ≡ b → words_have words q ≡ false
    by true e = absurd (no (s.rest q l e))
    by false e = e

-- the word has a bit: its greatest is the latest
pub sought_found : (words : List ℕ) (bound place word bit p : ℕ) → IsSought words bound place word → bit < 64 → word_has word bit ≡ true → ((k : ℕ) → bit < k → word_has word k ≡ false) → p ≡ 64 * place + bit
    → IsLatest (words_have words) bound (Some p)
sought_found words bound place word bit p s small has above e =
    let h = s.here bit small has in
    (omega (arith, h.0, e), ap (words_have words) e ∙ h.1, λ q l m. by q l (words_have words q) refl m)
  where
    no : (q : ℕ) → p < q → (q / 64 < place) ⊎ ((q / 64 ≡ place) × (word_has word (q % 64) ≡ true)) → ⊥
    no q l (inl x) = omega (arith, x, l, e)
    no q l (inr x) = let f : false ≡ true = sym (above (q % 64) (omega (arith, x.0, l, e))) ∙ x.1 in cc

    by : (q : ℕ) → p < q → (b : Bool) → words_have words q ≡ b → q < bound → words_have words q ≡ false
    by q l true f m = absurd (no q l (s.rest q m f))
    by q l false f m = f
