-- For how long along the trail a literal is not false.
use Rattle.std.proofs.Common.{arith, ◌≡◌, ◌≢◌, ◌==◌, ℕ, zero, suc, ◌+◌, ◌<◌, ◌≤◌, List, [], ◌∷◌, length, take, get_or, leb, ltb, Bool, true, false, not, refl, sym, ap, ◌∙◌, subst}
use Rattle.std.proofs.lemmas.Bool.Decides.{nat_tests}
use Rattle.std.proofs.lemmas.List.{take_all}
use Rattle.clause_base.specs.Literal.{opposite}
use Rattle.clause_base.specs.Clause.{has_literal}
use Rattle.propagation.specs.Pending.{is_free}
use Rattle.propagation.specs.declared.fall.Latest.{Latest}
use Rattle.propagation.specs.own.Added.{Outlasts}
use Rattle.propagation.specs.own.Latest.{IsFreeUntil, AreLatest}
use Rattle.propagation.proofs.Asks.{below_more}
use Rattle.propagation.proofs.published.Assigns.{equal_of, apart_of, true_in_take, at_most_of, tests_at_most}

not_before : (a b : ℕ) → not (ltb a b) ≡ leb b a
not_before a b = grind (arith, nat_tests)

-- a literal that is false is not, up to its negation's place
pub free_until_place : (trail : List ℕ) (code place n : ℕ) → has_literal (take n trail) (opposite code) ≡ ltb place n
    → is_free (has_literal (take n trail)) code ≡ leb n place
free_until_place trail code place n e = ap (λ (b : Bool). not b) e ∙ not_before place n

-- a literal that is false became so at a place of the trail
pub place_before : (trail : List ℕ) (code place : ℕ) → has_literal trail (opposite code) ≡ true
    → ((n : ℕ) → n ≤ length trail → has_literal (take n trail) (opposite code) ≡ ltb place n) → place < length trail
place_before trail code place e h =
    let whole = ap (λ (xs : List ℕ). has_literal xs (opposite code)) (take_all (length trail) trail (omega arith)) in
    let t : ltb place (length trail) ≡ true = sym (h (length trail) (omega arith)) ∙ whole ∙ e in
    grind (arith, nat_tests)

off_by : (a b : Bool) → (a ≡ true → b ≡ true) → b ≡ false → a ≡ false
off_by true b h e = let t : b ≡ true = h refl in sym t ∙ e
off_by false b h e = refl

-- one that is not false never is
pub free_throughout : (trail : List ℕ) (code long n : ℕ) → has_literal trail (opposite code) ≡ false → long ≡ length trail → n ≤ length trail
    → is_free (has_literal (take n trail)) code ≡ leb n long
free_throughout trail code long n e l h =
    let off = off_by (has_literal (take n trail) (opposite code)) (has_literal trail (opposite code)) (true_in_take n trail (opposite code)) e in
    ap (λ (b : Bool). not b) off ∙ sym (tests_at_most n long (omega (arith, l, h)))

-- so the one with the longer stretch outlasts the other
pub outlasts_by : (trail : List ℕ) (l other a b : ℕ) → ((n : ℕ) → n ≤ length trail → is_free (has_literal (take n trail)) l ≡ leb n a)
    → ((n : ℕ) → n ≤ length trail → is_free (has_literal (take n trail)) other ≡ leb n b) → b ≤ a → Outlasts trail l other
outlasts_by trail l other a b p q h n k f =
    let m : n ≤ b = at_most_of n b (sym (q n k) ∙ f) in
    p n k ∙ tests_at_most n a (omega (arith, m, h))

pub outlasts_itself : (trail : List ℕ) (l : ℕ) → Outlasts trail l l
outlasts_itself trail l n h f = f

-- the first two places, in either order
pub first_two : (trail clause : List ℕ) (v a b one other : ℕ) → a < 2 → b < 2 → (b ≡ a → ⊥) → IsFreeUntil trail (get_or clause a 0) v one
    → IsFreeUntil trail (get_or clause b 0) v other → other ≤ one → AreLatest trail clause v 2 (record { first = a; first_until = one; second = b; second_until = other })
first_two trail clause v a b one other a_in b_in apart p q h = record {
  first_in = a_in;
  second_in = b_in;
  apart = apart;
  first_until = p;
  second_until = q;
  most = λ i l. most i l (i == a) refl;
  next = λ i l ne. subst (λ (k : ℕ). Outlasts trail (get_or clause b 0) (get_or clause k 0)) (rest i l ne) (outlasts_itself trail (get_or clause b 0));
}
  where
    rest : (i : ℕ) → i < 2 → (i ≡ a → ⊥) → b ≡ i
    rest i l ne = let n : i ≢ a = ne in let m : b ≢ a = apart in omega (arith, l, a_in, b_in, n, m)

    most : (i : ℕ) → i < 2 → (same : Bool) → (i == a) ≡ same → Outlasts trail (get_or clause a 0) (get_or clause i 0)
    most i l true e = subst (λ (k : ℕ). Outlasts trail (get_or clause a 0) (get_or clause k 0)) (sym (equal_of i a e)) (outlasts_itself trail (get_or clause a 0))
    most i l false e =
        subst (λ (k : ℕ). Outlasts trail (get_or clause a 0) (get_or clause k 0)) (rest i l (apart_of i a e))
        (outlasts_by trail (get_or clause a 0) (get_or clause b 0) one other p.lasts q.lasts h)

-- one place more
latest_more : (trail clause : List ℕ) (v place : ℕ) (two new : Latest) → AreLatest trail clause v place two → new.first < place + 1 → new.second < place + 1
    → (new.second ≡ new.first → ⊥) → IsFreeUntil trail (get_or clause new.first 0) v new.first_until → IsFreeUntil trail (get_or clause new.second 0) v new.second_until
    → Outlasts trail (get_or clause new.first 0) (get_or clause two.first 0) → Outlasts trail (get_or clause new.first 0) (get_or clause place 0)
    → ((p : ℕ) → p < place → (p ≡ new.first → ⊥) → Outlasts trail (get_or clause new.second 0) (get_or clause p 0))
    → ((place ≡ new.first → ⊥) → Outlasts trail (get_or clause new.second 0) (get_or clause place 0)) → AreLatest trail clause v (place + 1) new
latest_more trail clause v place two new i first_in second_in apart first_until second_until keeps takes others own = record {
  first_in = first_in;
  second_in = second_in;
  apart = apart;
  first_until = first_until;
  second_until = second_until;
  most = below_more (λ p. Outlasts trail (get_or clause new.first 0) (get_or clause p 0)) place (λ p l n k f. keeps n k (i.most p l n k f)) takes;
  next = below_more (λ p. (p ≡ new.first → ⊥) → Outlasts trail (get_or clause new.second 0) (get_or clause p 0)) place others own;
}

-- its literal is not false for longer than both, for longer than the second, or for no longer
pub place_first : (trail clause : List ℕ) (v place until : ℕ) (two : Latest) → AreLatest trail clause v place two → IsFreeUntil trail (get_or clause place 0) v until
    → two.first_until ≤ until → AreLatest trail clause v (place + 1) (record { first = place; first_until = until; second = two.first; second_until = two.first_until })
place_first trail clause v place until two i q h =
    latest_more trail clause v place two _ i (omega arith) (omega (arith, i.first_in)) (λ (e : two.first ≡ place). absurd (omega (arith, e, i.first_in))) q i.first_until
    (outlasts_by trail (get_or clause place 0) (get_or clause two.first 0) until two.first_until q.lasts i.first_until.lasts h)
    (outlasts_itself trail (get_or clause place 0)) (λ p l ne. i.most p l) (λ ne. absurd (ne refl))

pub place_second : (trail clause : List ℕ) (v place until : ℕ) (two : Latest) → AreLatest trail clause v place two → IsFreeUntil trail (get_or clause place 0) v until
    → until ≤ two.first_until → two.second_until ≤ until
    → AreLatest trail clause v (place + 1) (record { first = two.first; first_until = two.first_until; second = place; second_until = until })
place_second trail clause v place until two i q h g =
    latest_more trail clause v place two _ i (omega (arith, i.first_in)) (omega arith) (λ (e : place ≡ two.first). absurd (omega (arith, e, i.first_in))) i.first_until q
    (outlasts_itself trail (get_or clause two.first 0)) (outlasts_by trail (get_or clause two.first 0) (get_or clause place 0) two.first_until until i.first_until.lasts q.lasts h)
    (λ p l ne n k f. outlasts_by trail (get_or clause place 0) (get_or clause two.second 0) until two.second_until q.lasts i.second_until.lasts g n k (i.next p l ne n k f))
    (λ ne. outlasts_itself trail (get_or clause place 0))

pub place_neither : (trail clause : List ℕ) (v place until : ℕ) (two : Latest) → AreLatest trail clause v place two → IsFreeUntil trail (get_or clause place 0) v until
    → until ≤ two.first_until → until ≤ two.second_until → AreLatest trail clause v (place + 1) two
place_neither trail clause v place until two i q h g =
    latest_more trail clause v place two two i (omega (arith, i.first_in)) (omega (arith, i.second_in)) i.apart i.first_until i.second_until
    (outlasts_itself trail (get_or clause two.first 0)) (outlasts_by trail (get_or clause two.first 0) (get_or clause place 0) two.first_until until i.first_until.lasts q.lasts h)
    i.next (λ ne. outlasts_by trail (get_or clause two.second 0) (get_or clause place 0) two.second_until until i.second_until.lasts q.lasts g)

-- before any literal is true none is false
pub outlasts_none : (trail : List ℕ) (l other : ℕ) → length trail ≡ 0 → Outlasts trail l other
outlasts_none [] l other e n h f = none n
  where
    none : (n : ℕ) → is_free (has_literal (take n [])) l ≡ true
    none zero = refl
    none (suc n) = refl
outlasts_none (x ∷ trail) l other e n h f = absurd (omega (arith, e))
