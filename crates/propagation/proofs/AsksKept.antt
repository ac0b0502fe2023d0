-- What the members of a set ask for, as the set, the trail and the clauses change.
use Rattle.std.proofs.Common.{arith, ◌≡◌, ◌==◌, ℕ, ◌*◌, ◌<◌, ◌≤◌, List, [], ◌∷◌, ◌++◌, length, set, get_or, Bool, true, false, not, ◌||◌, ◌&&◌, ◌⊎◌, refl, sym, ap}
use Rattle.std.proofs.Common.{◌∙◌, subst, Option, Some, inl, inr, length-set, get_or-set_same, get_or-set_other}
use Rattle.std.proofs.lemmas.List.{length_push}
use Rattle.clause_base.specs.Clause.{has_literal}
use Rattle.cdcl_defs.specs.State.{clause_at}
use Rattle.bit_sets.specs.Layered.{words_have}
use Rattle.propagation.specs.declared.pending.Pending.{Pending}
use Rattle.propagation.specs.declared.enter.Entered.{Entered}
use Rattle.propagation.specs.own.Asks.{IsAsk, IsWithin, HasAsks, IsPut, IsWider, IsWithoutOne}
use Rattle.propagation.specs.own.Added.{IsRaised}
use Rattle.propagation.proofs.published.Assigns.{equal_of, apart_of, true_longer}
use Rattle.propagation.proofs.published.Adds.{at_other, at_own}
use Rattle.propagation.proofs.Asks.{ask_longer, cleaned_fewer}

within_insert : (n number : ℕ) (was is : ℕ → Bool) → number < n → IsWithin n was → ((k : ℕ) → is k ≡ (k == number || was k)) → IsWithin n is
within_insert n number was is inside w has k h = by (k == number) refl (sym (has k) ∙ h)
  where
    by : (b : Bool) → (k == number) ≡ b → (b || was k) ≡ true → k < n
    by true f e = omega (arith, equal_of k number f, inside)
    by false f e = w k e

-- a clause is put into the set
pub asks_put : (cl : List (List ℕ)) (trail : List ℕ) (number ask : ℕ) (old new : Pending) → HasAsks cl trail old → IsPut number ask old new
    → number < length cl → IsAsk (has_literal trail) (clause_at cl number) ask → HasAsks cl trail new
asks_put cl trail number ask old new a p inside is = record {
  within = within_insert (length cl) number (words_have old.numbers) (words_have new.numbers) inside a.within p.has;
  are = λ k h. by k h (k == number) refl;
  room = omega (arith, a.room, p.room);
  long = omega (arith, a.long, ap (λ (xs : List ℕ). length xs) p.asks, length-set old.asks.items number ask);
}
  where
    by : (k : ℕ) → words_have new.numbers k ≡ true → (b : Bool) → (k == number) ≡ b → IsAsk (has_literal trail) (clause_at cl k) (get_or new.asks.items k 0)
    by k h true f =
        let q : k ≡ number = equal_of k number f in
        let v : get_or new.asks.items k 0 ≡ ask =
        ap (λ (xs : List ℕ). get_or xs k 0) p.asks ∙ ap (λ (i : ℕ). get_or (set old.asks.items number ask) i 0) q
        ∙ get_or-set_same old.asks.items number ask 0 (omega (arith, inside, a.long)) in
        subst (λ (x : ℕ). IsAsk (has_literal trail) (clause_at cl k) x) (sym v) (subst (λ (n : ℕ). IsAsk (has_literal trail) (clause_at cl n) ask) (sym q) is)
    by k h false f =
        let was : words_have old.numbers k ≡ true = ap (λ (b : Bool). b || words_have old.numbers k) (sym f) ∙ sym (p.has k) ∙ h in
        let v : get_or new.asks.items k 0 ≡ get_or old.asks.items k 0 =
        ap (λ (xs : List ℕ). get_or xs k 0) p.asks ∙ get_or-set_other old.asks.items number k ask 0 (apart_of k number f) in
        subst (λ (x : ℕ). IsAsk (has_literal trail) (clause_at cl k) x) (sym v) (a.are k was)

-- members are taken out
pub asks_fewer : (cl : List (List ℕ)) (trail : List ℕ) (p : Pending) (words : List ℕ) → HasAsks cl trail p
    → ((k : ℕ) → words_have words k ≡ true → words_have p.numbers k ≡ true) → length words ≡ length p.numbers
    → HasAsks cl trail (record p { numbers = words })
asks_fewer cl trail p words a fewer room = record {
  within = λ k h. a.within k (fewer k h);
  are = λ k h. a.are k (fewer k h);
  room = omega (arith, a.room, room);
  long = a.long;
}

-- all are
pub asks_cleared : (cl : List (List ℕ)) (trail : List ℕ) (p : Pending) → ((k : ℕ) → words_have p.numbers k ≡ false)
    → length cl ≤ 64 * length p.numbers → length cl ≤ length p.asks.items → HasAsks cl trail p
asks_cleared cl trail p none room long = record {
  within = λ k h. absurd (let z : true ≡ false = sym h ∙ none k in let w : ⊥ = cc in w);
  are = λ k h. absurd (let z : true ≡ false = sym h ∙ none k in let w : ⊥ = cc in w);
  room = room;
  long = long;
}

-- one literal more is true
pub asks_longer : (cl : List (List ℕ)) (trail : List ℕ) (x : ℕ) (p : Pending) → HasAsks cl trail p → HasAsks cl (trail ++ x ∷ []) p
asks_longer cl trail x p a = record {
  within = a.within;
  are = λ k h. ask_longer (has_literal trail) (has_literal (trail ++ x ∷ [])) (clause_at cl k) (get_or p.asks.items k 0) (true_longer trail x) (a.are k h);
  room = a.room;
  long = a.long;
}

-- there is more room
pub asks_wider : (cl : List (List ℕ)) (trail : List ℕ) (old new : Pending) → HasAsks cl trail old → IsWider old new → HasAsks cl trail new
asks_wider cl trail old new a w = record {
  within = λ k h. a.within k (sym (w.same k) ∙ h);
  are = λ k h.
      let was = sym (w.same k) ∙ h in
      subst (λ (x : ℕ). IsAsk (has_literal trail) (clause_at cl k) x) (sym (w.asks k (omega (arith, a.within k was, a.long)))) (a.are k was);
  room = omega (arith, a.room, w.more_numbers);
  long = omega (arith, a.long, w.more_asks);
}

-- there is a clause more, which is not in the set
asks_more : (cl : List (List ℕ)) (k trail : List ℕ) (p : Pending) → HasAsks cl trail p → length cl < 64 * length p.numbers
    → length cl < length p.asks.items → HasAsks (cl ++ k ∷ []) trail p
asks_more cl k trail p a room long = record {
  within = λ n h. omega (arith, a.within n h, length_push cl k);
  are = λ n h.
      let w = a.within n h in
      subst (λ (xs : List ℕ). IsAsk (has_literal trail) xs (get_or p.asks.items n 0)) (sym (at_other cl k n (λ (q : n ≡ length cl). absurd (omega (arith, q, w))))) (a.are n h);
  room = omega (arith, room, length_push cl k);
  long = omega (arith, long, length_push cl k);
}

-- or is, if it may be pending
pub asks_add : (cl : List (List ℕ)) (k trail : List ℕ) (number : ℕ) (entered : Entered) (old new : Pending) → HasAsks cl trail old
    → number ≡ length cl → number < 64 * length old.numbers → number < length old.asks.items → IsRaised trail number entered old new
    → (entered.low ≤ length trail → IsAsk (has_literal trail) k entered.ask) → HasAsks (cl ++ k ∷ []) trail new
asks_add cl k trail number entered old new a e room long (inl r) is =
    asks_put (cl ++ k ∷ []) trail number entered.ask old new (asks_more cl k trail old a (omega (arith, e, room)) (omega (arith, e, long))) r.1 (omega (arith, e, length_push cl k))
    (subst (λ (xs : List ℕ). IsAsk (has_literal trail) xs entered.ask) (sym (at_own cl k number e)) (is r.0))
asks_add cl k trail number entered old new a e room long (inr r) is =
    subst (λ (p : Pending). HasAsks (cl ++ k ∷ []) trail p) (sym r.1) (asks_more cl k trail old a (omega (arith, e, room)) (omega (arith, e, long)))

-- without one member all others are there
pub cleaned_others : (was is : ℕ → Bool) (n : ℕ) → ((k : ℕ) → is k ≡ (not (k == n) && was k)) → (k : ℕ) → was k ≡ true → (is k ≡ true) ⊎ (Some n ≡ Some k)
cleaned_others was is n has k h = by (k == n) refl
  where
    by : (b : Bool) → (k == n) ≡ b → (is k ≡ true) ⊎ (Some n ≡ Some k)
    by true f = inr (ap (λ (i : ℕ). Some i) (sym (equal_of k n f)))
    by false f = inl (has k ∙ ap (λ (b : Bool). not b && was k) f ∙ h)

-- a set as it was, and one without its least member
pub without_none : (reason : Option ℕ) (p : Pending) → IsWithoutOne reason p p
without_none reason p = record { fewer = λ k h. h; others = λ k h. inl h; asks = refl; room = refl }

pub without_least : (n : ℕ) (p : Pending) (words : List ℕ) → ((k : ℕ) → words_have words k ≡ (not (k == n) && words_have p.numbers k))
    → length words ≡ length p.numbers → IsWithoutOne (Some n) p (record p { numbers = words })
without_least n p words has room = record {
  fewer = cleaned_fewer (words_have p.numbers) (words_have words) n has;
  others = cleaned_others (words_have p.numbers) (words_have words) n has;
  asks = refl;
  room = room;
}

-- one of them may be gone
pub asks_without : (cl : List (List ℕ)) (trail : List ℕ) (reason : Option ℕ) (old new : Pending) → HasAsks cl trail old → IsWithoutOne reason old new → HasAsks cl trail new
asks_without cl trail reason old new a w = record {
  within = λ k h. a.within k (w.fewer k h);
  are = λ k h. subst (λ (xs : List ℕ). IsAsk (has_literal trail) (clause_at cl k) (get_or xs k 0)) (sym w.asks) (a.are k (w.fewer k h));
  room = omega (arith, a.room, w.room);
  long = omega (arith, a.long, ap (λ (xs : List ℕ). length xs) w.asks);
}
