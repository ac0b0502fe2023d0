-- Members of the set that are pending stay in it where it is listed, and are those of the list.
use Rattle.std.proofs.Common.{arith, ◌≡◌, ◌==◌, ℕ, ◌+◌, ◌<◌, ◌&&◌, List, length, set, Bool, true, false, not, ◌||◌, refl, sym, ap, ◌∙◌}
use Rattle.std.proofs.Common.{length-set, get_or-set_same, get_or-set_other}
use Rattle.std.proofs.lemmas.Bool.{and_from, and_parts}
use Rattle.bit_sets.specs.Layered.{words_have}
use Rattle.propagation.specs.declared.pending.Pending.{Pending}
use Rattle.propagation.specs.Front.{IsComplete, StayWhere}
use Rattle.propagation.specs.Known.{IsListed}
use Rattle.propagation.proofs.published.Assigns.{equal_of}

-- where all that passes is in the set, it is so in the set that is left
pub stay_complete : (passes : ℕ → Bool) (old new : Pending) → IsComplete passes old → StayWhere passes old new → IsComplete passes new
stay_complete passes old new complete stay k e = stay k (and_from (passes k) (words_have old.numbers k) e (complete k e))

pub stay_same : (passes : ℕ → Bool) (old : Pending) → StayWhere passes old old
stay_same passes old k e = (and_parts (passes k) (words_have old.numbers k) e).1

-- a number was taken out of a set
abbrev pub AreWithout : ℕ → (ℕ → Bool) → (ℕ → Bool) → Type 0
AreWithout n was is = (k : ℕ) → is k ≡ (not (k == n) && was k)

-- another one is still there
other_stays : (n : ℕ) (was is : ℕ → Bool) (k : ℕ) → AreWithout n was is → (k == n) ≡ false → was k ≡ true → is k ≡ true
other_stays n was is k without f e = without k ∙ ap (λ (b : Bool). not b && was k) f ∙ e

-- a member is taken out and put back after the others were listed
pub stay_back : (passes : ℕ → Bool) (old first less : Pending) (rest new : ℕ → Bool) (n : ℕ) → StayWhere passes old first
    → AreWithout n (words_have first.numbers) (words_have less.numbers)
    → ((k : ℕ) → (passes k && words_have less.numbers k) ≡ true → rest k ≡ true) → ((k : ℕ) → new k ≡ (k == n || rest k)) → (k : ℕ)
    → (passes k && words_have old.numbers k) ≡ true → new k ≡ true
stay_back passes old first less rest new n stay without left back k e = back k ∙ by (k == n) refl
  where
    by : (b : Bool) → (k == n) ≡ b → (b || rest k) ≡ true
    by true f = refl
    by false f =
        left k (and_from (passes k) (words_have less.numbers k) (and_parts (passes k) (words_have old.numbers k) e).0
        (other_stays n (words_have first.numbers) (words_have less.numbers) k without f (stay k e)))

-- it is listed before them
pub listed_first : (passes : ℕ → Bool) (old first less : Pending) (n from place : ℕ) (numbers : List ℕ) → place < length numbers
    → StayWhere passes old first → AreWithout n (words_have first.numbers) (words_have less.numbers)
    → ((k : ℕ) → passes k ≡ true → words_have less.numbers k ≡ true → k < from → IsListed numbers (place + 1) k) → (k : ℕ) → passes k ≡ true
    → words_have old.numbers k ≡ true → k < from → IsListed (set numbers place n) place k
listed_first passes old first less n from place numbers inside stay without listed k p o b = by (k == n) refl
  where
    by : (t : Bool) → (k == n) ≡ t → IsListed (set numbers place n) place k
    by true f = record {
      place = place;
      past = omega arith;
      inside = omega (arith, inside, length-set numbers place n);
      is = get_or-set_same numbers place n 0 inside ∙ sym (equal_of k n f);
    }
    by false f =
        let was = stay k (and_from (passes k) (words_have old.numbers k) p o) in
        let l = listed k p (other_stays n (words_have first.numbers) (words_have less.numbers) k without f was) b in
        record {
          place = l.place;
          past = omega (arith, l.past);
          inside = omega (arith, l.inside, length-set numbers place n);
          is = get_or-set_other numbers place l.place n 0 (λ (q : l.place ≡ place). absurd (omega (arith, q, l.past))) ∙ l.is;
        }
