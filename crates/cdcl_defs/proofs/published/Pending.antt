-- What stands behind an event that a clause asks for.
use Rattle.std.proofs.Common.{arith, ◌≡◌, ◌==◌, ℕ, zero, suc, ◌+◌, ◌<◌, ◌≤◌, List, [], ◌∷◌, length, Bool, true, false, not, ◌||◌, ◌&&◌, refl, sym, ap, ◌∙◌, if◌then◌else◌, nat_le, Some, None, ◌⊎◌, inl, inr}
use Rattle.std.specs.List.{list_any}
use Rattle.std.proofs.Math.Nat.{eq-or-lt_of_le}
use Rattle.std.proofs.lemmas.Bool.Decides.{nat_tests}
use Rattle.clause_base.specs.Literal.{opposite}
use Rattle.cdcl_defs.specs.declared.trail.Assigned.{Assigned}
use Rattle.cdcl_defs.specs.declared.event.Event.{Event}
use Rattle.cdcl_defs.specs.declared.event.Event.TheVariants.{Conflict, Force, Decide, Finish}
use Rattle.cdcl_defs.specs.State.{State, clause_at, is_kept, is_on}
use Rattle.cdcl_defs.specs.Trail.{AllFalse}
use Rattle.cdcl_defs.specs.Pending.{open_ones, is_pending, is_pending_in, least_from, first_pending}
use Rattle.cdcl_defs.specs.Event.{asked}
use Rattle.cdcl_defs.proofs.published.Tests.{and_split, not_split, test_same}
use Rattle.cdcl_defs.proofs.published.Members.{is_in, is_in-filter, head_in, none_passes}

-- the number that was found passes the test, and those before it do not
pub record IsFirst (p : ℕ → Bool) (k n r : ℕ) : Type 0 where
  pub passes : p r ≡ true
  pub low : k ≤ r
  pub high : r < k + n
  pub first : (j : ℕ) → k ≤ j → j < r → p j ≡ false

pub least_some : (p : ℕ → Bool) (k n r : ℕ) → least_from p k n ≡ Some r → IsFirst p k n r
least_some p k zero r e = cc
least_some p k (suc n) r e = by (p k) refl e (least_some p (k + 1) n r)
  where
    by : (b : Bool) → p k ≡ b → (if b then Some k else least_from p (k + 1) n) ≡ Some r → (least_from p (k + 1) n ≡ Some r → IsFirst p (k + 1) n r) → IsFirst p k (suc n) r
    by true f h on = let s : k ≡ r = cc in record { passes = ap p (sym s) ∙ f; low = omega arith; high = omega arith; first = λ j l m. absurd (omega arith) }
    by false f h on =
        let i = on h in
        record { passes = i.passes; low = omega (arith, i.low); high = omega (arith, i.high); first = λ j l m. here j (eq-or-lt_of_le l) m i }
      where
        here : (j : ℕ) → (k ≡ j) ⊎ (k < j) → j < r → IsFirst p (k + 1) n r → p j ≡ false
        here j (inl s) m i = ap p (sym s) ∙ f
        here j (inr l) m i = i.first j (omega arith) m

-- where none is found none passes
pub least_none : (p : ℕ → Bool) (k n : ℕ) → least_from p k n ≡ None → (r : ℕ) → k ≤ r → r < k + n → p r ≡ false
least_none p k zero e r l h = absurd (omega arith)
least_none p k (suc n) e r l h = by (p k) refl e (eq-or-lt_of_le l) (λ e l. least_none p (k + 1) n e r l (omega arith))
  where
    by : (b : Bool) → p k ≡ b → (if b then Some k else least_from p (k + 1) n) ≡ None → (k ≡ r) ⊎ (k < r) → (least_from p (k + 1) n ≡ None → k + 1 ≤ r → p r ≡ false) → p r ≡ false
    by true f g c on = cc
    by false f g (inl s) on = ap p (sym s) ∙ f
    by false f g (inr m) on = on g (omega arith)

-- what passes first is what is found
pub first_is : (p : ℕ → Bool) (k n r : ℕ) → IsFirst p k n r → least_from p k n ≡ Some r
first_is p k zero r i = absurd (omega (arith, i.low, i.high))
first_is p k (suc n) r i = by (p k) refl (eq-or-lt_of_le i.low) (first_is p (k + 1) n r)
  where
    by : (b : Bool) → p k ≡ b → (k ≡ r) ⊎ (k < r) → (IsFirst p (k + 1) n r → least_from p (k + 1) n ≡ Some r) → (if b then Some k else least_from p (k + 1) n) ≡ Some r
    by true f (inl s) on = ap Some s
    by true f (inr m) on = let z : true ≡ false = sym f ∙ i.first k (omega arith) m in cc
    by false f (inl s) on = let z : true ≡ false = sym i.passes ∙ ap p (sym s) ∙ f in cc
    by false f (inr m) on = on (record { passes = i.passes; low = omega arith; high = omega (arith, i.high); first = λ j l h. i.first j (omega arith) h })

-- where none passes none is found
pub none_is : (p : ℕ → Bool) (k n : ℕ) → ((r : ℕ) → k ≤ r → r < k + n → p r ≡ false) → least_from p k n ≡ None
none_is p k zero h = refl
none_is p k (suc n) h = rw (h k (omega arith) (omega arith)) (none_is p (k + 1) n (λ r l m. h r (omega arith) (omega arith)))

-- a clause that forces a literal, which has no value yet
pub record ForcesOpen (trail : List Assigned) (clause : List ℕ) (l : ℕ) : Type 0 where
  pub has : is_in clause l ≡ true
  pub off : is_on trail l ≡ false
  pub free : is_on trail (opposite l) ≡ false
  pub others : (m : ℕ) → is_in clause m ≡ true → (m ≡ l) ⊎ (is_on trail (opposite m) ≡ true)

-- a clause that is kept and asks for an event
pub record IsAsking (s : State) (number : ℕ) : Type 0 where
  pub kept : is_kept s.kept number ≡ true
  pub in_range : number < length s.clauses

-- what stands behind an event that a clause asks for
abbrev pub Asks : State → Event → Type 0
Asks s (Conflict i) = IsAsking s i × AllFalse s.trail (clause_at s.clauses i)
Asks s (Force l i) = IsAsking s i × ForcesOpen s.trail (clause_at s.clauses i) l
Asks s (Decide l) = ⊥
Asks s Finish = ⊥

open_in : (trail : List Assigned) (clause opened : List ℕ) (m : ℕ) → open_ones (is_on trail) clause ≡ opened → is_in opened m ≡ (is_in clause m && not (is_on trail (opposite m)))
open_in trail clause opened m e = ap (λ (ls : List ℕ). is_in ls m) (sym e) ∙ is_in-filter (λ l. not (is_on trail (opposite l))) clause m

false_by : (o : Bool) → (true && not o) ≡ false → o ≡ true
false_by true e = refl
false_by false e = cc

all_false : (trail : List Assigned) (clause : List ℕ) → open_ones (is_on trail) clause ≡ [] → AllFalse trail clause
all_false trail clause e m h =
    let k : false ≡ (is_in clause m && not (is_on trail (opposite m))) = open_in trail clause [] m e in
    false_by (is_on trail (opposite m)) (ap (λ (b : Bool). b && not (is_on trail (opposite m))) (sym h) ∙ sym k)

other_by : (trail : List Assigned) (l m : ℕ) (o : Bool) → is_on trail (opposite m) ≡ o → ((l == m) || false) ≡ (true && not o) → (m ≡ l) ⊎ (is_on trail (opposite m) ≡ true)
other_by trail l m true f e = inr f
other_by trail l m false f e = inl (sym (test_same l m (or_false (l == m) ∙ e)))
  where
    or_false : (b : Bool) → b ≡ (b || false)
    or_false true = refl
    or_false false = refl

forces_open : (trail : List Assigned) (clause : List ℕ) (l : ℕ) → list_any (is_on trail) clause ≡ false → open_ones (is_on trail) clause ≡ l ∷ [] → ForcesOpen trail clause l
forces_open trail clause l a e =
    let k = sym (open_in trail clause (l ∷ []) l e) ∙ head_in l [] in
    let p = and_split (is_in clause l) (not (is_on trail (opposite l))) k in
    record {
      has = p.0;
      off = none_passes (is_on trail) clause l a p.0;
      free = not_split (is_on trail (opposite l)) p.1;
      others = λ m h. other_by trail l m (is_on trail (opposite m)) refl (open_in trail clause (l ∷ []) m e ∙ ap (λ (b : Bool). b && not (is_on trail (opposite m))) h);
    }

asks_by : (s : State) (n : ℕ) (opened : List ℕ) → IsAsking s n → list_any (is_on s.trail) (clause_at s.clauses n) ≡ false → nat_le (length opened) 1 ≡ true → open_ones (is_on s.trail) (clause_at s.clauses n) ≡ opened → Asks s (asked n opened)
asks_by s n [] i a f e = (i, all_false s.trail (clause_at s.clauses n) e)
asks_by s n (l ∷ []) i a f e = (i, forces_open s.trail (clause_at s.clauses n) l a e)
asks_by s n (l ∷ m ∷ rest) i a f e = let h : length (l ∷ m ∷ rest) ≤ 1 = grind (arith, nat_tests) in absurd (omega (arith, h))

-- the first pending clause asks for its event
pub asks : (s : State) (n : ℕ) → first_pending s ≡ Some n → Asks s (asked n (open_ones (is_on s.trail) (clause_at s.clauses n)))
asks s n e =
    let f = least_some (is_pending_in s.clauses s.kept (is_on s.trail)) 0 (length s.clauses) n e in
    let clause = clause_at s.clauses n in
    let k = and_split (is_kept s.kept n) (is_pending (is_on s.trail) clause) f.passes in
    let p = and_split (not (list_any (is_on s.trail) clause)) (nat_le (length (open_ones (is_on s.trail) clause)) 1) k.1 in
    asks_by s n (open_ones (is_on s.trail) clause) (record { kept = k.0; in_range = omega (arith, f.high) }) (not_split (list_any (is_on s.trail) clause) p.0) p.1 refl

-- where no clause is pending, each that is kept has a true literal or two without a value
pub none_pending : (s : State) → first_pending s ≡ None → (n : ℕ) → n < length s.clauses → is_kept s.kept n ≡ true → is_pending (is_on s.trail) (clause_at s.clauses n) ≡ false
none_pending s e n h k =
    let p = least_none (is_pending_in s.clauses s.kept (is_on s.trail)) 0 (length s.clauses) e n (omega arith) (omega arith) in
    ap (λ (b : Bool). b && is_pending (is_on s.trail) (clause_at s.clauses n)) (sym k) ∙ p
