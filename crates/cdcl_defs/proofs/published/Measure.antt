use Rattle.std.proofs.Common.{arith, ◌≡◌, ℕ, zero, suc, ◌+◌, ◌*◌, ◌/◌, ◌%◌, ◌==◌, ◌<◌, ◌≤◌, Bool, true, false, ◌||◌, refl, sym, ◌∙◌, if◌then◌else◌, ap, List, [], ◌∷◌, ◌++◌, Option, Some, None, All, length, ◌⊎◌, inl, inr, zero-add, add-zero}
use Rattle.std.specs.Prelude.{is_none}
use Rattle.std.specs.List.{slice_get, AllByRecursion}
use Rattle.std.proofs.lemmas.Bool.Decides.{nat_tests}
use Rattle.std.proofs.lemmas.List.Folds.{list_any-append}
use Rattle.std.proofs.lemmas.List.Elements.{All-nil, recursion_from_All}
use Rattle.std.proofs.Math.Nat.{eq-or-lt_of_le}
use Rattle.clause_base.specs.Literal.{opposite}
use Rattle.clause_base.specs.Clause.{HasVariablesBelow}
use Rattle.cdcl_defs.specs.declared.trail.Assigned.{Assigned}
use Rattle.cdcl_defs.specs.declared.event.Event.{Event}
use Rattle.cdcl_defs.specs.declared.event.Event.TheVariants.{Conflict, Force, Decide, Finish}
use Rattle.cdcl_defs.specs.State.{State, clause_at, is_on, value_of, values_of, values_from}
use Rattle.cdcl_defs.specs.Pending.{open_ones, first_pending}
use Rattle.clause_base.specs.Choice.{Known, IsOpenChoice}
use Rattle.cdcl_defs.specs.Event.{event_of, asked, chosen_event}
use Rattle.cdcl_defs.specs.Run.{is_going, is_conflict, apply}
use Rattle.cdcl_defs.specs.Open.{IsOpenEvent}
use Rattle.cdcl_defs.proofs.published.Members.{member_of, at_clause}
use Rattle.cdcl_defs.proofs.published.Pending.{Asks, asks}

-- how many of n variables from v on have no value
abbrev pub open_count : List Assigned → ℕ → ℕ → ℕ
open_count trail v zero = 0
open_count trail v (suc n) = (if is_none (value_of trail v) then 1 else 0) + open_count trail (v + 1) n

pub is_on-more : (trail : List Assigned) (a : Assigned) (l : ℕ) → is_on (trail ++ a ∷ []) l ≡ (is_on trail l || (a.literal == l))
is_on-more trail a l = grind (arith, nat_tests, list_any-append (λ (x : Assigned). x.literal == l) trail (a ∷ []))

le_test : (p q r s : Bool) → (if is_none (if p || r then Some true else if q || s then Some false else None) then 1 else 0) ≤ (if is_none (if p then Some true else if q then Some false else None) then 1 else 0)
le_test true q r s = omega arith
le_test false true true s = omega arith
le_test false true false s = omega arith
le_test false false true s = omega arith
le_test false false false true = omega arith
le_test false false false false = omega arith

lt_test : (p q r s : Bool) → (if p then Some true else if q then Some false else None) ≡ None → (r || s) ≡ true → (if is_none (if p || r then Some true else if q || s then Some false else None) then 1 else 0) < (if is_none (if p then Some true else if q then Some false else None) then 1 else 0)
lt_test true q r s e t = cc
lt_test false true r s e t = cc
lt_test false false true s e t = omega arith
lt_test false false false true e t = omega arith
lt_test false false false false e t = cc

-- a longer trail leaves no more open
one_le : (trail : List Assigned) (a : Assigned) (v : ℕ) → (if is_none (value_of (trail ++ a ∷ []) v) then 1 else 0) ≤ (if is_none (value_of trail v) then 1 else 0)
one_le trail a v = rw (is_on-more trail a (2 * v), is_on-more trail a (2 * v + 1)) (le_test (is_on trail (2 * v)) (is_on trail (2 * v + 1)) (a.literal == 2 * v) (a.literal == 2 * v + 1))

own_literal : (l : ℕ) → (l == 2 * (l / 2) || l == 2 * (l / 2) + 1) ≡ true
own_literal l = grind (arith, nat_tests)

one_lt : (trail : List Assigned) (a : Assigned) → value_of trail (a.literal / 2) ≡ None → (if is_none (value_of (trail ++ a ∷ []) (a.literal / 2)) then 1 else 0) < (if is_none (value_of trail (a.literal / 2)) then 1 else 0)
one_lt trail a e =
    let v = a.literal / 2 in
    let own : (a.literal == 2 * v || a.literal == 2 * v + 1) ≡ true = own_literal a.literal in
    rw (is_on-more trail a (2 * v), is_on-more trail a (2 * v + 1)) (lt_test (is_on trail (2 * v)) (is_on trail (2 * v + 1)) (a.literal == 2 * v) (a.literal == 2 * v + 1) e own)

pub count_le : (trail : List Assigned) (a : Assigned) (v n : ℕ) → open_count (trail ++ a ∷ []) v n ≤ open_count trail v n
count_le trail a v zero = omega arith
count_le trail a v (suc n) = omega (arith, one_le trail a v, count_le trail a (v + 1) n)

count_step : (trail : List Assigned) (a : Assigned) (v n : ℕ) → value_of trail (a.literal / 2) ≡ None → v ≤ a.literal / 2 → (v ≡ a.literal / 2) ⊎ (v < a.literal / 2) → (v + 1 ≤ a.literal / 2 → open_count (trail ++ a ∷ []) (v + 1) n < open_count trail (v + 1) n) → open_count (trail ++ a ∷ []) v (suc n) < open_count trail v (suc n)
count_step trail a v n e l (inl here) later = let h = one_lt trail a e in let k = rw (← here) at h in omega (arith, k, count_le trail a (v + 1) n)
count_step trail a v n e l (inr past) later = let k : v + 1 ≤ a.literal / 2 = omega arith in omega (arith, one_le trail a v, later k)

pub count_lt : (trail : List Assigned) (a : Assigned) (v n : ℕ) → value_of trail (a.literal / 2) ≡ None → v ≤ a.literal / 2 → a.literal / 2 < v + n → open_count (trail ++ a ∷ []) v n < open_count trail v n
count_lt trail a v zero e l m = absurd (omega arith)
count_lt trail a v (suc n) e l m = count_step trail a v n e l (eq-or-lt_of_le l) (λ k. count_lt trail a (v + 1) n e k (omega arith))

-- the number of events that may still come
abbrev pub events_left : State → ℕ
events_left s = if is_going s.standing then 1 + open_count s.trail 0 s.variables else 0

pub fewer_left : (s : State) (e : Event) → is_going s.standing ≡ true → is_conflict e ≡ false → IsOpenEvent s e → events_left (apply s e) < events_left s
fewer_left s (Conflict i) g n o = cc
fewer_left s (Force l i) g n o = rw g (omega (arith, count_lt s.trail (record { literal = l; reason = Some i }) 0 s.variables o.1 (omega arith) (omega (arith, o.0))))
fewer_left s (Decide l) g n o = rw g (omega (arith, count_lt s.trail (record { literal = l; reason = None }) 0 s.variables o.1 (omega arith) (omega (arith, o.0))))
fewer_left s Finish g n o = rw g (omega arith)

-- a literal and its opposite are those of its variable
pub sides : (l : ℕ) (b : Bool) → (l % 2 == 0) ≡ b → ((l ≡ 2 * (l / 2)) × (opposite l ≡ 2 * (l / 2) + 1)) ⊎ ((l ≡ 2 * (l / 2) + 1) × (opposite l ≡ 2 * (l / 2)))
sides l true e = let m : l % 2 ≡ 0 = grind (arith, nat_tests) in inl (omega arith, rw e (omega arith))
sides l false e = let m : (l % 2 ≡ 0) → ⊥ = λ (z : l % 2 ≡ 0). grind (arith, nat_tests) in inr (grind arith, rw e (grind arith))

pub value_of-open : (trail : List Assigned) (l : ℕ) → is_on trail l ≡ false → is_on trail (opposite l) ≡ false → value_of trail (l / 2) ≡ None
value_of-open trail l e f =
    elim (sides l (l % 2 == 0) refl) [
      | inl h ↦
          let p : is_on trail (2 * (l / 2)) ≡ false = ap (is_on trail) (sym h.0) ∙ e in
          let q : is_on trail (2 * (l / 2) + 1) ≡ false = ap (is_on trail) (sym h.1) ∙ f in
          rw (p, q)
      | inr h ↦
          let p : is_on trail (2 * (l / 2)) ≡ false = ap (is_on trail) (sym h.1) ∙ f in
          let q : is_on trail (2 * (l / 2) + 1) ≡ false = ap (is_on trail) (sym h.0) ∙ e in
          rw (p, q)
    ]

-- what a clause asks for is open
asked_open : (s : State) (e : Event) → AllByRecursion (HasVariablesBelow s.variables) s.clauses → Asks s e → IsOpenEvent s e
asked_open s (Conflict i) b a = tt
asked_open s (Force l i) b a =
    let v = at_clause (HasVariablesBelow s.variables) s.clauses i (All-nil (λ m. m / 2 < s.variables)) b in
    let c = recursion_from_All (λ m. m / 2 < s.variables) (clause_at s.clauses i) v in
    (member_of (λ m. m / 2 < s.variables) (clause_at s.clauses i) l c a.1.has, value_of-open s.trail l a.1.off a.1.free)
asked_open s (Decide l) b a = absurd a
asked_open s Finish b a = absurd a

-- the values of the variables from v on
pub values_from-at : (trail : List Assigned) (v n k : ℕ) (o : Option Bool) → slice_get (values_from trail v n) k ≡ Some o → (k < n) × (value_of trail (v + k) ≡ o)
values_from-at trail v zero k o e = cc
values_from-at trail v (suc n) zero o e = (omega arith, rw add-zero (let h : value_of trail v ≡ o = cc in h))
values_from-at trail v (suc n) (suc k) o e =
    let h = values_from-at trail (v + 1) n k o e in
    let same : v + 1 + k ≡ v + suc k = omega arith in
    (omega (arith, h.0), rw same at h.1)

pub chosen_open : (s : State) (o : Option ℕ) → IsOpenChoice (values_of s.variables s.trail) o → IsOpenEvent s (chosen_event o)
chosen_open s None c = tt
chosen_open s (Some l) c = let h = values_from-at s.trail 0 s.variables (l / 2) None c in (h.0, rw zero-add at h.1)

pub length-values_from : (trail : List Assigned) (v n : ℕ) → length (values_from trail v n) ≡ n
length-values_from trail v zero = refl
length-values_from trail v (suc n) = ap suc (length-values_from trail (v + 1) n)

-- an event is open, whichever it is
event_open_by : (choose : Known → Option ℕ) (s : State) (o : Option ℕ) → first_pending s ≡ o → (IsOpenChoice (values_of s.variables s.trail) (choose (values_of s.variables s.trail))) → All (HasVariablesBelow s.variables) s.clauses → IsOpenEvent s (elim o [ Some number ↦ asked number (open_ones (is_on s.trail) (clause_at s.clauses number)) | None ↦ chosen_event (choose (values_of s.variables s.trail)) ])
event_open_by choose s (Some n) e c b = asked_open s _ (recursion_from_All (HasVariablesBelow s.variables) s.clauses b) (asks s n e)
event_open_by choose s None e c b = chosen_open s (choose (values_of s.variables s.trail)) c

pub event_open : (choose : Known → Option ℕ) (s : State) → All (HasVariablesBelow s.variables) s.clauses → ((values : Known) → length values ≡ s.variables → IsOpenChoice values (choose values)) → IsOpenEvent s (event_of choose s)
event_open choose s b c = event_open_by choose s (first_pending s) refl (c _ (length-values_from s.trail 0 s.variables)) b

pub open_count-le : (trail : List Assigned) (v n : ℕ) → open_count trail v n ≤ n
open_count-le trail v zero = omega arith
open_count-le trail v (suc n) = one (is_none (value_of trail v)) (open_count-le trail (v + 1) n)
  where
    one : (b : Bool) → open_count trail (v + 1) n ≤ n → (if b then 1 else 0) + open_count trail (v + 1) n ≤ suc n
    one true h = omega arith
    one false h = omega arith

pub events_left-le : (s : State) (g : Bool) → is_going s.standing ≡ g → events_left s ≤ s.variables + 1
events_left-le s true e = rw e (omega (arith, open_count-le s.trail 0 s.variables))
events_left-le s false e = rw e (omega arith)
