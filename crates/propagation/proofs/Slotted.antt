-- The clauses of the slots, and which of them are kept.
use Rattle.std.proofs.Common.{arith, ◌≡◌, ◌==◌, ℕ, suc, ◌+◌, ◌<◌, ◌≤◌, List, [], ◌∷◌, ◌++◌, length, take, set, get_or, ltb, Bool, true, false, ◌&&◌, ◌||◌, refl, sym, ap, ◌∙◌, subst, inl, inr}
use Rattle.std.proofs.lemmas.Bool.Decides.{nat_tests}
use Rattle.std.proofs.lemmas.List.{get_or-map, length-map, map-append, length_push, get_or_push}
use Rattle.clause_base.specs.Clause.{IsClause, has_literal}
use Rattle.cdcl_defs.specs.Pending.{is_pending}
use Rattle.propagation.specs.declared.visit.WatchState.{WatchState}
use Rattle.propagation.specs.Pending.{is_pending_on}
use Rattle.cdcl_defs.specs.State.{clause_at}
use Rattle.propagation.specs.own.Visit.{slot_clauses, slot_flags, slot_set, AreSlotsBelow, IsFit, IsAtRest}
use Rattle.propagation.specs.own.Sound.{AreFree}
use Rattle.propagation.specs.own.Added.{IsTaken}
use Rattle.propagation.proofs.Filters.{clause_is, clause_past, none_lawful, pending_at}
use Rattle.propagation.proofs.published.Adds.{get_other, at_other, at_own, kept_in}

-- a slot's clause and flag are those of its number
pub slot_at : (cl : List (List ℕ)) (slots : List ℕ) (s : ℕ) → s < length slots → clause_at (slot_clauses cl slots) s ≡ clause_at cl (get_or slots s 0)
slot_at cl slots s h = clause_is (slot_clauses cl slots) s ∙ get_or-map (λ (n : ℕ). clause_at cl n) slots s 0 [] h

pub flag_at : (kept : List Bool) (slots : List ℕ) (s : ℕ) → s < length slots → get_or (slot_flags kept slots) s false ≡ get_or kept (get_or slots s 0) false
flag_at kept slots s h = get_or-map (λ (n : ℕ). get_or kept n false) slots s 0 false h

pub slots_long : (cl : List (List ℕ)) (slots : List ℕ) → length (slot_clauses cl slots) ≡ length slots
slots_long cl slots = length-map slots (λ (n : ℕ). clause_at cl n)

pub flags_long : (kept : List Bool) (slots : List ℕ) → length (slot_flags kept slots) ≡ length slots
flags_long kept slots = length-map slots (λ (n : ℕ). get_or kept n false)

pub fit_slots : (cl : List (List ℕ)) (slots : List ℕ) (codes : ℕ) → IsFit cl codes → IsFit (slot_clauses cl slots) codes
fit_slots cl slots codes f = record {
  below = λ s p h. below s p h (ltb s (length slots)) refl;
  short = λ s. short s (ltb s (length slots)) refl;
  lawful = λ s. lawful s (ltb s (length slots)) refl;
}
  where
    past : (s : ℕ) → ltb s (length slots) ≡ false → clause_at (slot_clauses cl slots) s ≡ []
    past s e = let h : length slots ≤ s = grind (arith, nat_tests) in clause_past (slot_clauses cl slots) s (omega (arith, h, slots_long cl slots))

    below : (s p : ℕ) → p < length (clause_at (slot_clauses cl slots) s) → (b : Bool) → ltb s (length slots) ≡ b
        → get_or (clause_at (slot_clauses cl slots) s) p 0 < codes
    below s p h true e =
        let g : s < length slots = grind (arith, nat_tests) in
        let at = slot_at cl slots s g in
        let l = ap (λ (xs : List ℕ). length xs) at in
        let v = ap (λ (xs : List ℕ). get_or xs p 0) at in
        let b = f.below (get_or slots s 0) p (omega (arith, h, l)) in omega (arith, v, b)
    below s p h false e = absurd (omega (arith, h, ap (λ (xs : List ℕ). length xs) (past s e)))

    short : (s : ℕ) (b : Bool) → ltb s (length slots) ≡ b → length (clause_at (slot_clauses cl slots) s) ≤ 4294967295
    short s true e =
        let g : s < length slots = grind (arith, nat_tests) in
        let l = ap (λ (xs : List ℕ). length xs) (slot_at cl slots s g) in omega (arith, l, f.short (get_or slots s 0))
    short s false e = omega (arith, ap (λ (xs : List ℕ). length xs) (past s e))

    lawful : (s : ℕ) (b : Bool) → ltb s (length slots) ≡ b → IsClause (clause_at (slot_clauses cl slots) s)
    lawful s true e =
        let g : s < length slots = grind (arith, nat_tests) in subst IsClause (sym (slot_at cl slots s g)) (f.lawful (get_or slots s 0))
    lawful s false e = subst IsClause (sym (past s e)) none_lawful

-- a slot's clause is kept and pending where the clause with its number is
pub slot_pending : (cl : List (List ℕ)) (kept : List Bool) (slots trail : List ℕ) (s : ℕ) → s < length slots
    → is_pending_on (slot_clauses cl slots) (slot_flags kept slots) trail s ≡ is_pending_on cl kept trail (get_or slots s 0)
slot_pending cl kept slots trail s h =
    pending_at (slot_clauses cl slots) (slot_flags kept slots) trail s
    ∙ ap (λ (b : Bool). b && is_pending (has_literal trail) (clause_at (slot_clauses cl slots) s)) (flag_at kept slots s h)
    ∙ ap (λ (xs : List ℕ). get_or kept (get_or slots s 0) false && is_pending (has_literal trail) xs) (slot_at cl slots s h)
    ∙ sym (pending_at cl kept trail (get_or slots s 0))

pub pending_slot_in : (cl : List (List ℕ)) (kept : List Bool) (slots trail : List ℕ) (s : ℕ)
    → is_pending_on (slot_clauses cl slots) (slot_flags kept slots) trail s ≡ true → s < length slots
pending_slot_in cl kept slots trail s p =
    let k = kept_in (slot_flags kept slots) s (is_pending (has_literal trail) (clause_at (slot_clauses cl slots) s)) (sym (pending_at (slot_clauses cl slots) (slot_flags kept slots) trail s) ∙ p) in
    omega (arith, k, flags_long kept slots)

-- so where all that are pending are in a set, this is so of the slots too
pub slots_complete : (cl : List (List ℕ)) (kept : List Bool) (slots trail : List ℕ) (set : ℕ → Bool)
    → ((k : ℕ) → is_pending_on cl kept trail k ≡ true → set k ≡ true) → (s : ℕ)
    → is_pending_on (slot_clauses cl slots) (slot_flags kept slots) trail s ≡ true → slot_set set slots s ≡ true
slots_complete cl kept slots trail set c s p =
    c (get_or slots s 0) (sym (slot_pending cl kept slots trail s (pending_slot_in cl kept slots trail s p)) ∙ p)

-- one clause more leaves the clauses of the slots
apart_by : (m n : ℕ) → m < n → m ≡ n → ⊥
apart_by m n h e = absurd (omega (arith, h, e))

pub slots_same : (cl : List (List ℕ)) (k : List ℕ) (slots : List ℕ) → AreSlotsBelow (length cl) slots
    → slot_clauses (cl ++ k ∷ []) slots ≡ slot_clauses cl slots
slots_same cl k [] h = refl
slots_same cl k (m ∷ slots) h =
    ap (λ (xs : List ℕ). xs ∷ slot_clauses (cl ++ k ∷ []) slots) (at_other cl k m (apart_by m (length cl) (h 0 (omega arith))))
    ∙ ap (λ (rest : List (List ℕ)). clause_at cl m ∷ rest) (slots_same cl k slots (λ s g. h (suc s) (omega (arith, g))))

pub flags_same : (kept : List Bool) (slots : List ℕ) → AreSlotsBelow (length kept) slots → slot_flags (kept ++ true ∷ []) slots ≡ slot_flags kept slots
flags_same kept [] h = refl
flags_same kept (m ∷ slots) h =
    ap (λ (b : Bool). b ∷ slot_flags (kept ++ true ∷ []) slots) (get_other kept true false m (apart_by m (length kept) (h 0 (omega arith))))
    ∙ ap (λ (rest : List Bool). get_or kept m false ∷ rest) (flags_same kept slots (λ s g. h (suc s) (omega (arith, g))))

-- and with a slot of its own it is the last of them
pub slots_more : (cl : List (List ℕ)) (k : List ℕ) (slots : List ℕ) (number : ℕ) → AreSlotsBelow (length cl) slots → number ≡ length cl
    → slot_clauses (cl ++ k ∷ []) (slots ++ number ∷ []) ≡ slot_clauses cl slots ++ k ∷ []
slots_more cl k slots number h e =
    map-append (λ (n : ℕ). clause_at (cl ++ k ∷ []) n) slots (number ∷ [])
    ∙ ap (λ (xs : List (List ℕ)). xs ++ clause_at (cl ++ k ∷ []) number ∷ []) (slots_same cl k slots h)
    ∙ ap (λ (xs : List ℕ). slot_clauses cl slots ++ xs ∷ []) (at_own cl k number e)

pub flags_more : (kept : List Bool) (slots : List ℕ) (number : ℕ) → AreSlotsBelow (length kept) slots → number ≡ length kept
    → slot_flags (kept ++ true ∷ []) (slots ++ number ∷ []) ≡ slot_flags kept slots ++ true ∷ []
flags_more kept slots number h e =
    map-append (λ (n : ℕ). get_or (kept ++ true ∷ []) n false) slots (number ∷ [])
    ∙ ap (λ (xs : List Bool). xs ++ get_or (kept ++ true ∷ []) number false ∷ []) (flags_same kept slots h)
    ∙ ap (λ (b : Bool). slot_flags kept slots ++ b ∷ []) (get_or_push kept true false number (sym e))

below_as : (m n : ℕ) (slots : List ℕ) → m ≡ n → AreSlotsBelow m slots → AreSlotsBelow n slots
below_as m n slots e h = subst (λ (x : ℕ). AreSlotsBelow x slots) e h

-- a clause that was taken leaves the tables at rest
pub taken_rest : (cl : List (List ℕ)) (k : List ℕ) (kept : List Bool) (number codes : ℕ) (trail slots : List ℕ) (l : WatchState) (slots' : List ℕ) (l' : WatchState)
    → length kept ≡ length cl → number ≡ length cl → AreSlotsBelow (length cl) slots → IsTaken k number codes trail slots l slots' l'
    → IsAtRest (slot_clauses cl slots) l.resume_at.items l.chains.heads.items l.chains.nodes.items codes (slot_flags kept slots)
    → IsAtRest (slot_clauses (cl ++ k ∷ []) slots') l'.resume_at.items l'.chains.heads.items l'.chains.nodes.items codes (slot_flags (kept ++ true ∷ []) slots')
taken_rest cl k kept number codes trail slots l slots' l' lk e h (inl t) r =
    rw (t.slots_stay, t.lists_stay, slots_same cl k slots h, flags_same kept slots (below_as (length cl) (length kept) slots (sym lk) h)) r
taken_rest cl k kept number codes trail slots l slots' l' lk e h (inr t) r =
    rw (t.slotted, slots_more cl k slots number h e, flags_more kept slots number (below_as (length cl) (length kept) slots (sym lk) h) (e ∙ sym lk))
    (t.rests (slot_clauses cl slots) (slot_flags kept slots) (slots_long cl slots) (flags_long kept slots) r)

-- and its watched literals right in each prefix of the trail
pub taken_free : (cl : List (List ℕ)) (k : List ℕ) (kept : List Bool) (number codes : ℕ) (trail slots : List ℕ) (l : WatchState) (slots' : List ℕ) (l' : WatchState) (n : ℕ)
    → length kept ≡ length cl → number ≡ length cl → AreSlotsBelow (length cl) slots → IsTaken k number codes trail slots l slots' l'
    → n ≤ length trail → AreFree (slot_clauses cl slots) l.chains.nodes.items (slot_flags kept slots) (take n trail)
    → AreFree (slot_clauses (cl ++ k ∷ []) slots') l'.chains.nodes.items (slot_flags (kept ++ true ∷ []) slots') (take n trail)
taken_free cl k kept number codes trail slots l slots' l' n lk e h (inl t) b f =
    rw (t.slots_stay, t.lists_stay, slots_same cl k slots h, flags_same kept slots (below_as (length cl) (length kept) slots (sym lk) h)) f
taken_free cl k kept number codes trail slots l slots' l' n lk e h (inr t) b f =
    rw (t.slotted, slots_more cl k slots number h e, flags_more kept slots number (below_as (length cl) (length kept) slots (sym lk) h) (e ∙ sym lk))
    (t.free (slot_clauses cl slots) (slot_flags kept slots) n (slots_long cl slots) (flags_long kept slots) b f)

-- the slots stay below the number of clauses, and are no more
pub below_more : (n : ℕ) (slots : List ℕ) (number : ℕ) → number ≡ n → AreSlotsBelow n slots → AreSlotsBelow (n + 1) (slots ++ number ∷ [])
below_more n slots number e h s g = by (s == length slots) refl
  where
    by : (b : Bool) → (s == length slots) ≡ b → get_or (slots ++ number ∷ []) s 0 < n + 1
    by true f = let t : s ≡ length slots = grind (arith, nat_tests) in omega (arith, e, get_or_push slots number 0 s (sym t))
    by false f =
        let t : s ≡ length slots → ⊥ = grind (arith, nat_tests) in
        let i : s < length slots = omega (arith, g, length_push slots number, t) in
        omega (arith, h s i, get_other slots number 0 s t)

below_wider : (n : ℕ) (slots : List ℕ) → AreSlotsBelow n slots → AreSlotsBelow (n + 1) slots
below_wider n slots h s g = omega (arith, h s g)

pub taken_below : (n : ℕ) (k : List ℕ) (number codes : ℕ) (trail slots : List ℕ) (l : WatchState) (slots' : List ℕ) (l' : WatchState) → number ≡ n
    → IsTaken k number codes trail slots l slots' l' → AreSlotsBelow n slots → AreSlotsBelow (n + 1) slots'
taken_below n k number codes trail slots l slots' l' e (inl t) h = subst (λ (ss : List ℕ). AreSlotsBelow (n + 1) ss) (sym t.slots_stay) (below_wider n slots h)
taken_below n k number codes trail slots l slots' l' e (inr t) h = subst (λ (ss : List ℕ). AreSlotsBelow (n + 1) ss) (sym t.slotted) (below_more n slots number e h)

pub taken_few : (k : List ℕ) (number codes : ℕ) (trail slots : List ℕ) (l : WatchState) (slots' : List ℕ) (l' : WatchState)
    → IsTaken k number codes trail slots l slots' l' → length slots' ≤ length slots + 1
taken_few k number codes trail slots l slots' l' (inl t) = omega (arith, ap (λ (ss : List ℕ). length ss) t.slots_stay)
taken_few k number codes trail slots l slots' l' (inr t) = omega (arith, ap (λ (ss : List ℕ). length ss) t.slotted, length_push slots number)

-- the number that entered a set is this one
pub insert_at : (was is : ℕ → Bool) (m n : ℕ) → m ≡ n → ((k : ℕ) → is k ≡ (k == m || was k)) → (k : ℕ) → is k ≡ (k == n || was k)
insert_at was is m n e has = subst (λ (x : ℕ). (k : ℕ) → is k ≡ (k == x || was k)) e has
