-- Each clause that is pending on a longer trail is in the set: that of two literals which are in the lists of both, and that of a
-- slot.
use Rattle.std.proofs.Common.{arith, ◌≡◌, ℕ, ◌<◌, List, [], ◌∷◌, ◌++◌, length, Bool, true, false, not, refl, sym, ap, ◌∙◌, ◌⊎◌, inl, inr}
use Rattle.std.specs.List.{filter}
use Rattle.std.proofs.lemmas.List.Filters.{length-filter_both}
use Rattle.clause_base.specs.Literal.{opposite}
use Rattle.clause_base.specs.Clause.{has_literal}
use Rattle.cdcl_defs.specs.Pending.{is_pending}
use Rattle.clause_base.specs.declared.pair.Pair.{Pair}
use Rattle.propagation.specs.Pending.{is_free, has_two_free, is_pending_on}
use Rattle.cdcl_defs.specs.State.{clause_at}
use Rattle.propagation.specs.own.Visit.{slot_clauses, slot_flags, slot_set, Grows}
use Rattle.clause_base.specs.Pairs.{pairs_of, pair_in}
use Rattle.cdcl_tables.specs.Pairs.{IsInPairs}
use Rattle.propagation.specs.own.Pairs.{IsUnwatched, HasSlot, IsPaired}
use Rattle.propagation.proofs.Filters.{pending_at, tests_one}
use Rattle.propagation.proofs.published.Assigns.{pending_parts, pending_earlier}
use Rattle.propagation.proofs.published.Adds.{kept_in}
use Rattle.propagation.proofs.Paired.{pair_pending}
use Rattle.propagation.proofs.Slotted.{slot_pending}

-- a clause in the lists of its two literals that is pending on the longer trail
pair_found : (cl : List (List ℕ)) (kept : List Bool) (trail : List ℕ) (x : ℕ) (ps : List (List Pair)) (list : List Pair) (s s' : ℕ → Bool) (k : ℕ)
    → IsInPairs ps (clause_at cl k) k → list ≡ pairs_of ps (opposite x)
    → ((i : ℕ) → i < length list → has_literal (trail ++ x ∷ []) (pair_in list i).other ≡ false → s' (pair_in list i).number ≡ true) → Grows s s'
    → ((c : ℕ) → is_pending_on cl kept trail c ≡ true → s c ≡ true) → is_pending_on cl kept (trail ++ x ∷ []) k ≡ true → s' k ≡ true
pair_found cl kept trail x ps list s s' k i l marks grows old p = by (has_two_free (has_literal trail) (clause_at cl k)) refl
  where
    by : (b : Bool) → has_two_free (has_literal trail) (clause_at cl k) ≡ b → s' k ≡ true
    by false f = grows k (old k (pending_earlier cl kept trail x k p f))
    by true f =
        let r = pending_parts cl kept (trail ++ x ∷ []) k p in
        pair_pending (clause_at cl k) ps list trail x k s' i l marks f r.1 r.2

-- a clause of fewer than two literals has no two that are not false
few_free : (on : ℕ → Bool) (xs : List ℕ) → length xs < 2 → has_two_free on xs ≡ false
few_free on xs short =
    let both = length-filter_both (is_free on) (λ (x : ℕ). not (is_free on x)) (λ (x : ℕ). refl) xs in
    ap (λ (b : Bool). not b) (tests_one (length (filter (is_free on) xs)) (omega (arith, short, both)))

pub found_complete : (v : ℕ) (cl : List (List ℕ)) (kept : List Bool) (trail slots : List ℕ) (x : ℕ) (ps : List (List Pair)) (list : List Pair) (s s' : ℕ → Bool)
    → length kept ≡ length cl → IsPaired v cl slots ps → list ≡ pairs_of ps (opposite x)
    → ((i : ℕ) → i < length list → has_literal (trail ++ x ∷ []) (pair_in list i).other ≡ false → s' (pair_in list i).number ≡ true) → Grows s s'
    → ((c : ℕ) → is_pending_on cl kept trail c ≡ true → s c ≡ true)
    → ((n : ℕ) → is_pending_on (slot_clauses cl slots) (slot_flags kept slots) (trail ++ x ∷ []) n ≡ true → slot_set s' slots n ≡ true) → (k : ℕ)
    → is_pending_on cl kept (trail ++ x ∷ []) k ≡ true → s' k ≡ true
found_complete v cl kept trail slots x ps list s s' many paired l marks grows old slotted k p =
    let h = kept_in kept k (is_pending (has_literal (trail ++ x ∷ [])) (clause_at cl k)) (sym (pending_at cl kept (trail ++ x ∷ []) k) ∙ p) in
    by (paired.found k (omega (arith, h, many)))
  where
    by : IsUnwatched ps (clause_at cl k) k ⊎ HasSlot slots k → s' k ≡ true
    by (inl (inr short)) = grows k (old k (pending_earlier cl kept trail x k p (few_free (has_literal trail) (clause_at cl k) short)))
    by (inl (inl i)) = pair_found cl kept trail x ps list s s' k i l marks grows old p
    by (inr i) =
        ap s' (sym i.is)
        ∙ slotted i.slot (slot_pending cl kept slots (trail ++ x ∷ []) i.slot i.inside ∙ ap (λ (n : ℕ). is_pending_on cl kept (trail ++ x ∷ []) n) i.is ∙ p)
