-- What the status of a run says of its words and of its files, from what is known of the endings that come.
use Rattle.std.proofs.Common.{◌≡◌, ◌≤◌, ◌∙◌, ℕ, [], ◌∷◌, sym, ap, arith, inl, inr}
use Rattle.std.specs.Prelude.{Contains, ◌⊎◌}
use Rattle.plan_endings.proofs.published.Statuses.{six_seven, six_seven_eight}

-- Endings of a program, each with a status, and those that come of some words: 7 where they ask for nothing, 5 where a file could not be
-- read alone, and up to 4 else.
module _ {E : Type 0} (status_of : E → ℕ) (comes : E → Type 0) (nothing fault : Type 0)
    (low : (end : E) → comes end → ((status_of end ≡ 7) × nothing) ⊎ (((status_of end ≡ 5) × fault) ⊎ (status_of end ≤ 4))) where
  -- no ending that comes has a status of its own for a write fault or for want of memory
  pub status_apart : (end : E) → comes end → (status_of end ≡ 6 → ⊥) × (status_of end ≡ 8 → ⊥)
  status_apart end h = elim (low end h) [
    | inl k ↦ (let seven = k.0 in (λ six. omega (arith, seven, six), λ eight. omega (arith, seven, eight)))
    | inr (inl k) ↦ (let five = k.0 in (λ six. omega (arith, five, six), λ eight. omega (arith, five, eight)))
    | inr (inr most) ↦ (λ six. omega (arith, most, six), λ eight. omega (arith, most, eight))
  ]

  usage_only : (end : E) → status_of end ≡ 7 → comes end → nothing
  usage_only end seven h = elim (low end h) [
    | inl k ↦ k.1
    | inr (inl k) ↦ absurd (let five = k.0 in omega (arith, five, seven))
    | inr (inr most) ↦ absurd (omega (arith, most, seven))
  ]

  fault_of : (end : E) → status_of end ≡ 5 → comes end → fault
  fault_of end five h = elim (low end h) [
    | inl k ↦ absurd (let seven = k.0 in omega (arith, five, seven))
    | inr (inl k) ↦ k.1
    | inr (inr most) ↦ absurd (omega (arith, most, five))
  ]

  -- a status that an ending has which comes and was written, but for a write fault and want of memory
  module _ (status : ℕ) (written : E → Type 0) (due : (status ≡ 6 → ⊥) → (status ≡ 8 → ⊥) → (end : E) × (status ≡ status_of end) × comes end × written end) where
    pub due_at : (k : ℕ) → status ≡ k → k ≤ 5 → (end : E) × (status_of end ≡ k) × comes end × written end
    due_at k is most =
        let d = due (λ six. absurd (omega (arith, is, most, six))) (λ eight. absurd (omega (arith, is, most, eight))) in
        (d.0, sym d.1 ∙ is, d.2, d.3)

    pub usage : status ≡ 7 → nothing
    usage seven = let d = due (λ six. absurd (omega (arith, seven, six))) (λ eight. absurd (omega (arith, seven, eight))) in usage_only d.0 (sym d.1 ∙ seven) d.2

    pub read_fault : status ≡ 5 → fault
    read_fault five = let d = due_at 5 five (omega arith) in fault_of d.0 d.1 d.2

    -- words that ask for nothing have one ending alone, whose status is 7
    module _ (end : E) (is : status_of end ≡ 7) (only : (other : E) → comes other → other ≡ end) where
      seven : (status ≡ 6 → ⊥) → (status ≡ 8 → ⊥) → status ≡ 7
      seven not_six not_eight = let d = due not_six not_eight in d.1 ∙ (ap status_of (only d.0 d.2) ∙ is)

      pub not_taken : Contains (6 ∷ 7 ∷ 8 ∷ []) status
      not_taken = six_seven_eight status seven

      pub no_command : (status ≡ 8 → ⊥) → Contains (6 ∷ 7 ∷ []) status
      no_command not_eight = six_seven status (λ not_six. seven not_six not_eight)
