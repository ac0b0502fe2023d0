use Rattle.std.proofs.Common.{◌≡◌, ◌==◌, ℕ, List, Bool, true, false, not, ◌&&◌, ◌||◌, refl, ap, sym, ◌∙◌}
use Rattle.std.specs.List.{list_any}
use Rattle.gt_core.specs.Literal.{opposite}
use Rattle.gt_core.specs.Task.{Effect}
use Rattle.gt_core.proofs.published.Basics.{passing, any_at, or_left, and_split, and_both, not_true, apart}
use Rattle.implied_literals.specs.Tested.{with_more, may_take, loses_by, is_sure, breaks_with}
use Rattle.two_invariants.specs.own.Plain.{has_opposite}
use Rattle.two_invariants.proofs.Steps.{opposite_test}

-- An action breaks no clause where its literal that is not taken is known before it and not taken by it.

module _ (facts : ℕ) (rows : List (List ℕ)) (effects : List Effect) where
  -- what no effect takes is not lost
  not_lost : (set : ℕ → Bool) (m : ℕ) → has_opposite effects m ≡ false → loses_by facts rows set effects effects m ≡ true → ⊥
  not_lost set m none t =
      let p = passing (λ (e : Effect). (e.literal == opposite m) && may_take facts (with_more rows set e.condition) effects m) effects t in
      let h = and_split (p.one.literal == opposite m) _ p.passes in
      apart (has_opposite effects m) (any_at (λ (e : Effect). opposite e.literal == m) effects p.one p.among (sym (opposite_test p.one.literal m) ∙ h.0)) none

  surely : (before : ℕ → Bool) (c : List ℕ) (m : ℕ) → before m ≡ true → has_opposite effects m ≡ false → is_sure facts rows (with_more rows before c) effects m ≡ true
  surely before c m known none =
      and_both _ _ (or_left (with_more rows before c m) _ (or_left (before m) _ known)) (ap not (not_true _ (not_lost (with_more rows before c) m none)))

  pub not_broken : (before : ℕ → Bool) (l m : ℕ) → (has_opposite effects l ≡ true → (before m && not (has_opposite effects m)) ≡ true)
      → list_any (breaks_with facts rows before effects l m) effects ≡ true → ⊥
  not_broken before l m firm t =
      let p = passing (breaks_with facts rows before effects l m) effects t in
      let h = and_split (p.one.literal == opposite l) _ p.passes in
      let taken = any_at (λ (e : Effect). opposite e.literal == l) effects p.one p.among (sym (opposite_test p.one.literal l) ∙ h.0) in
      let known = and_split (before m) _ (firm taken) in
      let sure = surely before p.one.condition m known.0 (off _ known.1) in
      apart (not (is_sure facts rows (with_more rows before p.one.condition) effects m)) (and_split _ _ h.1).1 (ap not sure)
    where
      off : (b : Bool) → not b ≡ true → b ≡ false
      off true e = sym e
      off false e = refl

-- so nothing is added, or it is there already
pub nothing_more : (old clause breaks : Bool) → (old ≡ false → clause ≡ true → breaks ≡ true → ⊥) → old ≡ (old || (clause && breaks))
nothing_more true clause breaks h = refl
nothing_more false true true h = absurd (h refl refl refl)
nothing_more false true false h = refl
nothing_more false false breaks h = refl
