-- An effect under no `forall` has one change.
use Rattle.std.proofs.Common.{arith, ◌≡◌, ◌∙◌, ℕ, List, [], ◌∷◌, ◌++◌, length, map, refl, ap}
use Rattle.std.proofs.lemmas.List.{append-nil}
use Rattle.pd_model.specs.Fits.{tuples}
use Rattle.pd_model.specs.declared.effects.Effect.{Effect}
use Rattle.pd_model.specs.declared.parts.Parts.{Parts}
use Rattle.grounding_defs.specs.Instance.{change_of, changes_of}

none : (xs : List ℕ) → length xs ≡ 0 → xs ≡ []
none [] h = refl
none (x ∷ xs) h = absurd (omega (arith, h))

pub bare_changes : (p : Parts) (objects : List ℕ) (e : Effect) → length e.over ≡ 0 → changes_of p objects e ≡ change_of e objects ∷ []
bare_changes p objects e bare =
    (λ i. map (λ more. change_of e (objects ++ more)) (tuples p (none e.over bare i))) ∙ ap (λ (os : List ℕ). change_of e os ∷ []) (append-nil objects)
