-- The backjump level, literal by literal.
use Rattle.std.proofs.Common.{◌≡◌, ◌∙◌, ◌==◌, refl, sym, ap, ℕ, max, List, ◌∷◌, map, fold, filter, Bool, true, false, not, if◌then◌else◌}
use Rattle.cdcl_defs.specs.declared.trail.Assigned.{Assigned}
use Rattle.cdcl_defs.specs.State.{decision_count}
use Rattle.cdcl_defs.specs.Learn.{level_of}

-- the greatest of a number and of the levels of literals that are not the current one
abbrev pub greatest_from : List Assigned → ℕ → List ℕ → ℕ
greatest_from trail greatest lits = fold max greatest (map (level_of trail) (filter (λ l. not (level_of trail l == decision_count trail)) lits))

greatest_step : (trail : List Assigned) (greatest l : ℕ) (lits : List ℕ) (b : Bool) → (level_of trail l == decision_count trail) ≡ b
    → greatest_from trail greatest (l ∷ lits) ≡ greatest_from trail (if b then greatest else max greatest (level_of trail l)) lits
greatest_step trail greatest l lits true e = rw e
greatest_step trail greatest l lits false e = rw e

-- with one literal more, where the greatest is told by an equation
pub greatest_next : (trail : List Assigned) (greatest next l : ℕ) (lits : List ℕ) → next ≡ (if level_of trail l == decision_count trail then greatest else max greatest (level_of trail l))
    → greatest_from trail greatest (l ∷ lits) ≡ greatest_from trail next lits
greatest_next trail greatest next l lits e = greatest_step trail greatest l lits (level_of trail l == decision_count trail) refl ∙ ap (λ (g : ℕ). greatest_from trail g lits) (sym e)
