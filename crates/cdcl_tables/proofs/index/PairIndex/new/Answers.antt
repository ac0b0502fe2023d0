use Rattle.std.proofs.Common.{ℕ, List, subst, ◌∙◌}
use Rattle.cdcl_tables.specs.Pairs.{IsIndex}
use Rattle.cdcl_tables.proofs.Shapes.{same_clauses}
use Rattle.cdcl_tables.proofs.index.PairIndex.new.Goals as goal

pub returns : goal.returns
returns c =
    let same = same_clauses c.shape_of-shape.result c.variables-variables.result c.parts-parts.result.told.now c.step.result.now c.time.result.now c.parts-parts.result.repeated.now c.parts-parts.result.after.now c.args.formula.now.clauses c.shape_of-shape.ensures.numbers c.step.ensures c.time.ensures c.parts-parts.ensures.clauses in
    subst (λ (v : ℕ). IsIndex v c.args.formula.now.clauses c.in_ok-index.index) (c.shape_of-shape.ensures.numbers.variables_is ∙ c.variables-variables.ensures.value)
    (subst (λ (xs : List (List ℕ)). IsIndex c.shape_of-shape.result.variables xs c.in_ok-index.index) same c.in_ok-index.ensures)
