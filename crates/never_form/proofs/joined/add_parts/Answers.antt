use Rattle.std.proofs.Common.{arith, ◌≡◌, ◌∙◌, ◌+◌, length, ap}
use Rattle.clause_base.specs.Formula.{Cnf}
use Rattle.never_form.proofs.Below.{turned_fit}
use Rattle.never_form.proofs.joined.add_parts.Goals as goal

pub add_cubes-requires-clause-fit : goal.add_cubes-requires-clause-fit
add_cubes-requires-clause-fit c =
    let v : c.add_cube.new.formula.variables ≡ c.args.first + (length c.args.clauses.now + 1) =
    ap (λ (f : Cnf). f.variables) c.in_ok-add_cube.ensures.added ∙ ap (λ (f : Cnf). f.variables) c.in_ok-add_clauses.ensures.added ∙ c.requires.variables in
    let facts = c.requires.numbers.facts in
    turned_fit _ c.args.task.now.facts _ c.args.clauses.now (omega (arith, v, facts, c.facts-facts.ensures.facts)) c.requires.numbers.over
