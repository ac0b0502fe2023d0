use Rattle.std.proofs.Common.{arith, ◌≡◌, ℕ, ◌∙◌, ap, length}
use Rattle.gt_core.specs.Lawful.{conditional_in}
use Rattle.formula_defs.specs.Variables.{chain_variables_in}
use Rattle.step_chains.proofs.published.ExtendLaw.{variables_few}
use Rattle.step_formula.proofs.StepLaw.{step_joined}
use Rattle.step_formula.proofs.template.one_step.Goals as goal

pub one_layout-layout-requires : goal.one_layout-layout-requires
one_layout-layout-requires c = variables_few c.args.chains.now c.variables.result c.variables.ensures.count c.variables.ensures.lawful

pub returns : goal.returns
returns c places are =
    let task = c.args.task.now in
    let count : c.variables.result ≡ chain_variables_in task places = let a = c.variables.ensures.count in let b = are.variables in omega (arith, a, b) in
    step_joined c.one_layout-layout.result task places c.new-clauses.result c.add_preconditions.new.clauses c.add_effects.new.clauses c.add_frames.new.clauses c.add_clauses.new.clauses
    (c.one_layout-layout.ensures ∙ ap (λ (k : ℕ). record { horizon = 1; actions = length task.actions; conditional = conditional_in task.actions; chains = k; facts = task.facts }) count)
    c.new-clauses.ensures c.in_ok-add_preconditions.ensures c.in_ok-add_effects.ensures c.in_ok-add_frames.ensures (c.in_ok-add_clauses.ensures.of_task task places are)
