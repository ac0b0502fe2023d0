use Rattle.std.proofs.Common.{arith, ◌∙◌, [], length, ap}
use Rattle.formula_defs.specs.Coded.{formula_of}
use Rattle.step_laws.specs.Form.{places_of}
use Rattle.never_form.proofs.Forms.{stops_so, size_of_task, formula_of_task}
use Rattle.never_form.proofs.Numbers.{goal_few}
use Rattle.never_form.proofs.Refuted.{no_run_of}
use Rattle.never_form.proofs.Same.{never_same}
use Rattle.never_form.proofs.formed.formula_in.Goals as goal

pub returns-then-size-gt-MOST_LITERALS-clause-stops : goal.returns-then-size-gt-MOST_LITERALS-clause-stops
returns-then-size-gt-MOST_LITERALS-clause-stops c =
    let size = size_of_task c.args.task.now c.args.form.now c.size-size.result c.requires.task c.size-size.ensures.size in
    stops_so (formula_of c.args.task.now c.args.form.now.known.clauses (places_of c.args.form.now) 1) c.args.task.now c.args.clauses.now c.too_large.result c.size-size.result c.too_large.ensures c.if-size-gt-MOST_LITERALS.true (omega (arith, size))

pub counted-count-requires : goal.counted-count-requires
counted-count-requires c =
    let few = goal_few c.args.task.now c.args.form.now c.requires.task c.size-size.ensures.lawful in
    let size = size_of_task c.args.task.now c.args.form.now c.size-size.result c.requires.task c.size-size.ensures.size in
    let goal = ap length c.goal.ensures in
    omega (arith, few, size, goal, c.if-size-gt-MOST_LITERALS.false)

pub returns-then-count-gt-MOST_LITERALS-clause-stops : goal.returns-then-count-gt-MOST_LITERALS-clause-stops
returns-then-count-gt-MOST_LITERALS-clause-stops c =
    let size = size_of_task c.args.task.now c.args.form.now c.size-size.result c.requires.task c.size-size.ensures.size in
    let goal = ap length c.goal.ensures in
    stops_so (formula_of c.args.task.now c.args.form.now.known.clauses (places_of c.args.form.now) 1) c.args.task.now c.args.clauses.now c.too_large-then-count-gt-MOST_LITERALS.result c.counted-count.result
    c.too_large-then-count-gt-MOST_LITERALS.ensures c.if-count-gt-MOST_LITERALS.true (omega (arith, size, goal, c.counted-count.ensures.fewer))

pub returns-in_ok-formula-in-Ok-clause-formula : goal.returns-in_ok-formula-in-Ok-clause-formula
returns-in_ok-formula-in-Ok-clause-formula c =
    c.in_ok-formula-in-Ok.ensures
    ∙ never_same c.args.task.now c.args.form.now.known.clauses (places_of c.args.form.now) c.args.clauses.now c.in-Ok.one (formula_of_task c.args.task.now c.args.form.now c.in-Ok.one c.requires.task c.in-Ok.ensures.formula)

pub returns-in_ok-formula-in-Ok-clause-refutes : goal.returns-in_ok-formula-in-Ok-clause-refutes
returns-in_ok-formula-in-Ok-clause-refutes c =
    no_run_of c.args.task.now c.args.form.now c.args.clauses.now c.in_ok-formula-in-Ok.formula c.requires.task c.size-size.ensures.lawful c.requires.over.over (returns-in_ok-formula-in-Ok-clause-formula c)
    c.laws.ensures.never_is_no_plan (λ form is goal. let plan = c.laws.ensures.sequence_is_plan form 1 [] (omega arith) tt goal in c.laws.ensures.plan_is_satisfying form is 1 plan.0 plan.1)
