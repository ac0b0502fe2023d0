use Rattle.std.proofs.Common.{◌∙◌, ap, sym}
use Rattle.std.proofs.lemmas.Bool.{not-true}
use Rattle.gt_core.specs.Literal.{all_hold}
use Rattle.bit_sets.specs.Rows.{row_has}
use Rattle.gt_core.proofs.published.Within.{lawful, literals_within}
use Rattle.successors.proofs.RowState.{literals_wide, wide, goal_holds, goal_fails}
use Rattle.successors.proofs.next.is_goal.Goals as goal

pub all_hold-requires : goal.all_hold-requires
all_hold-requires c =
    let is = c.facts-facts.ensures.lawful in
    rw c.goal.ensures (literals_wide c.args.task.now.facts _ c.args.task.now.goal (wide c.args.task.now is c.args.row.now c.requires) (literals_within c.args.task.now.facts c.args.task.now.goal (lawful c.args.task.now is).goal))

pub returns-then-all_hold-clause-goal : goal.returns-then-all_hold-clause-goal
returns-then-all_hold-clause-goal c = λ hopeful.
    goal_holds c.args.task.now c.facts-facts.ensures.lawful c.args.row.now c.requires (sym c.hopeless.ensures ∙ not-true c.hopeless.result hopeful) (ap (all_hold (row_has c.args.row.now)) (sym c.goal.ensures) ∙ sym c.all_hold.ensures ∙ c.if-all_hold.true)

pub returns-else-all_hold-clause-none : goal.returns-else-all_hold-clause-none
returns-else-all_hold-clause-none c = λ none. goal_fails c.args.task.now c.facts-facts.ensures.lawful c.args.row.now c.requires (ap (all_hold (row_has c.args.row.now)) (sym c.goal.ensures) ∙ sym c.all_hold.ensures ∙ c.if-all_hold.false)
