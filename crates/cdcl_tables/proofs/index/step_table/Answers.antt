use Rattle.std.proofs.Common.{◌+◌, ◌*◌, ◌≤◌, length, arith}
use Rattle.std.specs.Arc.{arc_value}
use Rattle.cdcl_tables.proofs.Exacts.{within_of}
use Rattle.cdcl_tables.proofs.index.step_table.Goals as goal

pub returns-clause-within : goal.returns-clause-within
returns-clause-within c =
    let few : length c.args.step.now ≤ c.args.shape.now.steps = omega arith in
    within_of (2 * (c.args.shape.now.width + 2 * c.args.shape.now.facts)) c.args.shape.now.steps c.args.step.now (arc_value c.in_ok-table.table) few c.requires.below c.in_ok-table.ensures
