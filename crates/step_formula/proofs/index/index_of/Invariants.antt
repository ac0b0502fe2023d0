use Rattle.std.proofs.Common.{◌≡◌, ℕ, ◌*◌, ◌++◌, [], length, take, drop, slice_index_or}
use Rattle.gt_core.specs.Task.{effects_from}
use Rattle.gt_core.specs.Lawful.{conditional_in}
use Rattle.formula_defs.specs.Variables.{rows, rows_from}
use Rattle.step_formula.specs.Rows.{made}
use Rattle.step_formula.proofs.index.index_of.Given as goal

abbrev pub invariant-loop-a : goal.invariant-loop-a
invariant-loop-a l = record {
  first : l.first ≡ conditional_in (take l.a l.task.actions);
  long : length l.index.items ≡ 2 * l.task.facts;
  each : (m : ℕ) → made l.layout m (rows l.task) ≡ slice_index_or l.index.items m [] ++ made l.layout m (rows_from l.first (effects_from l.a (drop l.a l.task.actions)));
}
