use Rattle.std.proofs.Common.{◌≡◌, ℕ, ◌+◌, ◌≤◌, ◌++◌, [], length, drop, count_by, slice_index_or}
use Rattle.gt_core.specs.Lawful.{is_conditional}
use Rattle.step_formula.specs.Rows.{rows_of, made}
use Rattle.step_formula.proofs.index.index_effects_of.Given as goal

abbrev pub invariant-loop-effect : goal.invariant-loop-effect
invariant-loop-effect l = record {
  fits : l.number + count_by is_conditional (drop l.effect-index l.effects) ≤ l.layout.conditional;
  long : length l.index.items ≡ length l.initial.index.items;
  each : (m : ℕ) → slice_index_or l.initial.index.items m [] ++ made l.layout m (rows_of l.action l.first l.effects) ≡ slice_index_or l.index.items m [] ++ made l.layout m (rows_of l.action l.number (drop l.effect-index l.effects));
}
