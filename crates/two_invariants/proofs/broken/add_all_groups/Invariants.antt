use Rattle.std.proofs.Common.{◌≡◌, ◌||◌, ◌&&◌, ℕ, drop, length}
use Rattle.bit_sets.specs.Rows.{row_has}
use Rattle.gt_core.specs.Literal.{opposite}
use Rattle.implied_literals.specs.Rows.{clause_in}
use Rattle.two_invariants.specs.own.Groups.{group_with, breaks_under}
use Rattle.two_invariants.proofs.broken.add_all_groups.Given as goal

abbrev pub invariant-loop-group : goal.invariant-loop-group
invariant-loop-group l = record {
  long : length l.lost.items ≡ length l.initial.lost.items;
  lost : (a m : ℕ) → (clause_in l.lost.items a m || (clause_in l.clauses a m && group_with (drop l.group-index l.before.groups.now) (opposite a) (breaks_under l.before.facts l.before.rows.now (group_with l.before.groups.now) (row_has l.before.set.now) a m)))
      ≡ (clause_in l.initial.lost.items a m || (clause_in l.clauses a m && group_with l.before.groups.now (opposite a) (breaks_under l.before.facts l.before.rows.now (group_with l.before.groups.now) (row_has l.before.set.now) a m)));
}
