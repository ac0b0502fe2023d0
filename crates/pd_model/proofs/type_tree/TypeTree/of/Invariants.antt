use Rattle.std.proofs.Common.{◌+◌}
use Rattle.pd_model.specs.Types.{parents_of}
use Rattle.pd_model.specs.own.Walk.{IsWalk, to_do}
use Rattle.pd_model.proofs.type_tree.TypeTree.of.Given as goal

abbrev pub invariant-loop : goal.invariant-loop
invariant-loop l = IsWalk (parents_of l.types) l.walk.entries.items l.walk.exits.items l.walk.last.items l.walk.before.items l.walk.next l.walk.at

abbrev pub decreases-loop : goal.decreases-loop
decreases-loop l = to_do l.walk.entries.items + to_do l.walk.exits.items
