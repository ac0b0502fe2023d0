use Rattle.std.proofs.Common.{◌≡◌, ◌-◌, ◌≤◌, length}
use Rattle.std.specs.List.{flat_map}
use Rattle.gt_core.specs.Literal.{range}
use Rattle.step_chains.specs.BothWays.{ways}
use Rattle.step_chains.specs.Chains.{Extends}
use Rattle.step_chains.proofs.chains.Chains.add_members.Given as goal

abbrev pub invariant-loop-m : goal.invariant-loop-m
invariant-loop-m l =
    (l.self.actions ≡ length l.task.actions)
    × Extends l.task (flat_map (ways l.both l.members) (range l.m)) l.initial.self l.self
    × (l.m ≤ l.end)

abbrev pub decreases-loop-m : goal.decreases-loop-m
decreases-loop-m l = l.end - l.m
