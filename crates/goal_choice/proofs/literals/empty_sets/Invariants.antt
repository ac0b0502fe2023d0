use Rattle.std.proofs.Common.{◌≡◌, ◌-◌, ◌≤◌, replicate, vec_len}
use Rattle.goal_choice.specs.own.Members.{no_literals}
use Rattle.goal_choice.proofs.literals.empty_sets.Given as goal

abbrev pub invariant-filling : goal.invariant-filling
invariant-filling l = (l.sets.items ≡ replicate (vec_len l.sets) (no_literals l.facts)) × (vec_len l.sets ≤ l.count)

abbrev pub decreases-filling : goal.decreases-filling
decreases-filling l = l.count - vec_len l.sets
