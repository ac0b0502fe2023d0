use Rattle.std.proofs.Common.{◌≡◌, map, take}
use Rattle.goal_choice.proofs.gather.preconditions_of.Given as goal

abbrev pub invariant-loop-act : goal.invariant-loop-act
invariant-loop-act l = l.lists ≡ map (λ a. a.precondition) (take l.act-index l.acts)
