use Rattle.std.proofs.Common.{◌≡◌, ◌/◌, map, take}
use Rattle.goal_choice.specs.own.Search.{AreMarked}
use Rattle.goal_choice.proofs.gather.variables_by_literal.Given as goal

abbrev pub invariant-loop-makers : goal.invariant-loop-makers
invariant-loop-makers l = record {
  lists : l.lists ≡ map (map (λ c. c / 2)) (take l.makers-index l.index);
  marked : AreMarked l.rising.items l.lists;
}
