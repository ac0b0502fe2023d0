use Rattle.std.proofs.Common.{◌≡◌, ◌/◌, map, take}
use Rattle.goal_choice.proofs.gather.variables_of.Given as goal

abbrev pub invariant-loop-lit : goal.invariant-loop-lit
invariant-loop-lit l = l.variables.items ≡ map (λ c. c / 2) (take l.lit-index l.lits)
