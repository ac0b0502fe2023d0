use Rattle.std.proofs.Common.{◌≡◌, length}
use Rattle.goal_choice.proofs.literals.Literals.clear.Given as goal

abbrev pub invariant-clearing : goal.invariant-clearing
invariant-clearing l = l.self.facts ≡ l.initial.self.facts

abbrev pub decreases-clearing : goal.decreases-clearing
decreases-clearing l = length l.self.members
