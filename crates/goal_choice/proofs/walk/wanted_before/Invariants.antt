use Rattle.std.proofs.Common.{length}
use Rattle.goal_choice.specs.own.Members.{members_from}
use Rattle.goal_choice.specs.Walk.{support_of, supports}
use Rattle.goal_choice.proofs.Steps.{IsGathered}
use Rattle.goal_choice.proofs.walk.wanted_before.Given as goal

abbrev pub invariant-stepping : goal.invariant-stepping
invariant-stepping l =
    let support = support_of l.means l.values l.step in
    IsGathered l.initial.before.facts support (supports support l.wanted.members) l.from (members_from l.from l.wanted.members) l.before

abbrev pub decreases-stepping : goal.decreases-stepping
decreases-stepping l = length (members_from l.from l.wanted.members)
