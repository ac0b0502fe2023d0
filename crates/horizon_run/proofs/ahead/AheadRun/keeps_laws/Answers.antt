use Rattle.std.proofs.Common.{subst, ◌∙◌}
use Rattle.goal_choice.specs.Choice.{choice_by}
use Rattle.horizon_run.specs.Run.{IsMoved, IsReached, AddsUp, Stays}
use Rattle.horizon_run.proofs.Grants.{laws-seen, now-spoilt, seen-moved}
use Rattle.horizon_run.proofs.ahead.AheadRun.keeps_laws.Goals as goal

pub returns-clause-moved : goal.returns-clause-moved
returns-clause-moved c e = subst IsMoved c.self.view_is (seen-moved c.self.inside.run c.self.inside.granted (now-spoilt c.self.inside.run _ c.self.inside.granted c.self.view_is ∙ e))

pub returns-clause-reached : goal.returns-clause-reached
returns-clause-reached c k = laws-seen (λ m f. IsReached (choice_by m) f k) c.self.inside.run _ c.self.inside.granted c.self.view_is (c.standing-laws.ensures.reached k)

pub returns-clause-settled : goal.returns-clause-settled
returns-clause-settled c = laws-seen (λ m f. Stays (choice_by m) f) c.self.inside.run _ c.self.inside.granted c.self.view_is c.standing-laws.ensures.settled

pub returns-clause-adds_up : goal.returns-clause-adds_up
returns-clause-adds_up c = laws-seen (λ m f. AddsUp (choice_by m) f) c.self.inside.run _ c.self.inside.granted c.self.view_is c.standing-laws.ensures.adds_up
