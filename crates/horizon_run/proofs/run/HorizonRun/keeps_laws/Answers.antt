use Rattle.std.proofs.Common.{subst}
use Rattle.goal_choice.specs.Choice.{choice_by}
use Rattle.horizon_run.specs.Run.{RunView, choice_in, IsReached, AddsUp}
use Rattle.horizon_run.proofs.Runs.{adds_up, stays, is_reached}
use Rattle.horizon_run.proofs.run.HorizonRun.keeps_laws.Goals as goal

pub returns-clause-adds_up : goal.returns-clause-adds_up
returns-clause-adds_up c =
    subst (λ (r : RunView). AddsUp (choice_in r) r.formula) c.self.view_is
    (adds_up c.runs_are_sound.ensures.adds_up (choice_by c.self.inside.solver.chooser) c.self.inside.solver.formula c.self.invariant.opens c.self.invariant.start)

pub returns-clause-stays : goal.returns-clause-stays
returns-clause-stays c = stays c.runs_are_sound.ensures.settled (choice_in c.args.self.now) c.args.self.now.formula (returns-clause-adds_up c)

pub returns-clause-reached : goal.returns-clause-reached
returns-clause-reached c =
    let laws = c.runs_are_sound.ensures in
    λ k. subst (λ (r : RunView). AddsUp (choice_in r) r.formula → IsReached (choice_in r) r.formula k) c.self.view_is
    (is_reached laws.sound laws.within laws.grants laws.short_log (choice_by c.self.inside.solver.chooser) c.self.inside.solver.formula k c.self.invariant.opens c.self.invariant.start)
    (returns-clause-adds_up c)
