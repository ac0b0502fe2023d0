use Rattle.std.proofs.Common.{refl, subst}
use Rattle.goal_choice.specs.Choice.{choice_by}
use Rattle.cdcl_defs.specs.Run.{start_of}
use Rattle.cdcl_defs.specs.Sound.{IsSound}
use Rattle.horizon_run.specs.Run.{IsNew}
use Rattle.horizon_run.specs.own.Held.{IsOfLaws}
use Rattle.horizon_run.proofs.Runs.{means_open, adds_up, stays, is_reached}
use Rattle.horizon_run.proofs.unmade.Unmade.keeps_laws.Goals as goal
use Rattle.horizon_run.proofs.unmade.Unmade.keeps_laws.Goals.{After-runs_are_sound}

-- what holds of all runs, of this one
laws : (c : After-runs_are_sound) → IsOfLaws c.args.self.now
laws c =
    let f = c.self.inside.formula in
    let choose = choice_by c.self.inside.chooser in
    let all = c.runs_are_sound.ensures in
    let opens = means_open c.self.inside.chooser f.variables in
    let start : IsSound f (start_of f) = all.start f c.count-clauses.ensures.lawful c.variables-variables.ensures.below in
    let adds = adds_up all.adds_up choose f opens start in
    subst IsOfLaws c.self.view_is (record {
      reached_by = λ k. is_reached all.sound all.within all.grants all.short_log choose f k opens start adds;
      settled = stays all.settled choose f adds;
    })

pub returns-clause-new : goal.returns-clause-new
returns-clause-new c = subst IsNew c.self.view_is refl

pub returns-clause-settled : goal.returns-clause-settled
returns-clause-settled c = (laws (goal.at.returns-clause-settled c).After-runs_are_sound).settled

pub returns-clause-reached : goal.returns-clause-reached
returns-clause-reached c = (laws (goal.at.returns-clause-reached c).After-runs_are_sound).reached_by
