use Rattle.std.proofs.Common.{◌≡◌, false, sym, subst}
use Rattle.race.specs.Input.{input_of}
use Rattle.poll_batch.specs.declared.phase.Phase.{Phase}
use Rattle.poll_batch.specs.own.Tied.{IsTied, is_given, numbers_at, runs_at}
use Rattle.poll_batch.specs.own.OnePoll.{DoesOne}
use Rattle.poll_batch.proofs.Standing.{standing}
use Rattle.poll_batch.proofs.Falls.{falls_to}
use Rattle.poll_batch.proofs.polled_race.PollRaceFuture.poll.Goals as goal

pub returns-in-Ok-On-clause-stands : goal.returns-in-Ok-On-clause-stands
returns-in-Ok-On-clause-stands g c =
    let form = c.self.inside.form.now in
    let settings = c.self.inside.settings in
    let next = rw c.in-Ok-On.field-0-is at c.in-Ok-On.ensures.next in
    let tied = subst (λ (p : Phase). IsTied settings.slice (input_of g.F.StepForm form settings) p) (sym c.put.ensures) next.0 in
    let live = subst (λ (p : Phase). is_given p ≡ false) (sym c.put.ensures) next.1 in
    rw c.yield_now.ensures.pending (standing g.F.StepForm form settings c.self.inside.task.now c.put.new.place tied live)

pub returns-in-Ok-On-clause-fewer : goal.returns-in-Ok-On-clause-fewer
returns-in-Ok-On-clause-fewer g c =
    let settings = c.self.inside.settings in
    let next = rw c.in-Ok-On.field-0-is at c.in-Ok-On.ensures.next in
    rw c.yield_now.ensures.pending
    (rw (← c.self.view_is)
    (falls_to settings.slice (input_of g.F.StepForm c.self.inside.form.now settings) c.replace-phase.result c.self.inside.phase _ c.put.new.place c.replace-phase.ensures.value c.put.ensures next.0 next.2))

pub returns-in-Ok-On-clause-one : goal.returns-in-Ok-On-clause-one
returns-in-Ok-On-clause-one g c =
    let slice = c.self.inside.settings.slice in
    let next = rw c.in-Ok-On.field-0-is at c.in-Ok-On.ensures.next in
    let was = c.replace-phase.result in
    let after = subst (λ (p : Phase). DoesOne slice (numbers_at was) (numbers_at p) (runs_at was) (runs_at p)) (sym c.put.ensures) next.3 in
    rw c.yield_now.ensures.pending
    (rw (← c.self.view_is)
    (subst (λ (b : Phase). DoesOne slice (numbers_at b) (numbers_at c.put.new.place) (runs_at b) (runs_at c.put.new.place)) c.replace-phase.ensures.value after))
