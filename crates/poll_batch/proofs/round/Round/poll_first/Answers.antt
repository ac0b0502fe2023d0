use Rattle.std.proofs.Common.{◌≡◌, List, [], ◌∷◌, ◌∙◌, length, drop, refl, sym, ap, subst}
use Rattle.std.proofs.lemmas.List.{length-append}
use Rattle.horizon_run.specs.Run.{moved_to}
use Rattle.race.specs.Input.{input_of}
use Rattle.poll_batch.specs.declared.work.Work.{Work}
use Rattle.poll_batch.specs.own.Tied.{numbers_of}
use Rattle.poll_batch.specs.own.Works.{AreAtWork}
use Rattle.poll_batch.proofs.Lists.{first-of, set-first}
use Rattle.poll_batch.proofs.Polled.{done-first}
use Rattle.poll_batch.proofs.OnePolled.{goes-on, is-done}
use Rattle.poll_batch.proofs.round.Round.poll_first.Goals as goal

pub returns-in_ok-push-in-Ready-clause-within : goal.returns-in_ok-push-in-Ready-clause-within
returns-in_ok-push-in-Ready-clause-within g c =
    let round = c.args.self.now in
    let works = round.works.items in
    let w = c.index_mut.result.now in
    let whole = first-of works w c.requires.some c.index_mut.ensures.value in
    let took = c.take_first-target.ensures (record w { poll = c.poll.new.self }) (drop 1 works) (set-first works (record w { poll = c.poll.new.self }) c.requires.some) in
    let split : works ≡ w ∷ c.take_first-target.new.works.items = whole ∙ ap (λ (ws : List Work). w ∷ ws) (sym {A = List Work} took.0) in
    record {
      run = done-first (input_of g.F.StepForm c.args.form.now c.args.settings.now) round.begun round.done.items c.push.new.self.items works c.take_first-target.new.works.items w c.in-Ready.run' c.in_ok-run-in-Ready.run'
          split c.in-Ready.ensures.advances (c.in_ok-run-in-Ready.ensures.at_target ∙ ap (moved_to c.in-Ready.run') (took.1 ∙ c.in-Ready.ensures.target)) c.in_ok-push-in-Ready.ensures.items c.requires.within.run;
      work = (subst (AreAtWork c.args.settings.now.slice) split c.requires.within.work).1;
    }

pub returns-in-Pending-clause-one : goal.returns-in-Pending-clause-one
returns-in-Pending-clause-one g c =
    let works = c.args.self.now.works.items in
    let w = c.index_mut.result.now in
    let q = c.poll.new.self in
    let whole = first-of works w c.requires.some c.index_mut.ensures.value in
    let at_work = (subst (AreAtWork c.args.settings.now.slice) whole c.requires.within.work).0 in
    goes-on c.args.settings.now.slice w q works _ (drop 1 works) whole (set-first works (record w { poll = q }) c.requires.some) at_work c.poll.ensures.target c.poll.ensures.slice c.in-Pending.ensures.advances c.in-Pending.ensures.pending (numbers_of c.args.self.now) (numbers_of c.args.self.now) refl refl refl refl

pub returns-in_ok-push-in-Ready-clause-one : goal.returns-in_ok-push-in-Ready-clause-one
returns-in_ok-push-in-Ready-clause-one g c =
    let works = c.args.self.now.works.items in
    let w = c.index_mut.result.now in
    let q = c.poll.new.self in
    let whole = first-of works w c.requires.some c.index_mut.ensures.value in
    let took = c.take_first-target.ensures (record w { poll = q }) (drop 1 works) (set-first works (record w { poll = q }) c.requires.some) in
    let at_work = (subst (AreAtWork c.args.settings.now.slice) whole c.requires.within.work).0 in
    let more = ap length c.in_ok-push-in-Ready.ensures.items ∙ length-append c.args.self.now.done.items (c.in_ok-run-in-Ready.run' ∷ []) in
    is-done c.args.settings.now.slice w c.in-Ready.run' works c.take_first-target.new.works.items (drop 1 works) whole took.0 at_work c.in-Ready.ensures.advances c.in_ok-run-in-Ready.ensures.sound (numbers_of c.args.self.now) (record { ended = c.args.self.now.begun.rounds; begun = 1; done = length c.push.new.self.items; granted = 0 }) refl refl refl more
