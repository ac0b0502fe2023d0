use Rattle.std.proofs.Common.{rules, ◌≡◌, length, false, arith, refl}
use Rattle.solver_pool.specs.declared.worker.Worker.{Worker}
use Rattle.solver_pool.specs.own.Rounds.{IsBeginning, AreServed}
use Rattle.solver_pool.proofs.Rounded.{rounded, alone_again, started_of, owner_of, workers_of}
use Rattle.solver_pool.proofs.Rising.{given_back, in_order}
use Rattle.solver_pool.proofs.rounds.round.Goals as goal

pub all_work-requires-clause-each : goal.all_work-requires-clause-each
all_work-requires-clause-each g c κs within =
    let o : Worker g.row.R.Denot g.R.Resume = record { pass = c.in_ok-ring.field-0.owner; done = c.new.result; failed = false } in
    let begins : IsBeginning g.R.Resume c.args.jobs o = (c.in_ok-ring.ensures.opened, c.new.ensures.items, refl) in
    started_of g.R.Resume c.in_ok-ring.field-0.ring c.args.jobs o _ _ begins c.in_ok-started.ensures.started

pub take_in_all-requires-clause-owns : goal.take_in_all-requires-clause-owns
take_in_all-requires-clause-owns g c =
    let o : Worker g.row.R.Denot g.R.Resume = record { pass = c.in_ok-ring.field-0.owner; done = c.new.result; failed = false } in
    let begins : IsBeginning g.R.Resume c.args.jobs o = (c.in_ok-ring.ensures.opened, c.new.ensures.items, refl) in
    owner_of g.R.Resume c.in_ok-ring.field-0.ring c.args.jobs o _ _ begins c.in_ok-started.ensures.started

pub take_in_all-requires-clause-theirs : goal.take_in_all-requires-clause-theirs
take_in_all-requires-clause-theirs g c k d lt =
    let same : length c.in-Ok.back.items ≡ length c.in_ok-started.started.items = search rules in
    (c.in-Ok.ensures.each k d (omega (arith, same, lt))).0

pub take_in_all-requires-clause-workers : goal.take_in_all-requires-clause-workers
take_in_all-requires-clause-workers g c =
    let same : length c.in-Ok.back.items ≡ length c.in_ok-started.started.items = search rules in
    let o : Worker g.row.R.Denot g.R.Resume = record { pass = c.in_ok-ring.field-0.owner; done = c.new.result; failed = false } in
    let begins : IsBeginning g.R.Resume c.args.jobs o = (c.in_ok-ring.ensures.opened, c.new.ensures.items, refl) in
    workers_of g.R.Resume c.in_ok-ring.field-0.ring c.args.jobs o _ _ _ begins c.in_ok-started.ensures.started same c.in-Ok.ensures.each

pub finish-owner-requires-clause-alone : goal.finish-owner-requires-clause-alone
finish-owner-requires-clause-alone g c κs within =
    let same : length c.in-Ok.back.items ≡ length c.in_ok-started.started.items = search rules in
    let o : Worker g.row.R.Denot g.R.Resume = record { pass = c.in_ok-ring.field-0.owner; done = c.new.result; failed = false } in
    let begins : IsBeginning g.R.Resume c.args.jobs o = (c.in_ok-ring.ensures.opened, c.new.ensures.items, refl) in
    alone_again g.R.Resume c.in_ok-ring.field-0.ring c.args.jobs o _ _ _ _ begins c.in_ok-started.ensures.started same c.in-Ok.ensures.each c.take_in_all.ensures.work

pub returns : goal.returns
returns g c =
    let same : length c.in-Ok.back.items ≡ length c.in_ok-started.started.items = search rules in
    let o : Worker g.row.R.Denot g.R.Resume = record { pass = c.in_ok-ring.field-0.owner; done = c.new.result; failed = false } in
    let begins : IsBeginning g.R.Resume c.args.jobs o = (c.in_ok-ring.ensures.opened, c.new.ensures.items, refl) in
    let served : AreServed g.R.Resume c.args.jobs c.finish-owner.result.done.items = rounded g.R.Resume c.in_ok-ring.field-0.ring c.args.jobs o c.new_workers.new.owner c.take_in_all.new.owner c.finish-owner.result c.in_ok-started.started.items c.in-Ok.back.items
    begins c.in_ok-started.ensures.started same c.in-Ok.ensures.each c.take_in_all.ensures.work c.finish-owner.ensures.work c.finish-owner.ensures.empty c.if-owner.false in
    let round = given_back g.R.Resume c.args.jobs c.finish-owner.result.done.items c.give_back.result c.requires.differ served c.give_back.ensures.same c.give_back.ensures.rising c.give_back.ensures.sound in
    record { round = round; in_order = in_order g.R.Resume c.args.jobs c.give_back.result round }
