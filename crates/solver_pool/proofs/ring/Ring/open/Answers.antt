use Rattle.std.proofs.Common.{◌≡◌, ◌∷◌, ◌++◌, rules}
use Rattle.solver_pool.proofs.Opening.{still_alone, still_new, still_sound}
use Rattle.solver_pool.proofs.ring.Ring.open.Goals as goal

pub put_one-requires-clause-alone : goal.put_one-requires-clause-alone
put_one-requires-clause-alone g c =
    let whole : c.loop-job.yielded ++ c.in-Some.job ∷ c.next.new.self.rest.items ≡ c.args.jobs = search rules in
    still_alone g.R.Resume c.args.jobs c.loop-job.yielded c.next.new.self.rest.items c.in-Some.job _ whole c.requires.few c.loop-job.invariant.opened

pub put_one-requires-clause-new : goal.put_one-requires-clause-new
put_one-requires-clause-new g c =
    let whole : c.loop-job.yielded ++ c.in-Some.job ∷ c.next.new.self.rest.items ≡ c.args.jobs = search rules in
    still_new g.R.Resume c.args.jobs c.loop-job.yielded c.next.new.self.rest.items c.in-Some.job _ whole c.requires.differ c.loop-job.invariant.opened

pub put_one-requires-clause-sound : goal.put_one-requires-clause-sound
put_one-requires-clause-sound g c =
    let whole : c.loop-job.yielded ++ c.in-Some.job ∷ c.next.new.self.rest.items ≡ c.args.jobs = search rules in
    still_sound g.R.Resume c.args.jobs c.loop-job.yielded c.next.new.self.rest.items c.in-Some.job whole c.requires.sound

pub put_one-requires-clause-owner : goal.put_one-requires-clause-owner
put_one-requires-clause-owner g c = c.loop-job.invariant.owner

pub returns-clause-owner : goal.returns-clause-owner
returns-clause-owner g c = c.loop-job.invariant.owner
