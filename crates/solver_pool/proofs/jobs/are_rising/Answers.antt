use Rattle.std.proofs.Common.{rules, ◌≡◌, ◌<◌, length, ap, arith}
use Rattle.std.proofs.lemmas.Bool.{false≢true}
use Rattle.solver_pool.specs.Job.{JobView, key_in}
use Rattle.solver_pool.proofs.Places.{differ_from_rising, not_rising}
use Rattle.solver_pool.proofs.jobs.are_rising.Goals as goal

pub returns-clause-differ : goal.returns-clause-differ
returns-clause-differ g c _ = differ_from_rising (key_in g.R.Resume) c.args.jobs.now (λ i j d p q. let whole : length c.args.jobs.now ≡ c.loop-job.job-index = search rules in c.loop-job.invariant.rising i j d p (omega (arith, whole, q)))

pub returns-then-key-least-clause-value : goal.returns-then-key-least-clause-value
returns-then-key-least-clause-value g c = (
  λ t. absurd (false≢true t),
  λ up.
      let h = g.R.Resume.key_of in
      let x = c.job-item.result in
      let is : h c.job.inside.run ≡ h x.run = ap (λ (j : JobView g.row.R.Denot). h j.run) c.job.view_is in
      let under : h x.run < c.loop-job.least = omega (arith, is, c.horizon-key.ensures) in
      absurd (not_rising (key_in g.R.Resume) c.args.jobs.now c.loop-job.job-index c.loop-job.least x c.loop-job-test.true c.job-item.is c.loop-job.invariant.none c.loop-job.invariant.last under up),
)
