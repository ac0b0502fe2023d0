use Rattle.poll_run.proofs.Fewer.{fewer}
use Rattle.poll_run.proofs.poll_run.PollRunBounded.poll_on.Goals as goal

pub returns-clause-fewer : goal.returns-clause-fewer
returns-clause-fewer g c = fewer g.R.Resume c.args.self.now c.poll.new.self c.poll.result c.poll.ensures.target c.poll.ensures.pending
