use Rattle.crossbeam_queue.specs.Passes.{view}
use Rattle.solver_pool.specs.own.Steps.{Settles}
use Rattle.solver_pool.proofs.Keeps.{takes, settles, found, took_all}
use Rattle.solver_pool.proofs.ring.Ring.take.Goals as goal

pub pop_as-requires-clause-rule : goal.pop_as-requires-clause-rule
pop_as-requires-clause-rule g c = (takes g.R.Resume _ _ c.args.pass.now.live, settles g.R.Resume _ _)

pub returns-clause-noted : goal.returns-clause-noted
returns-clause-noted g c = found c.pop_as.result _ (λ items. Settles g.R.Resume (view c.args.pass.now.pass) items) _ _ (took_all g.R.Resume (view c.args.pass.now.pass)) c.pop_as.ensures.rule
