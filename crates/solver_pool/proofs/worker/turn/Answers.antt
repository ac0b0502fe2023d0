use Rattle.solver_pool.proofs.Handed.{hands_out}
use Rattle.solver_pool.proofs.OneTurn.{SameJob}
use Rattle.solver_pool.proofs.worker.turn.Goals as goal

pub returns-in-Done-clause-work : goal.returns-in-Done-clause-work
returns-in-Done-clause-work g c =
    let said = c.in-Done.ensures.served in
    let a = c.work_ahead.ensures in
    let kept : SameJob g.R.Resume c.in-Done.job c.work_ahead.new.job = record { key = a.key; target = a.target; origin = a.origin } in
    hands_out g.R.Resume c.args.slice _ _ _ _ said.0 said.1 said.2 kept (a.ended said.3) c.put_or_note.ensures
