use Rattle.std.proofs.Common.{rules, IfOk, Result, Ok, Err, subst, sym, slice_index_or}
use Rattle.solver_pool.specs.declared.worker.Worker.{Worker}
use Rattle.solver_pool.specs.own.Worker.{StaysAtWork, IsWorkerOf}
use Rattle.solver_pool.proofs.workers.all_work.Goals as goal

if_ok : {T E : Type 0} (P Q : T → Type 0) → ((t : T) → P t → Q t) → (r : Result T E) → IfOk r P → IfOk r Q
if_ok P Q h (Ok t) p = h t p
if_ok P Q h (Err e) p = p

pub returns-clause-each : goal.returns-clause-each
returns-clause-each g c = if_ok _ _ (λ out gives i d lt.
    let given = (gives i d lt).1 in
    let k = given.call in
    let said : IsWorkerOf g.R.Resume c.args.ring.now (slice_index_or out.items i d) × StaysAtWork g.R.Resume given.job (slice_index_or out.items i d) = search rules in
    (said.0, subst (λ (w : Worker g.row.R.Denot g.R.Resume). StaysAtWork g.R.Resume w (slice_index_or out.items i d)) (sym (given.job_is d)) said.1)) c.map_vec.result c.map_vec.ensures.each
