use Rattle.std.proofs.Common.{rules, true≢false, sym, ◌∙◌, ◌≤◌, subst}
use Rattle.solver_pool.specs.Job.{JobView}
use Rattle.solver_pool.proofs.Handed.{comes}
use Rattle.solver_pool.proofs.serve.advance_job.Goals as goal

pub returns-clause-ended : goal.returns-clause-ended
returns-clause-ended g c off =
    let by_state = g.met.R.Resume.by_state in
    let within = subst (λ (j : JobView g.row.R.Denot). g.R.Resume.granted_of j.run ≤ j.target) c.job.view_is c.job.invariant.0 in
    comes g.R.Resume by_state c.args.slice c.args.job.now _ (search rules) (search rules) within c.goes_on.ensures.stays (λ on. true≢false (sym (c.goes_on.ensures.value.1 on) ∙ off)) (search rules)
