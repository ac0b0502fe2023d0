use Rattle.std.proofs.Common.{true≢false, sym, ◌∙◌}
use Rattle.solver_pool.proofs.OneTurn.{fits_back, back, done, SameJob}
use Rattle.solver_pool.proofs.Falling.{falls_back, falls_done}
use Rattle.solver_pool.proofs.serve.serve_one.Goals as goal

pub put_back-requires-clause-fits : goal.put_back-requires-clause-fits
put_back-requires-clause-fits g c =
    let a = c.advance_job.ensures in
    let kept : SameJob g.R.Resume c.in-Some.job c.advance_job.new.job = record { key = a.key; target = a.target; origin = a.origin } in
    let on = a.back.0 c.if-advance_job.true in
    fits_back g.R.Resume c.args.slice _ _ _ _ c.in-Some.ensures.noted kept a.run on.1 on.2

pub returns-then-advance_job-clause-served : goal.returns-then-advance_job-clause-served
returns-then-advance_job-clause-served g c =
    let a = c.advance_job.ensures in
    let by_state = g.met.R.Resume.by_state in
    let kept : SameJob g.R.Resume c.in-Some.job c.advance_job.new.job = record { key = a.key; target = a.target; origin = a.origin } in
    back g.R.Resume by_state c.args.slice _ _ _ _ _ c.in-Some.ensures.noted kept a.run (a.back.0 c.if-advance_job.true) c.put_back.ensures.noted

pub returns-else-advance_job-clause-served : goal.returns-else-advance_job-clause-served
returns-else-advance_job-clause-served g c =
    let a = c.advance_job.ensures in
    let by_state = g.met.R.Resume.by_state in
    let kept : SameJob g.R.Resume c.in-Some.job c.advance_job.new.job = record { key = a.key; target = a.target; origin = a.origin } in
    done g.R.Resume by_state c.args.slice _ _ _ _ c.in-Some.ensures.noted kept a.run (λ on. true≢false (sym (a.back.1 on) ∙ c.if-advance_job.false)) (a.ended c.if-advance_job.false)

pub returns-then-advance_job-clause-falls : goal.returns-then-advance_job-clause-falls
returns-then-advance_job-clause-falls g c =
    let a = c.advance_job.ensures in
    falls_back g.R.Resume c.args.slice _ _ _ _ _ c.in-Some.ensures.noted c.requires.slice.0 a.run (a.back.0 c.if-advance_job.true) a.target a.within c.put_back.ensures.noted

pub returns-else-advance_job-clause-falls : goal.returns-else-advance_job-clause-falls
returns-else-advance_job-clause-falls g c = falls_done g.R.Resume _ _ _ c.in-Some.ensures.noted c.advance_job.ensures.within
