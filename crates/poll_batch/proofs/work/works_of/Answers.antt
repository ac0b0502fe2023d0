use Rattle.std.proofs.Common.{rules, arith, ◌≡◌, ◌≤◌, [], ◌∷◌, ◌++◌, ◌∙◌, Option, Some, IsSomeAnd, append_assoc, sym, ap, subst}
use Rattle.std.specs.List.{AllByRecursion}
use Rattle.std.proofs.lemmas.List.{map-append}
use Rattle.solver_pool.specs.Job.{JobView}
use Rattle.horizon_run.specs.Run.{RunView, moved_to}
use Rattle.poll_run.specs.Polls.{Polling}
use Rattle.race.specs.Runs.{run_at}
use Rattle.poll_batch.specs.declared.work.Work.{Work}
use Rattle.poll_batch.specs.own.Works.{at_targets, IsAtWork}
use Rattle.race.proofs.published.Starts.{all-push}
use Rattle.poll_batch.proofs.Lists.{targets-push}
use Rattle.poll_batch.proofs.work.works_of.Goals as goal

pub loop-job-preserved : goal.loop-job-preserved
loop-job-preserved c =
    let job = c.in-Some.job in
    let rest = c.next.new.self.rest.items in
    let works = c.loop-job.works.items in
    let w : Work = record { poll = c.new-poll.result; before = c.granted-before.result } in
    let whole : c.loop-job.yielded ++ job ∷ rest ≡ c.args.jobs.items = search rules in
    let items : c.push.new.self.items ≡ works ++ w ∷ [] = search rules in
    let given = ap (λ (p : Polling RunView). p.run) c.new-poll.ensures in
    let at : w.poll.run ≡ Some job.run = given ∙ ap (λ (j : JobView RunView). Some j.run) c.job.view_is in
    let target : w.poll.target ≡ job.target = ap (λ (p : Polling RunView). p.target) c.new-poll.ensures ∙ ap (λ (j : JobView RunView). j.target) c.job.view_is in
    let before = c.granted-before.ensures.value in
    let few = c.job.invariant.1 in
    let aim = ap (λ (p : Polling RunView). p.target) c.new-poll.ensures in
    let low = c.job.invariant.0 in
    let work : IsAtWork c.args.slice w = (
      subst (λ (o : Option RunView). IsSomeAnd o (λ r. (w.before ≤ r.granted) × (r.granted ≤ w.poll.target))) (sym given) (omega (arith, before), omega (arith, low, aim)),
      omega (arith, few, aim),
      ap (λ (p : Polling RunView). p.slice) c.new-poll.ensures,
    ) in
    record {
      whole = append_assoc c.loop-job.yielded (job ∷ []) rest ∙ whole;
      left = search rules;
      ends = ap at_targets items ∙ (targets-push works w job.run at ∙ ((λ i. c.loop-job.invariant.ends i ++ moved_to job.run (target i) ∷ []) ∙ sym (map-append run_at c.loop-job.yielded (job ∷ []))));
      work = subst (AllByRecursion (IsAtWork c.args.slice)) (sym items) (all-push (IsAtWork c.args.slice) works w c.loop-job.invariant.work work);
    }
