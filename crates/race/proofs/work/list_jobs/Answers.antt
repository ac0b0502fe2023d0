use Rattle.std.proofs.Common.{arith, ◌≡◌, ◌+◌, ℕ, [], ◌∷◌, ◌++◌, ◌∙◌, List, length, length-append, append_assoc, slice_index, ap, sym, subst, rules}
use Rattle.solver_pool.specs.Job.{JobView}
use Rattle.horizon_run.specs.Run.{RunView}
use Rattle.race.specs.Runs.{Fits}
use Rattle.race.proofs.Packed.{jobs_at-push, grant_at}
use Rattle.race.proofs.work.list_jobs.Goals as goal

pub bounds-grants-len : goal.bounds-grants-len
bounds-grants-len c =
    let whole : c.loop-run.yielded ++ c.in-Some.run' ∷ c.next.new.self.rest.items ≡ c.args.runs.items = search rules in
    (grant_at _ _ _ _ _ _ whole c.requires (c.len.ensures ∙ c.loop-run.invariant.many)).there

pub overflow_add-target : goal.overflow_add-target
overflow_add-target c =
    let whole : c.loop-run.yielded ++ c.in-Some.run' ∷ c.next.new.self.rest.items ≡ c.args.runs.items = search rules in
    let few = (grant_at _ _ _ _ _ _ whole c.requires (c.len.ensures ∙ c.loop-run.invariant.many)).few in
    omega (arith, few, c.granted.ensures.value)

pub invariant_of-push : goal.invariant_of-push
invariant_of-push c =
    let whole : c.loop-run.yielded ++ c.in-Some.run' ∷ c.next.new.self.rest.items ≡ c.args.runs.items = search rules in
    let few = (grant_at _ _ _ _ _ _ whole c.requires (c.len.ensures ∙ c.loop-run.invariant.many)).few in
    let same = ap (λ (r : RunView). r.granted) c.allowed-run.ensures in
    (omega (arith, same, c.granted.ensures.value), omega (arith, few, c.granted.ensures.value))

pub loop-run-preserved : goal.loop-run-preserved
loop-run-preserved c =
    let r = c.in-Some.run' in
    let gs = c.args.grants.now in
    let rest = c.next.new.self.rest.items in
    let whole : c.loop-run.yielded ++ r ∷ rest ≡ c.args.runs.items = search rules in
    let at : c.len.result ≡ length c.loop-run.yielded = c.len.ensures ∙ c.loop-run.invariant.many in
    let target : c.granted.result + slice_index gs c.len.result ≡ r.granted + slice_index gs (length c.loop-run.yielded) = ap (λ (n : ℕ). n + slice_index gs c.len.result) c.granted.ensures.value ∙ ap (λ (n : ℕ). r.granted + slice_index gs n) at in
    let job : JobView RunView = record { run = c.allowed-run.result; target = c.granted.result + slice_index gs c.len.result } in
    let items : c.push.new.self.items ≡ c.loop-run.jobs.items ++ job ∷ [] = search rules in
    record {
      whole = append_assoc c.loop-run.yielded (r ∷ []) rest ∙ whole;
      many = omega (arith, ap length items, length-append c.loop-run.jobs.items (job ∷ []), c.loop-run.invariant.many, length-append c.loop-run.yielded (r ∷ []));
      jobs = items ∙ (λ i. c.loop-run.invariant.jobs i ++ record { run = c.allowed-run.ensures i; target = target i } ∷ []) ∙ jobs_at-push c.loop-run.yielded r rest gs (subst (λ (rs : List RunView). Fits rs gs) (sym whole) c.requires);
    }
