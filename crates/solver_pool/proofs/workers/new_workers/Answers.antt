use Rattle.crossbeam_queue.specs.Passes.{view}
use Rattle.std.proofs.Common.{◌≡◌, ◌∷◌, ◌++◌, ℕ, ◌+◌, true, false, [], length, refl, rules, subst, sym, List, length-append, arith, ap}
use Rattle.std.specs.List.{All}
use Rattle.std.proofs.lemmas.List.Elements.{All-append}
use Rattle.solver_pool.specs.declared.worker.Worker.{Worker}
use Rattle.solver_pool.specs.own.Worker.{IsAtWork, IsNewWorker}
use Rattle.solver_pool.proofs.Keeps.{all_one}
use Rattle.solver_pool.proofs.Passes.{gives_out, begins_work}
use Rattle.solver_pool.proofs.workers.new_workers.Goals as goal

pub loop-i-preserved : goal.loop-i-preserved
loop-i-preserved g c =
    let k = c.loop-i.owner in
    let w : Worker g.row.R.Denot g.R.Resume = record { pass = c.give_out.result; done = c.new.result; failed = false } in
    let items : c.push.new.self.items ≡ c.loop-i.workers.items ++ w ∷ [] = search rules in
    let one : length c.loop-i.workers.items + 1 ≡ length c.push.new.self.items = omega (arith, ap length items, length-append c.loop-i.workers.items (w ∷ [])) in
    let given = c.give_out.ensures.given in
    record {
      pass = c.give_out.ensures.owner.0;
      owns = c.give_out.ensures.owner.1;
      started = λ book begun was.
          let inv = c.loop-i.invariant.started book begun was in
          let started : IsNewWorker g.R.Resume c.args.ring.now book w = (given.0.0, begins_work g.R.Resume (view k.pass.pass) book w given.1 inv.0.same c.new.ensures.items) in (
            subst (λ (n : ℕ). IsAtWork g.R.Resume true n book begun record { pass = c.give_out.new.owner; done = k.done; failed = k.failed }) one (gives_out g.R.Resume _ book begun k _ c.give_out.ensures.counted refl refl inv.0),
            subst (λ (l : List (Worker g.row.R.Denot g.R.Resume)). All (IsNewWorker g.R.Resume c.args.ring.now book) l) (sym items) (All-append (IsNewWorker g.R.Resume c.args.ring.now book) _ _ inv.1 (all_one (IsNewWorker g.R.Resume c.args.ring.now book) w started)),
          );
      many = search rules;
    }
