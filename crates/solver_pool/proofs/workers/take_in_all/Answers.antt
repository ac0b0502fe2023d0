use Rattle.std.proofs.Common.{◌≡◌, ◌∷◌, ◌++◌, ℕ, ◌+◌, true, false, [], length, rules, subst, List, length-append, arith, ap}
use Rattle.std.specs.List.{All}
use Rattle.solver_pool.specs.declared.worker.Worker.{Worker}
use Rattle.solver_pool.specs.own.Worker.{IsAtWork, IsWorkerOf, HasWorkerPass}
use Rattle.solver_pool.proofs.Passes.{all_init, all_last}
use Rattle.solver_pool.proofs.workers.take_in_all.Goals as goal

pub take_in_one-requires-clause-worker : goal.take_in_one-requires-clause-worker
take_in_one-requires-clause-worker g c =
    let w = c.in-Some.worker in
    let items : c.loop-worker.workers.items ≡ c.pop.new.self.items ++ w ∷ [] = search rules in
    all_last (HasWorkerPass g.R.Resume) c.pop.new.self.items w (subst (λ (l : List (Worker g.row.R.Denot g.R.Resume)). All (HasWorkerPass g.R.Resume) l) items c.loop-worker.invariant.workers)

pub take_in_one-requires-clause-passes : goal.take_in_one-requires-clause-passes
take_in_one-requires-clause-passes g c =
    let w = c.in-Some.worker in
    let items : c.loop-worker.workers.items ≡ c.pop.new.self.items ++ w ∷ [] = search rules in
    (c.loop-worker.invariant.pass, all_last (IsWorkerOf g.R.Resume c.args.ring.now) c.pop.new.self.items w (subst (λ (l : List (Worker g.row.R.Denot g.R.Resume)). All (IsWorkerOf g.R.Resume c.args.ring.now) l) items c.loop-worker.invariant.theirs))

pub take_in_one-requires-clause-owns : goal.take_in_one-requires-clause-owns
take_in_one-requires-clause-owns g c = c.loop-worker.invariant.owns

pub returns-clause-pass : goal.returns-clause-pass
returns-clause-pass g c = c.loop-worker.invariant.pass

pub loop-worker-preserved : goal.loop-worker-preserved
loop-worker-preserved g c =
    let w = c.in-Some.worker in
    let items : c.loop-worker.workers.items ≡ c.pop.new.self.items ++ w ∷ [] = search rules in
    let one : length c.loop-worker.workers.items ≡ length c.pop.new.self.items + 1 = omega (arith, ap length items, length-append c.pop.new.self.items (w ∷ [])) in
    record {
      pass = c.take_in_one.ensures.pass;
      owns = c.take_in_one.ensures.owns;
      theirs = all_init (IsWorkerOf g.R.Resume c.args.ring.now) c.pop.new.self.items w (subst (λ (l : List (Worker g.row.R.Denot g.R.Resume)). All (IsWorkerOf g.R.Resume c.args.ring.now) l) items c.loop-worker.invariant.theirs);
      workers = all_init (HasWorkerPass g.R.Resume) c.pop.new.self.items w (subst (λ (l : List (Worker g.row.R.Denot g.R.Resume)). All (HasWorkerPass g.R.Resume) l) items c.loop-worker.invariant.workers);
      work = λ book begun was theirs.
          let inv = c.loop-worker.invariant.work book begun was theirs in
          let all = subst (λ (l : List (Worker g.row.R.Denot g.R.Resume)). All (IsAtWork g.R.Resume false 0 book []) l) items inv.1 in (
            c.take_in_one.ensures.work _ book begun (subst (λ (n : ℕ). IsAtWork g.R.Resume true n book begun c.loop-worker.owner) one inv.0) (all_last (IsAtWork g.R.Resume false 0 book []) c.pop.new.self.items w all),
            all_init (IsAtWork g.R.Resume false 0 book []) c.pop.new.self.items w all,
          );
    }

pub returns-clause-work : goal.returns-clause-work
returns-clause-work g c book begun was theirs =
    let inv = c.loop-worker.invariant.work book begun was theirs in
    let none : length c.loop-worker.workers.items ≡ 0 = search rules in
    subst (λ (n : ℕ). IsAtWork g.R.Resume true n book begun c.loop-worker.owner) none inv.0
