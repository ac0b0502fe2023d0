use Rattle.std.proofs.Common.{◌≡◌, ◌||◌, ◌++◌, Bool, true, false, true≢false, List, rules, subst, sym, refl}
use Rattle.std.specs.List.{All}
use Rattle.std.proofs.lemmas.List.Elements.{All-append}
use Rattle.solver_pool.specs.Job.{JobView}
use Rattle.solver_pool.specs.own.Worker.{IsHanded}
use Rattle.solver_pool.proofs.Passes.{takes_in}
use Rattle.solver_pool.proofs.workers.take_in_one.Goals as goal

neither : (a b : Bool) → (a || b) ≡ false → (a ≡ false) × (b ≡ false)
neither true b e = absurd (true≢false e)
neither false b e = (refl, e)

pub returns-in-Ok-clause-work : goal.returns-in-Ok-clause-work
returns-in-Ok-clause-work g c out book begun was its =
    let k = c.args.owner.now in
    let w = c.args.worker in
    let items : c.append.new.self.items ≡ k.done.items ++ w.done.items = search rules in
    takes_in g.R.Resume out book begun k w _ c.take_back.ensures.noted (λ e. let n = neither k.failed w.failed e in (n.0, n.1, items))
    (subst (λ (l : List (JobView g.row.R.Denot)). All (IsHanded g.R.Resume book) l) (sym items) (All-append (IsHanded g.R.Resume book) _ _ was.handed its.handed)) was its

pub returns-clause-work : goal.returns-clause-work
returns-clause-work g c out book begun was its =
    let k = c.args.owner.now in
    let items : c.append.new.self.items ≡ k.done.items = search rules in
    takes_in g.R.Resume out book begun k c.args.worker _ c.take_back.ensures.noted (λ e. absurd (true≢false e))
    (subst (λ (l : List (JobView g.row.R.Denot)). All (IsHanded g.R.Resume book) l) (sym items) was.handed) was its
