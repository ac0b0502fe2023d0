use Rattle.std.proofs.Common.{arith, ◌∙◌, List, ℕ, Option, None, set, ap}
use Rattle.rup_check.proofs.PageLaws.{page_set, clauses_set}
use Rattle.rup_check.proofs.page.Page.remove.Goals as goal

pub invariant_of-self : goal.invariant_of-self
invariant_of-self c = page_set c.self.inside.lists c.self.inside.slots.items c.args.number c.self.invariant

pub returns : goal.returns
returns c =
    let i = c.self.inside in
    let few = c.self.invariant.1.0 in
    let most = c.self.invariant.1.1 in
    c.pack.ensures
    ∙ clauses_set i.lists i.slots.items c.args.number (omega (arith, few, most))
    ∙ ap (λ (os : List (Option (List ℕ))). set os c.args.number None) c.self.view_is
