use Rattle.std.proofs.Common.{arith, ◌∙◌, ◌∷◌, [], ◌++◌, length, ap, List, ℕ, Option, None}
use Rattle.rup_check.specs.own.Page.{clauses_at}
use Rattle.rup_check.proofs.PageLaws.{long_view, page_gone, clauses_gone}
use Rattle.rup_check.proofs.page.Page.push_gone.Goals as goal

pub invariant_of-self-2 : goal.invariant_of-self-2
invariant_of-self-2 c =
    let i = c.self.inside in
    let long = long_view i.lists i.slots.items in
    let same = ap length c.self.view_is in
    page_gone i.lists i.slots.items c.push.new.self.items c.self.invariant (let r = c.requires in omega (arith, long, same, r)) c.in_ok-push.ensures.items

pub returns-clause-ok : goal.returns-clause-ok
returns-clause-ok c =
    let i = c.self.inside in
    let few = c.self.invariant.1.0 in
    let most = c.self.invariant.1.1 in
    ap (clauses_at i.lists) c.in_ok-push.ensures.items
    ∙ clauses_gone i.lists i.slots.items (omega (arith, few, most))
    ∙ ap (λ (os : List (Option (List ℕ))). os ++ None ∷ []) c.self.view_is
