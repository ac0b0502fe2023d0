use Rattle.std.proofs.Common.{arith, ◌∙◌, ◌∷◌, [], ◌++◌, ◌<◌, length, ap, List, ℕ, Option, Some}
use Rattle.rup_check.proofs.PageLaws.{long_view, page_more, clauses_more}
use Rattle.rup_check.proofs.page.Page.push.Goals as goal

pub invariant_of-self-in-Ok : goal.invariant_of-self-in-Ok
invariant_of-self-in-Ok c =
    let i = c.self.inside in
    let long = long_view i.lists i.slots.items in
    let same = ap length c.self.view_is in
    let lt : length i.slots.items < 128 = let r = c.requires in omega (arith, long, same, r) in
    page_more i.lists c.push-2.new.self c.args.clause.now i.slots.items c.push.new.self.items _ c.self.invariant lt (let few = c.self.invariant.1.0 in let own = c.len.ensures in omega (arith, few, lt, own)) c.in-Ok.ensures.ok c.in_ok-push.ensures.items

pub returns-in-Ok-clause-ok : goal.returns-in-Ok-clause-ok
returns-in-Ok-clause-ok c =
    let i = c.self.inside in
    let long = long_view i.lists i.slots.items in
    let same = ap length c.self.view_is in
    let lt : length i.slots.items < 128 = let r = c.requires in omega (arith, long, same, r) in
    let few = c.self.invariant.1.0 in
    clauses_more i.lists c.push-2.new.self c.args.clause.now i.slots.items c.push.new.self.items _ (omega (arith, few, lt)) c.self.invariant.0 (let own = c.len.ensures in omega (arith, few, lt, own)) c.in-Ok.ensures.ok c.in_ok-push.ensures.items
    ∙ ap (λ (os : List (Option (List ℕ))). os ++ Some c.args.clause.now ∷ []) c.self.view_is
