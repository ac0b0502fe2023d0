use Rattle.std.proofs.Common.{arith, ◌≡◌, ◌∙◌, ℕ, List, Option, Some, None, IfSome, IfNone, slice_index_or, ap, sym, subst}
use Rattle.rup_check.proofs.PagesLaws.{found_by, found_past}
use Rattle.rup_check.proofs.pages.Pages.get.Goals as goal

pub returns-then-place-len-clause-none : goal.returns-then-place-len-clause-none
returns-then-place-len-clause-none c =
    ap (λ (os : List (Option (List ℕ))). slice_index_or os c.args.number None) (sym c.self.view_is)
    ∙ found_past c.self.inside.pages.items c.args.number None (let past = c.if-place-len.true in let own = c.len.ensures in omega (arith, past, own)) c.self.invariant

pub returns-clause-some : goal.returns-clause-some
returns-clause-some c =
    let past = c.if-place-len.false in
    let own = c.len.ensures in
    let same = found_by c.args.self.now c.self.inside.pages.items c.index-page.result.now c.args.number None c.self.view_is (omega (arith, past, own)) c.index-page.ensures c.self.invariant in
    subst (λ (o : Option (List ℕ)). IfSome c.get.result (λ clause. o ≡ Some clause.now)) (sym same) c.get.ensures.some

pub returns-clause-none : goal.returns-clause-none
returns-clause-none c =
    let past = c.if-place-len.false in
    let own = c.len.ensures in
    let same = found_by c.args.self.now c.self.inside.pages.items c.index-page.result.now c.args.number None c.self.view_is (omega (arith, past, own)) c.index-page.ensures c.self.invariant in
    subst (λ (o : Option (List ℕ)). IfNone c.get.result (o ≡ None)) (sym same) c.get.ensures.none
