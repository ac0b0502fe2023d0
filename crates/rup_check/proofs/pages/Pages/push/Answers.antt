use Rattle.std.proofs.Common.{◌∙◌, ◌∷◌, [], ◌++◌, List, ℕ, Option, Some, Ok, ap}
use Rattle.rup_check.specs.own.Pages.{joined}
use Rattle.rup_check.proofs.PagesLaws.{page_more_by, false_ok}
use Rattle.rup_check.proofs.pages.Pages.push.Goals as goal

pub invariant_of-self-2 : goal.invariant_of-self-2
invariant_of-self-2 c =
    (page_more_by c.push_last.new.pages.items c.push-2.new.self.items c.push.new.self (Some c.args.clause.now) (c.in_ok-push_last.ensures.whole (ap Ok c.if-branch.false))
    (c.in_ok-push.ensures.ok ∙ ap (λ (os : List (Option (List ℕ))). os ++ Some c.args.clause.now ∷ []) c.in_ok-page.ensures) c.in_ok-push-2.ensures.items).0

pub returns-clause-ok : goal.returns-clause-ok
returns-clause-ok c =
    (page_more_by c.push_last.new.pages.items c.push-2.new.self.items c.push.new.self (Some c.args.clause.now) (c.in_ok-push_last.ensures.whole (ap Ok c.if-branch.false))
    (c.in_ok-push.ensures.ok ∙ ap (λ (os : List (Option (List ℕ))). os ++ Some c.args.clause.now ∷ []) c.in_ok-page.ensures) c.in_ok-push-2.ensures.items).1
    ∙ ap (λ (ps : List (List (Option (List ℕ)))). joined ps ++ Some c.args.clause.now ∷ []) (c.in_ok-push_last.ensures.same (false_ok c.in_ok-push_last.field-0 c.if-branch.false))
    ∙ ap (λ (os : List (Option (List ℕ))). os ++ Some c.args.clause.now ∷ []) c.self.view_is
