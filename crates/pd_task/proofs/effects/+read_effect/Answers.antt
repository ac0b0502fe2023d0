use Rattle.std.proofs.Common.{◌≡◌, ◌-◌, length, take, ap, sym, ◌∙◌, rules}
use Rattle.pd_sexp.specs.View.{view, views}
use Rattle.pd_task.proofs.Sizes.{item_smaller, body_smaller}
use Rattle.pd_task.proofs.Ands.{effects_listed, item_read, and_fails, and_ends}
use Rattle.pd_model.specs.Sameness.{Under}
use Rattle.pd_model.proofs.published.Marks.{same_under}
use Rattle.pd_words.specs.Standing.{Standing}
use Rattle.pd_task.proofs.Foralls.{forall_fails, forall_ends, leaves, on_ok}
use Rattle.pd_task.proofs.effects.+read_effect.Goals as goal

pub read_effect-requires : goal.read_effect-requires
read_effect-requires t c =
    let smaller = item_smaller _ _ _ _ _ _ (rw c.in-Some.is at c.in_ok-list.ensures.list).0 c.loop-item-test.true c.item-item.is in
    let over : c.loop-item.into.under.over ≡ c.loop-item.scope.over = ap (λ (u : Under). u.over) c.loop-item.invariant.1 ∙ c.requires ∙ ap (λ (s : Standing). s.over) (sym c.loop-item.invariant.0) in
    search rules

pub returns-in_err-read_effect-in-And-clause-effects : goal.returns-in_err-read_effect-in-And-clause-effects
returns-in_err-read_effect-in-And-clause-effects t c =
    let here = rw (c.loop-item.invariant.0, c.loop-item.invariant.1) at c.in_err-read_effect-in-And.ensures.effects in
    and_fails (effects_listed _ _) _ _ _ _ _ _ _ _ _ _ _ (rw c.in-Some.is at c.in_ok-list.ensures.list).0 (sym c.head_keyword.ensures ∙ c.in-And.is)
    c.loop-item-test.true c.item-item.is c.loop-item.invariant.2 here c.from_residual-in_err-read_effect-in-And.ensures.1

pub loop-item-preserved : goal.loop-item-preserved
loop-item-preserved t c =
    let here = rw (c.loop-item.invariant.0, c.loop-item.invariant.1) at c.in_ok-read_effect-in-And.ensures.effects in
    (c.in_ok-read_effect-in-And.ensures.scope ∙ c.loop-item.invariant.0, c.in_ok-read_effect-in-And.ensures.under ∙ c.loop-item.invariant.1, item_read (effects_listed _ _).items _ _ _ _ _ _ c.loop-item-test.true c.item-item.is c.loop-item.invariant.2 here)

pub returns-after-loop-item-clause-effects : goal.returns-after-loop-item-clause-effects
returns-after-loop-item-clause-effects t c =
    and_ends (effects_listed _ _) _ _ _ _ _ _ _ (rw c.in-Some.is at c.in_ok-list.ensures.list).0 (sym c.head_keyword.ensures ∙ c.in-And.is) c.loop-item-test.false c.loop-item.invariant.2

pub read_effect-requires-in-Forall : goal.read_effect-requires-in-Forall
read_effect-requires-in-Forall t c =
    let smaller = body_smaller c.args.vocabulary.now.types.now c.args.scope.now _ _ _ _ _ _ _ (rw c.in-Some.is at c.in_ok-list.ensures.list).0 c.in_ok-body-in-Forall.ensures in
    search rules

pub returns-in_err-read_effect-in-Forall-clause-effects : goal.returns-in_err-read_effect-in-Forall-clause-effects
returns-in_err-read_effect-in-Forall-clause-effects t c =
    let here = rw (c.set_over-outside.ensures.effects, c.set_over-outside.ensures.cond) at c.in_err-read_effect-in-Forall.ensures.effects in
    forall_fails c.args.vocabulary.now.types.now c.args.vocabulary.now c.args.scope.now c.enter_forall.new.scope c.args.into.now.under.cond _ _ _ _ _ (view c.in_ok-body-in-Forall.body.now) (views c.in_ok-body-in-Forall.more.now) (rw c.in-Some.is at c.in_ok-list.ensures.list).0 (sym c.head_keyword.ensures ∙ c.in-Forall.is) c.in_ok-body-in-Forall.ensures
    _ _ _ here c.from_residual-in_err-read_effect-in-Forall.ensures.1

pub returns-in_ok-read_effect-in-Forall-clause-effects : goal.returns-in_ok-read_effect-in-Forall-clause-effects
returns-in_ok-read_effect-in-Forall-clause-effects t c =
    let here = rw (c.set_over-outside.ensures.effects, c.set_over-outside.ensures.cond, ← c.set_over.ensures.effects) at c.in_ok-read_effect-in-Forall.ensures.effects in
    forall_ends c.args.vocabulary.now.types.now c.args.vocabulary.now c.args.scope.now c.enter_forall.new.scope c.args.into.now.under.cond _ _ _ _ _ (view c.in_ok-body-in-Forall.body.now) (views c.in_ok-body-in-Forall.more.now) (rw c.in-Some.is at c.in_ok-list.ensures.list).0 (sym c.head_keyword.ensures ∙ c.in-Forall.is) c.in_ok-body-in-Forall.ensures
    _ _ here c.no_more.ensures

pub returns-in_ok-read_effect-in-Forall-clause-scope : goal.returns-in_ok-read_effect-in-Forall-clause-scope
returns-in_ok-read_effect-in-Forall-clause-scope t c =
    let next = c.enter_forall.new.scope in
    let kept : c.read_effect-in-Forall.new.scope ≡ next = c.in_ok-read_effect-in-Forall.ensures.scope in
    let levels : c.leave.new.self.levels ≡ take (length next.levels - 1) next.levels = rw (← kept) c.leave.ensures.levels in
    let over : c.leave.new.self.over ≡ take (length c.args.scope.now.over) next.over = rw (← kept, ← c.over-count.ensures) c.leave.ensures.over in
    on_ok c.no_more.result _ (leaves c.args.vocabulary.now.types.now c.args.scope.now next c.leave.new.self c.in-Some.list.at (views c.in-Some.list.rest.now) (view c.in_ok-body-in-Forall.body.now) (views c.in_ok-body-in-Forall.more.now) c.in_ok-body-in-Forall.ensures levels over)

pub returns-in_ok-read_effect-in-Forall-clause-under : goal.returns-in_ok-read_effect-in-Forall-clause-under
returns-in_ok-read_effect-in-Forall-clause-under t c =
    let over = c.set_over.ensures.over ∙ c.set_over-outside.ensures.before in
    let cond = c.set_over.ensures.cond ∙ ap (λ (u : Under). u.cond) c.in_ok-read_effect-in-Forall.ensures.under ∙ c.set_over-outside.ensures.cond in
    on_ok c.no_more.result _ (same_under c.set_over.new.self.under c.args.into.now.under over cond)
