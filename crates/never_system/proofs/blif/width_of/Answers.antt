use Rattle.std.proofs.Common.{arith, ◌≤◌, ◌<◌, ◌∙◌, ℕ, List, length, sym, ap, subst}
use Rattle.gt_core.specs.Task.{Action}
use Rattle.never_system.specs.Blif.{width_from, width_of}
use Rattle.never_system.proofs.Width.{found_in, next_in, last, shifted}
use Rattle.never_system.proofs.blif.width_of.Goals as goal

pub returns-then-count-width-clause-is : goal.returns-then-count-width-clause-is
unfolding width_of
returns-then-count-width-clause-is c =
    let few = subst (λ (room : ℕ). length c.acts.result.now ≤ room) (shifted c.loop-width.width c.loop-width-test.true) c.if-count-width.true in
    sym (ap (λ (xs : List Action). width_from 14 0 (length xs)) (sym c.acts.ensures.acts) ∙ (c.loop-width.invariant ∙ found_in c.loop-width.width (length c.acts.result.now) c.loop-width-test.true few))

pub loop-width-preserved : goal.loop-width-preserved
loop-width-preserved c =
    let many = subst (λ (room : ℕ). room < length c.acts.result.now) (shifted c.loop-width.width c.loop-width-test.true) c.if-count-width.false in
    c.loop-width.invariant ∙ next_in c.loop-width.width (length c.acts.result.now) c.loop-width-test.true many

pub returns-clause-is : goal.returns-clause-is
unfolding width_of
returns-clause-is c =
    sym (ap (λ (xs : List Action). width_from 14 0 (length xs)) (sym c.acts.ensures.acts) ∙ (c.loop-width.invariant ∙ last c.loop-width.width (length c.acts.result.now) (omega (arith, c.loop-width-test.false, c.loop-width.auto.width-end))))
