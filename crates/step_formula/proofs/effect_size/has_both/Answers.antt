use Rattle.std.proofs.Common.{arith, ◌≡◌, ◌==◌, ◌||◌, ◌-◌, ◌+◌, ◌/◌, ℕ, Bool, get_or, drop, ap, sym, ◌∙◌}
use Rattle.gt_core.proofs.published.Basics.{same_test, test_same, not_true}
use Rattle.step_formula.specs.own.Sizes.{has_both}
use Rattle.step_formula.proofs.WalkLaw.{both_next, both_none}
use Rattle.step_formula.proofs.effect_size.has_both.Goals as goal

pub returns-then-lits-place : goal.returns-then-lits-place
returns-then-lits-place c =
    let ls = c.args.lits.now in
    let p = c.loop-place.place in
    sym (c.loop-place.invariant ∙ both_next ls p c.loop-place.auto.place c.loop-place-test.true ∙ ap (λ (b : Bool). b || has_both (drop p ls)) (same_test (get_or ls (p - 1) 0 / 2) (get_or ls p 0 / 2) c.if-lits-place.true))

pub loop-place-preserved : goal.loop-place-preserved
loop-place-preserved c =
    let ls = c.args.lits.now in
    let p = c.loop-place.place in
    let n : p ≡ p + 1 - 1 = omega arith in
    c.loop-place.invariant ∙ both_next ls p c.loop-place.auto.place c.loop-place-test.true
    ∙ ap (λ (b : Bool). b || has_both (drop p ls)) (not_true (get_or ls (p - 1) 0 / 2 == get_or ls p 0 / 2) (λ t. c.if-lits-place.false (test_same _ _ t)))
    ∙ ap (λ (k : ℕ). has_both (drop k ls)) n

pub returns : goal.returns
returns c = sym (c.loop-place.invariant ∙ both_none c.args.lits.now c.loop-place.place c.loop-place-test.false)
