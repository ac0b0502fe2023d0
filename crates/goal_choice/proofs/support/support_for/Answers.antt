use Rattle.std.proofs.Common.{arith, ◌≤◌, ◌∙◌, ◌++◌, [], length, Some, true, sym, ap, subst}
use Rattle.std.specs.Prelude.{slice_index_or}
use Rattle.formula_defs.specs.Layout.{Layout, variables}
use Rattle.goal_choice.specs.Means.{Supporter, start_of}
use Rattle.goal_choice.proofs.Ranges.{in_step, needs_within, least_small}
use Rattle.goal_choice.proofs.support.support_for.Goals as goal

pub returns-in-Some-clause-within : goal.returns-in-Some-clause-within
returns-in-Some-clause-within c =
    let s : Supporter = record { variable = c.in-Some.supporter.variable; needs = c.in-Some.supporter.precondition.now ++ c.in-Some.supporter.condition.now } in
    needs_within c.args.means.now.layout c.args.values.now (Some true) c.step_start-start.result (slice_index_or c.args.means.now.supporters c.args.lit []) s (c.layout.ensures.kept.each c.args.lit) (sym c.in-Some.ensures.some)

pub least_with-requires-2-clause-within : goal.least_with-requires-2-clause-within
least_with-requires-2-clause-within c =
    let z = c.args.means.now.layout in
    in_step z (length c.args.values.now) c.step_start-start.result c.args.step (slice_index_or c.args.means.now.supporters c.args.lit []) (c.step_start-start.ensures.start ∙ ap (λ (x : Layout). start_of x c.args.step) c.layout.ensures.layout) c.requires.step c.requires.fits (c.layout.ensures.kept.each c.args.lit)

pub overflow_add-start : goal.overflow_add-start
overflow_add-start c =
    let s : Supporter = record { variable = c.in-Some-least_with.supporter.variable; needs = c.in-Some-least_with.supporter.precondition.now ++ c.in-Some-least_with.supporter.condition.now } in
    let small = subst (λ (x : Layout). variables x ≤ 2147483647) c.layout.ensures.layout c.step_start-start.ensures.lawful in
    let sum = least_small c.args.means.now.layout c.args.values.now c.step_start-start.result c.args.step (slice_index_or c.args.means.now.supporters c.args.lit []) s (c.step_start-start.ensures.start ∙ ap (λ (x : Layout). start_of x c.args.step) c.layout.ensures.layout) c.requires.step c.requires.fits small (c.layout.ensures.kept.each c.args.lit) (sym c.in-Some-least_with.ensures.some) in
    omega (arith, sum)

pub of-requires : goal.of-requires
of-requires c =
    let s : Supporter = record { variable = c.in-Some-least_with.supporter.variable; needs = c.in-Some-least_with.supporter.precondition.now ++ c.in-Some-least_with.supporter.condition.now } in
    let small = subst (λ (x : Layout). variables x ≤ 2147483647) c.layout.ensures.layout c.step_start-start.ensures.lawful in
    least_small c.args.means.now.layout c.args.values.now c.step_start-start.result c.args.step (slice_index_or c.args.means.now.supporters c.args.lit []) s (c.step_start-start.ensures.start ∙ ap (λ (x : Layout). start_of x c.args.step) c.layout.ensures.layout) c.requires.step c.requires.fits small (c.layout.ensures.kept.each c.args.lit) (sym c.in-Some-least_with.ensures.some)
