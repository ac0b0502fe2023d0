use Rattle.std.proofs.Common.{arith, ◌≡◌, ℕ, ◌+◌, List, ◌++◌, true, refl}
use Rattle.gt_core.specs.Literal.{range}
use Rattle.gt_core.specs.Task.{Task}
use Rattle.gt_core.specs.Lawful.{is_task}
use Rattle.formula_defs.specs.Layout.{action_at, chain_at, fact_at}
use Rattle.formula_defs.specs.Variables.{layout_of, chains, rows, variable_at}
use Rattle.formula_defs.specs.Formula.{precondition_clauses, effect_clauses, frame_clauses, chain_clauses}
use Rattle.formula_defs.specs.Coded.{coded, literals_in}
use Rattle.formula_defs.specs.Shift.{one_step}
use Rattle.formula_defs.proofs.published.SizeLaw.{size_append}
use Rattle.step_formula.specs.own.Sizes.{size_without_chains}
use Rattle.step_formula.proofs.EffectsSize.{effects_literals}
use Rattle.step_formula.proofs.FramesSize.{frames_literals, preconditions_literals}

-- How many literals the clauses of one step have.

pub step_literals : (task : Task) (places : List (List ℕ × ℕ)) (chained : ℕ) → is_task task ≡ true
    → chained ≡ literals_in (coded (chain_clauses (action_at (layout_of task places 1) 0) (chain_at (layout_of task places 1) 0) task (chains task places)))
    → size_without_chains task + chained ≡ literals_in (one_step task places)
step_literals task places chained t c =
    let z = layout_of task places 1 in
    let pre = precondition_clauses (action_at z 0) (fact_at z 0) 0 task.actions in
    let effs = effect_clauses (action_at z 0) (fact_at z 0) (fact_at z 1) (variable_at z 0) (rows task) (rows task) in
    let frames = frame_clauses (fact_at z 0) (fact_at z 1) (variable_at z 0) (rows task) (range task.facts) in
    let last = chain_clauses (action_at z 0) (chain_at z 0) task (chains task places) in
    let a = size_append pre (effs ++ (frames ++ last)) in
    let b = size_append effs (frames ++ last) in
    let d = size_append frames last in
    let p = preconditions_literals z refl task t refl refl 0 task.actions (omega arith) in
    let e = effects_literals z refl task t refl refl in
    let f = frames_literals z refl task t refl refl refl in
    omega (arith, a, b, d, p, e, f, c)
