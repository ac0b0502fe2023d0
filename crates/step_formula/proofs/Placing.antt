use Rattle.std.proofs.Common.{arith, ◌≡◌, ◌<◌, ◌≤◌, ◌+◌, ℕ, List, length, take, count_by, true, ap}
use Rattle.gt_core.specs.Task.{Effect, Action, Task, action}
use Rattle.gt_core.specs.Lawful.{is_conditional, conditional_in, is_task}
use Rattle.formula_defs.specs.Layout.{Layout}
use Rattle.gt_core.proofs.published.Within.{lawful}
use Rattle.step_formula.specs.Rows.{ArePlaced}
use Rattle.step_formula.proofs.RowLaw.{first_more, taken_and_left}
use Rattle.step_formula.proofs.EffectLaw.{effects_within}
use Rattle.gt_core.specs.Limits.{most_conditional}

-- The effects of an action have their places in the layout of its task.
pub placed : (task : Task) (z : Layout) (a first : ℕ) (x : Action) (es : List Effect) → 0 < z.horizon → z.actions ≡ length task.actions → z.conditional ≡ conditional_in task.actions → z.facts ≡ task.facts
    → x ≡ action task a → es ≡ x.effects → is_task task ≡ true → a < length task.actions → first ≡ conditional_in (take a task.actions) → ArePlaced z a first es
placed task z a first x es step actions conditional facts is same t lt from =
    let more = first_more task a first (count_by is_conditional es) x is (ap (count_by is_conditional) same) lt from in
    let all = taken_and_left task.actions (a + 1) in
    record {
      horizon = step;
      action = omega (arith, lt, actions);
      numbers = omega (arith, more, all, conditional);
      few = omega (arith, conditional, (lawful task t).conditional);
      within = effects_within task z.facts a es x facts is same t lt;
    }

-- The number after an action's conditional effects is at most 65,536, as many as a task may have.
pub own_few : (task : Task) (a first own : ℕ) (x : Action) → x ≡ action task a → own ≡ count_by is_conditional x.effects → is_task task ≡ true → a < length task.actions → first ≡ conditional_in (take a task.actions) → first + own ≤ most_conditional
own_few task a first own x is count t lt from =
    let more = first_more task a first own x is count lt from in
    let all = taken_and_left task.actions (a + 1) in
    let few = (lawful task t).conditional in
    omega (arith, more, all, few)
