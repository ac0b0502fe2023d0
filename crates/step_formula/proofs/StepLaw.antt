use Rattle.std.proofs.Common.{arith, ◌≡◌, ℕ, ◌+◌, ◌*◌, ◌≤◌, List, [], ◌++◌, length, true, ap, ◌∙◌}
use Rattle.gt_core.specs.Literal.{range}
use Rattle.gt_core.specs.Task.{Task}
use Rattle.gt_core.specs.Lawful.{is_task, conditional_in}
use Rattle.formula_defs.specs.Layout.{Layout, action_at, chain_at, fact_at}
use Rattle.gt_core.proofs.published.Within.{lawful}
use Rattle.formula_defs.specs.Variables.{rows, variable_at, layout_of, chains}
use Rattle.formula_defs.specs.Formula.{precondition_clauses, effect_clauses, frame_clauses, chain_clauses, step_clauses}
use Rattle.formula_defs.specs.Coded.{coded}
use Rattle.formula_defs.specs.Shift.{one_step}
use Rattle.step_formula.proofs.EffectLaw.{two_parts}

-- The clauses of one step from its groups.

-- the variables of horizon 1 have codes in 32 bits
pub one_fits : (task : Task) → is_task task ≡ true → (a c x f : ℕ) → a ≡ length task.actions → c ≡ conditional_in task.actions → x ≤ 1073741824 → f ≡ task.facts → 1 * (a + c + x) + (1 + 1) * f ≤ 2147483647
one_fits task t a c x f e g le h =
    let l = lawful task t in
    let p = l.actions in
    let q = l.conditional in
    let r = l.facts in
    omega (arith, e, g, le, h, p, q, r)

pub step_joined : (z : Layout) (task : Task) (places : List (List ℕ × ℕ)) (none first second third fourth : List (List ℕ)) → z ≡ layout_of task places 1 → none ≡ []
    → first ≡ none ++ coded (precondition_clauses (action_at z 0) (fact_at z 0) 0 task.actions)
    → second ≡ first ++ coded (effect_clauses (action_at z 0) (fact_at z 0) (fact_at z 1) (variable_at z 0) (rows task) (rows task))
    → third ≡ second ++ coded (frame_clauses (fact_at z 0) (fact_at z 1) (variable_at z 0) (rows task) (range task.facts))
    → fourth ≡ third ++ coded (chain_clauses (action_at z 0) (chain_at z 0) task (chains task places))
    → fourth ≡ one_step task places
step_joined z task places none first second third fourth e n h1 h2 h3 h4 =
    two_parts (precondition_clauses (action_at z 0) (fact_at z 0) 0 task.actions) (effect_clauses (action_at z 0) (fact_at z 0) (fact_at z 1) (variable_at z 0) (rows task) (rows task) ++ (frame_clauses (fact_at z 0) (fact_at z 1) (variable_at z 0) (rows task) (range task.facts) ++ chain_clauses (action_at z 0) (chain_at z 0) task (chains task places))) none first fourth h1
    (two_parts (effect_clauses (action_at z 0) (fact_at z 0) (fact_at z 1) (variable_at z 0) (rows task) (rows task)) (frame_clauses (fact_at z 0) (fact_at z 1) (variable_at z 0) (rows task) (range task.facts) ++ chain_clauses (action_at z 0) (chain_at z 0) task (chains task places)) first second fourth h2
    (two_parts (frame_clauses (fact_at z 0) (fact_at z 1) (variable_at z 0) (rows task) (range task.facts)) (chain_clauses (action_at z 0) (chain_at z 0) task (chains task places)) second third fourth h3 h4))
    ∙ ap (λ (r : List (List ℕ)). r ++ coded (step_clauses z task places 0)) n
    ∙ ap (λ (x : Layout). coded (step_clauses x task places 0)) e
