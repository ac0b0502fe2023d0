-- The numbers of the formula of clauses are in range where there are not too many literals.
use Rattle.std.proofs.Common.{arith, ◌≡◌, ◌∙◌, ℕ, ◌+◌, ◌*◌, ◌/◌, ◌<◌, ◌≤◌, List, [], ◌∷◌, ◌++◌, drop, length, true, refl, ap, subst, Bool, false, if◌then◌else◌}
use Rattle.std.specs.List.{AllByRecursion}
use Rattle.std.proofs.lemmas.List.{length-map, length-append}
use Rattle.clause_base.specs.Formula.{Cnf}
use Rattle.gt_core.specs.Task.{Task}
use Rattle.gt_core.specs.Lawful.{is_task, conditional_in}
use Rattle.gt_core.proofs.published.Within.{lawful, literals_within}
use Rattle.formula_defs.specs.Layout.{variables}
use Rattle.formula_defs.specs.Variables.{layout_of}
use Rattle.formula_defs.specs.Formula.{step_clauses, pair_clauses}
use Rattle.formula_defs.specs.Coded.{coded, formula_of, literals_in}
use Rattle.formula_defs.specs.Shift.{one_step, one_time}
use Rattle.formula_defs.proofs.published.InRange.{IsInRange}
use Rattle.formula_defs.proofs.published.CodedLaw.{coded-append}
use Rattle.formula_defs.proofs.published.SizeLaw.{size_law, chains_within_size}
use Rattle.formula_defs.proofs.published.ShiftLaw.{known_moved}
use Rattle.formula_defs.proofs.published.FewLaw.{step_few, time_few}
use Rattle.step_laws.proofs.published.Ranges.{in_range_of}
use Rattle.step_laws.specs.Form.{OrderedTask, IsOrderedTask, places_of}
use Rattle.step_encoding.specs.Numbers.{literals_of}
use Rattle.never_form.specs.Formed.{needed}
use Rattle.never_form.specs.own.Parts.{ends, HasNumbers}
use Rattle.never_form.specs.own.One.{IsOne}
use Rattle.never_form.proofs.Same.{rest_is}

-- what clauses need are three times their literals, and one more for each
pub needed_is : (clauses : List (List ℕ)) → needed clauses ≡ 3 * literals_in clauses + length clauses
needed_is [] = refl
needed_is (c ∷ clauses) = let h = needed_is clauses in omega (arith, h)

-- literals by their variables are below a number
pub doubled : (n : ℕ) (lits : List ℕ) → AllByRecursion (λ l. l / 2 < n) lits → AllByRecursion (λ l. l < 2 * n) lits
doubled n [] h = tt
doubled n (l ∷ lits) h = let lt = h.0 in (omega arith, doubled n lits h.1)

module _ (task : Task) (pairs : List (ℕ × ℕ)) (places : List (List ℕ × ℕ)) (is : IsInRange task pairs places) where
  time_long : (t : ℕ) → length (coded (pair_clauses (layout_of task places 1) pairs t)) ≡ length (one_time pairs)
  time_long t = ap length (known_moved task pairs places 1 is t) ∙ length-map (one_time pairs) _

  -- there are at most as many clauses of the step and the known pairs as literals in all
  pub rest_few : length (drop (ends task) (formula_of task pairs places 1).clauses) ≤ literals_in (formula_of task pairs places 1).clauses
  rest_few =
      let s = coded (step_clauses (layout_of task places 1) task places 0) in
      let p = coded (pair_clauses (layout_of task places 1) pairs 0) in
      let q = coded (pair_clauses (layout_of task places 1) pairs 1) in
      let a : length (drop (ends task) (formula_of task pairs places 1).clauses) ≡ length (s ++ (p ++ q)) =
      ap length (rest_is task pairs places ∙ coded-append (step_clauses (layout_of task places 1) task places 0) (pair_clauses (layout_of task places 1) pairs 0 ++ pair_clauses (layout_of task places 1) pairs 1)
      ∙ ap (λ (r : List (List ℕ)). s ++ r) (coded-append (pair_clauses (layout_of task places 1) pairs 0) (pair_clauses (layout_of task places 1) pairs 1))) in
      let b = length-append s (p ++ q) in
      let c = length-append p q in
      let d = time_long 0 in
      let e = time_long 1 in
      let f : length s ≤ literals_in (one_step task places) = step_few task places in
      let g = time_few pairs in
      let h = size_law task pairs places 1 is in
      omega (arith, a, b, c, d, e, f, g, h)

  -- the variables are no more than the actions, the conditional effects, the literals and twice the facts
  pub variables_few : variables (layout_of task places 1) ≤ length task.actions + conditional_in task.actions + literals_in (formula_of task pairs places 1).clauses + 2 * task.facts
  variables_few =
      let a = chains_within_size task places in
      let b = size_law task pairs places 1 is in
      omega (arith, a, b)

-- the numbers of the formula of clauses are in range, and those of the step and the known pairs with them
pub record AllNumbers (task : Task) (one : Cnf) (clauses : List (List ℕ)) : Type 0 where
  pub own : HasNumbers task one.variables clauses
  pub rest : length clauses + length task.goal + literals_in clauses + 1 + length (drop (ends task) one.clauses) ≤ 1073741824
  pub ends : ends task ≤ 1073741824

hopeless_few : (b : Bool) → (if b then 1 else 0) ≤ 1
hopeless_few true = omega arith
hopeless_few false = omega arith

pub numbers : (task : Task) (one : Cnf) (clauses : List (List ℕ)) → IsOne task one clauses → is_task task ≡ true → AllByRecursion (AllByRecursion (λ l. l < 2 * task.facts)) clauses → AllNumbers task one clauses
numbers task one clauses is fits over =
    let range : IsInRange task is.form.known.clauses (places_of is.form) = subst (λ (t : Task). IsInRange t is.form.known.clauses (places_of is.form)) is.of_task (in_range_of is.form is.ordered) in
    let bounds = lawful task fits in
    let bf = bounds.facts in
    let ba = bounds.actions in
    let bc = bounds.conditional in
    let few = variables_few task is.form.known.clauses (places_of is.form) range in
    let named : one.variables ≡ variables (layout_of task (places_of is.form) 1) = ap (λ (f : Cnf). f.variables) is.formula in
    let literals : literals_in one.clauses ≡ literals_in (formula_of task is.form.known.clauses (places_of is.form) 1).clauses = ap (λ (f : Cnf). literals_in f.clauses) is.formula in
    let rest = rest_few task is.form.known.clauses (places_of is.form) range in
    let left : length (drop (ends task) one.clauses) ≡ length (drop (ends task) (formula_of task is.form.known.clauses (places_of is.form) 1).clauses) = ap (λ (f : Cnf). length (drop (ends task) f.clauses)) is.formula in
    let need = needed_is clauses in
    let small = is.small in
    let hopeless = hopeless_few task.hopeless in
    record {
      own = record {
        variables = omega (arith, bf, ba, bc, few, named, literals, need, small);
        facts = omega (arith, named);
        goal = doubled task.facts task.goal (literals_within task.facts task.goal bounds.goal);
        over = over;
        few = omega (arith, need, small);
      };
      rest = omega (arith, need, small, rest, left, literals);
      ends = omega (arith, bf, small, hopeless);
    }

-- the goal has no more literals than the formula of horizon 1
pub goal_few : (task : Task) (form : OrderedTask) → form.task ≡ task → IsOrderedTask form → length task.goal ≤ literals_of (formula_of task form.known.clauses (places_of form) 1)
goal_few task form same is =
    let range : IsInRange task form.known.clauses (places_of form) = subst (λ (t : Task). IsInRange t form.known.clauses (places_of form)) same (in_range_of form is) in
    let size = size_law task form.known.clauses (places_of form) 1 range in
    omega (arith, size)
