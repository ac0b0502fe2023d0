-- Where nothing satisfies the formula of clauses that hold at first, no actions lead to the goal. Where there are no facts the law of the
-- formula says nothing; then a run to the goal would be the empty one, and the formula would have a satisfying assignment.
use Rattle.std.proofs.Common.{arith, ◌≡◌, ◌==◌, ◌∙◌, ℕ, zero, suc, ◌*◌, ◌/◌, ◌%◌, ◌<◌, List, [], ◌∷◌, ◌++◌, drop, Bool, true, false, ◌||◌, not, refl, sym, ap, subst, nat_lt, if◌then◌else◌}
use Rattle.std.specs.List.{AllByRecursion}
use Rattle.std.proofs.lemmas.Bool.Decides.{nat_tests}
use Rattle.std.proofs.lemmas.List.Elements.{All-head, All-tail}
use Rattle.clause_base.specs.Clause.{HasVariablesBelow, clause_value}
use Rattle.clause_base.specs.Formula.{Cnf, IsUnsatisfiable, Satisfies}
use Rattle.gt_core.specs.Literal.{holds}
use Rattle.gt_core.specs.Task.{Task, initial_state}
use Rattle.gt_core.specs.Execution.{IsGoal}
use Rattle.gt_core.specs.Laws.{HasNoRun}
use Rattle.gt_core.proofs.published.Basics.{each_from}
use Rattle.gt_core.proofs.published.Literals.{holds_add}
use Rattle.formula_defs.specs.Layout.{Layout, variables}
use Rattle.formula_defs.specs.Variables.{layout_of}
use Rattle.formula_defs.specs.Formula.{step_clauses, pair_clauses}
use Rattle.formula_defs.specs.Coded.{coded, formula_of}
use Rattle.formula_defs.proofs.published.CodedLaw.{coded-append}
use Rattle.formula_defs.proofs.published.InRange.{IsInRange}
use Rattle.formula_defs.proofs.published.SizeLaw.{single_clause}
use Rattle.formula_defs.proofs.published.Within.{step_within, known_within}
use Rattle.step_laws.proofs.published.Ranges.{in_range_of}
use Rattle.step_laws.specs.Form.{OrderedTask, IsOrderedTask, places_of}
use Rattle.step_laws.specs.Never.{AreOver, never_formula, NeverIsNoPlan}
use Rattle.never_defs.specs.Sets.{AreTrue}
use Rattle.never_form.specs.own.Parts.{ends, own_parts}
use Rattle.never_form.proofs.Same.{rest_is, clauses_same}

-- where the initial state is a goal state an assignment satisfies the formula of horizon 1
abbrev pub HasModelAtGoal : Type 0
HasModelAtGoal =
    (form : OrderedTask) → IsOrderedTask form → IsGoal form.task (initial_state form.task)
    → (v : ℕ → Bool) × Satisfies v (formula_of form.task form.known.clauses (places_of form) 1).clauses

over_by_half : (facts : ℕ) (clauses : List (List ℕ)) → AllByRecursion (AllByRecursion (λ l. l < 2 * facts)) clauses → AreOver facts clauses
over_by_half facts [] h = tt
over_by_half facts (c ∷ cs) h = (one c h.0, over_by_half facts cs h.1)
  where
    one : (c : List ℕ) → AllByRecursion (λ l. l < 2 * facts) c → AllByRecursion (λ l. l / 2 < facts) c
    one [] h = tt
    one (l ∷ c) h = let lt = h.0 in (omega arith, one c h.1)

each_append : {A : Type 0} (P : A → Type 0) (xs ys : List A) → AllByRecursion P xs → AllByRecursion P ys → AllByRecursion P (xs ++ ys)
each_append P [] ys a b = b
each_append P (x ∷ xs) ys a b = (a.0, each_append P xs ys a.1 b)

each_dropped : {A : Type 0} (P : A → Type 0) (n : ℕ) (xs : List A) → AllByRecursion P xs → AllByRecursion P (drop n xs)
each_dropped P zero xs h = h
each_dropped P (suc n) [] h = h
each_dropped P (suc n) (x ∷ xs) h = each_dropped P n xs h.1

-- an assignment with all variables from a number on made true
abbrev filled : (ℕ → Bool) → ℕ → ℕ → Bool
filled v n k = if nat_lt k n then v k else true

filled_below : (v : ℕ → Bool) (n k : ℕ) → k < n → filled v n k ≡ v k
filled_below v n k lt = let t : nat_lt k n ≡ true = grind (arith, nat_tests) in rw t refl

filled_at : (v : ℕ → Bool) (n : ℕ) → filled v n n ≡ true
filled_at v n = let t : nat_lt n n ≡ false = grind (arith, nat_tests) in rw t refl

same_literal : (v : ℕ → Bool) (n l : ℕ) → l / 2 < n → holds (filled v n) l ≡ holds v l
same_literal v n l lt = by (l % 2 == 0) (filled_below v n (l / 2) lt)
  where
    by : (b : Bool) → filled v n (l / 2) ≡ v (l / 2) → (if b then filled v n (l / 2) else not (filled v n (l / 2))) ≡ (if b then v (l / 2) else not (v (l / 2)))
    by true e = e
    by false e = ap not e

same_clause : (v : ℕ → Bool) (n : ℕ) (c : List ℕ) → HasVariablesBelow n c → clause_value (filled v n) c ≡ clause_value v c
same_clause v n [] h = refl
same_clause v n (l ∷ c) h = rw (same_literal v n l (All-head (λ l. l / 2 < n) l c h), same_clause v n c (All-tail (λ l. l / 2 < n) l c h)) refl

still_satisfied : (v : ℕ → Bool) (n : ℕ) (cs : List (List ℕ)) → AllByRecursion (HasVariablesBelow n) cs → Satisfies v cs → Satisfies (filled v n) cs
still_satisfied v n [] below s = tt
still_satisfied v n (c ∷ cs) below s = (same_clause v n c below.0 ∙ s.0, still_satisfied v n cs below.1 s.1)

-- without facts no clause is true
no_clauses : (s : ℕ → Bool) (clauses : List (List ℕ)) → AreOver 0 clauses → AreTrue s clauses → clauses ≡ []
no_clauses s [] over h = refl
no_clauses s ([] ∷ cs) over h = absurd (let never : false ≡ true = h.0 in cc)
no_clauses s ((l ∷ c) ∷ cs) over h = absurd (let lt = over.0.0 in omega arith)

-- and no goal has a literal
no_goal : (goal : List ℕ) → AllByRecursion (λ l. l / 2 < 0) goal → goal ≡ []
no_goal [] h = refl
no_goal (l ∷ goal) h = absurd (let lt = h.0 in omega arith)

module _ (task : Task) (pairs : List (ℕ × ℕ)) (places : List (List ℕ × ℕ)) (range : IsInRange task pairs places) where
  abbrev z : Layout
  z = layout_of task places 1

  rest_below : AllByRecursion (HasVariablesBelow (variables z)) (drop (ends task) (formula_of task pairs places 1).clauses)
  rest_below =
      subst (AllByRecursion (HasVariablesBelow (variables z)))
      (sym (rest_is task pairs places ∙ coded-append (step_clauses z task places 0) (pair_clauses z pairs 0 ++ pair_clauses z pairs 1)
      ∙ ap (λ (r : List (List ℕ)). coded (step_clauses z task places 0) ++ r) (coded-append (pair_clauses z pairs 0) (pair_clauses z pairs 1))))
      (each_append _ (coded (step_clauses z task places 0)) _ (step_within task pairs places 1 range 0 (omega arith))
      (each_append _ (coded (pair_clauses z pairs 0)) _ (known_within task pairs places 1 range 0 (omega arith)) (known_within task pairs places 1 range 1 (omega arith))))

  -- an assignment that satisfies the formula of horizon 1 satisfies that of no clauses, where no goal is left, with the cube's variable true
  pub satisfied : (v : ℕ → Bool) → task.goal ≡ [] → Satisfies v (formula_of task pairs places 1).clauses → Satisfies (filled v (variables z)) (never_formula task pairs places []).clauses
  satisfied v none s =
      let own : own_parts task (variables z) [] ≡ (2 * variables z ∷ []) ∷ [] = rw none (single_clause (2 * variables z) []) in
      subst (Satisfies (filled v (variables z))) (sym (clauses_same task pairs places []))
      (each_append _ (own_parts task (variables z) []) _
      (subst (Satisfies (filled v (variables z))) (sym own) (first (holds (filled v (variables z)) (2 * variables z)) (holds_add (filled v (variables z)) (variables z) ∙ filled_at v (variables z)), tt))
      (still_satisfied v (variables z) _ rest_below (each_dropped _ (ends task) _ s)))
    where
      first : (b : Bool) → b ≡ true → (b || false) ≡ true
      first true e = refl
      first false e = e

module _ (form : OrderedTask) (is : IsOrderedTask form) (clauses : List (List ℕ)) (over : AllByRecursion (AllByRecursion (λ l. l < 2 * form.task.facts)) clauses)
    (none : IsUnsatisfiable (never_formula form.task form.known.clauses (places_of form) clauses).clauses) (at_first : AreTrue (initial_state form.task) clauses) where
  without_facts : HasModelAtGoal → form.task.facts ≡ 0 → HasNoRun form.task
  without_facts has_model no_facts ks run =
      let range = in_range_of form is in
      let goal : form.task.goal ≡ [] = no_goal form.task.goal (subst (λ (n : ℕ). AllByRecursion (λ l. l / 2 < n) form.task.goal) no_facts (each_from _ form.task.goal (λ l i. range.goals l i))) in
      let reached : IsGoal form.task (initial_state form.task) = record { hopeful = run.reaches.hopeful; reached = rw goal refl } in
      let model = has_model form is reached in
      let empty : clauses ≡ [] = no_clauses (initial_state form.task) clauses (subst (λ (n : ℕ). AreOver n clauses) no_facts (over_by_half form.task.facts clauses over)) at_first in
      none (filled model.0 (variables (layout_of form.task (places_of form) 1))) (subst (λ (cs : List (List ℕ)). Satisfies (filled model.0 (variables (layout_of form.task (places_of form) 1))) (never_formula form.task form.known.clauses (places_of form) cs).clauses) (sym empty)
      (satisfied form.task form.known.clauses (places_of form) range model.0 goal model.1))

  pub no_run : NeverIsNoPlan → HasModelAtGoal → HasNoRun form.task
  no_run law has_model = by form.task.facts refl
    where
      by : (n : ℕ) → form.task.facts ≡ n → HasNoRun form.task
      by zero e = without_facts has_model e
      by (suc n) e = λ ks run. law form is (omega (arith, e)) clauses (over_by_half form.task.facts clauses over) at_first none ks run.runs run.reaches

-- the same of a task that a form has, and of a formula that is made
pub no_run_of :
    (task : Task) (form : OrderedTask) (clauses : List (List ℕ)) (formula : Cnf) → form.task ≡ task → IsOrderedTask form
    → AllByRecursion (AllByRecursion (λ l. l < 2 * task.facts)) clauses → formula ≡ never_formula task form.known.clauses (places_of form) clauses
    → NeverIsNoPlan → HasModelAtGoal → IsUnsatisfiable formula.clauses → AreTrue (initial_state task) clauses → HasNoRun task
no_run_of task form clauses formula same is over made law has_model none first =
    let back : formula ≡ never_formula form.task form.known.clauses (places_of form) clauses = made ∙ ap (λ (t : Task). never_formula t form.known.clauses (places_of form) clauses) (sym same) in
    subst HasNoRun same
    (no_run form is clauses (subst (λ (t : Task). AllByRecursion (AllByRecursion (λ l. l < 2 * t.facts)) clauses) (sym same) over) (subst (λ (f : Cnf). IsUnsatisfiable f.clauses) back none)
    (subst (λ (t : Task). AreTrue (initial_state t) clauses) (sym same) first) law has_model)
