use Rattle.std.proofs.Common.{arith, ◌≡◌, ℕ, ◌+◌, ◌*◌, ◌/◌, ◌<◌, List, [], ◌∷◌, length, map, true, sym, ap, subst, ◌⊎◌, inl, inr}
use Rattle.std.specs.List.{list_all, AllByRecursion}
use Rattle.gt_core.specs.Task.{Effect, Action, Task, EffectOf, owned, effects_from, effects, precondition, action_numbers}
use Rattle.gt_core.specs.Active.{EffectWithin}
use Rattle.gt_core.specs.Lawful.{is_literal_set, is_action, is_task}
use Rattle.gt_core.specs.Interference.{has_edge}
use Rattle.gt_core.specs.Clauses.{IsClause}
use Rattle.gt_core.proofs.published.Basics.{Among, each_at, and_split}
use Rattle.gt_core.proofs.published.Literals.{in_among, among_in, below_range}
use Rattle.gt_core.proofs.published.Within.{literals_within, effects_within, lawful, precondition_within}
use Rattle.gt_core.proofs.published.PublishedLaw.{components_of_list}
use Rattle.step_laws.specs.Form.{OrderedTask, IsOrderedTask, places_of}
use Rattle.gt_core.specs.Literal.{range}
use Rattle.gt_core.proofs.published.Pairwise.{among_split, flat_among}
use Rattle.formula_defs.specs.Variables.{chain_places}
use Rattle.formula_defs.proofs.published.InRange.{IsInRange, past}

-- The numbers of a lawful task, of its known pairs and of its published order are in range.

-- the numbers of an effect are in range
pub record EffectInRange (facts actions : ℕ) (e : EffectOf) : Type 0 where
  pub action : e.action < actions
  pub literal : e.literal / 2 < facts
  pub condition : (c : ℕ) → Among c e.condition → c / 2 < facts

owned_in_range : (facts actions a : ℕ) (es : List Effect) → a < actions → AllByRecursion (EffectWithin facts) es → (e : EffectOf) → Among e (owned a es) → EffectInRange facts actions e
owned_in_range facts actions a [] lt w e i = absurd i
owned_in_range facts actions a (d ∷ es) lt w e (inl s) =
    let x = w.0.literal in
    let y = w.0.condition in
    let here : EffectInRange facts actions (record { action = a; condition = d.condition; literal = d.literal }) = record {
      action = lt;
      literal = omega arith;
      condition = λ c i. each_at (λ l. l / 2 < facts) d.condition c y i;
    } in
    subst (λ (x : EffectOf). EffectInRange facts actions x) (sym s) here
owned_in_range facts actions a (d ∷ es) lt w e (inr i) = owned_in_range facts actions a es lt w.1 e i

effects_in_range : (facts actions a : ℕ) (xs : List Action) → a + length xs ≡ actions → list_all (is_action facts) xs ≡ true → (e : EffectOf) → Among e (effects_from a xs) → EffectInRange facts actions e
effects_in_range facts actions a [] long h e i = absurd i
effects_in_range facts actions a (x ∷ xs) long h e i =
    let p = and_split (is_action facts x) (list_all (is_action facts) xs) h in
    let q = and_split (is_literal_set facts x.precondition) _ p.0 in
    elim (among_split (owned a x.effects) (effects_from (a + 1) xs) e i) [
      | inl j ↦ owned_in_range facts actions a x.effects (omega arith) (effects_within facts _ x.effects q.1) e j
      | inr j ↦ effects_in_range facts actions (a + 1) xs (omega arith) p.1 e j
    ]

pub task_effects_in_range : (task : Task) → is_task task ≡ true → (e : EffectOf) → Among e (effects task) → EffectInRange task.facts (length task.actions) e
task_effects_in_range task t = effects_in_range task.facts (length task.actions) 0 task.actions (omega arith) (lawful task t).each

precondition_by : (task : Task) → is_task task ≡ true → (a l : ℕ) → (a < length task.actions) ⊎ (precondition task a ≡ []) → Among l (precondition task a) → l / 2 < task.facts
precondition_by task t a l (inl lt) i = each_at (λ l. l / 2 < task.facts) (precondition task a) l (precondition_within task a t lt) i
precondition_by task t a l (inr e) i = absurd (subst (λ (x : List ℕ). Among l x) e i)

-- the members of a chain's place are a component
pub component_of : (task : Task) (components : List (List ℕ)) (p : List ℕ × ℕ) → Among p (chain_places task components) → Among p.0 components
component_of task components p i =
    let r = flat_among (λ ks. map (λ (m : ℕ). (ks, m)) (range (2 * task.facts))) components p i in
    subst (λ (x : List ℕ). Among x components) (sym (mapped r.0 p (range (2 * task.facts)) r.2)) r.1
  where
    mapped : (ks : List ℕ) (p : List ℕ × ℕ) (ms : List ℕ) → Among {A = List ℕ × ℕ} p (map (λ (m : ℕ). (ks, m)) ms) → p.0 ≡ ks
    mapped ks p [] i = absurd i
    mapped ks p (k ∷ ms) (inl e) = ap (λ (q : List ℕ × ℕ). q.0) e
    mapped ks p (k ∷ ms) (inr i) = mapped ks p ms i

-- the members of a component are actions
pub member_below : (form : OrderedTask) → IsOrderedTask form → (ks : List ℕ) → Among ks form.components → (a : ℕ) → Among a ks → a < length form.task.actions
member_below form is ks i a j =
    below_range (length form.task.actions) a (in_among (action_numbers form.task) a
    ((components_of_list (has_edge form.task form.known.clauses) (action_numbers form.task) [] form.components is.published ks i).of_actions a (among_in ks a j)))

-- the numbers of a task are in range, and those of chains at places whose members are actions
pub in_range_at : (form : OrderedTask) → IsOrderedTask form → (places : List (List ℕ × ℕ)) → ((p : List ℕ × ℕ) → Among p places → (a : ℕ) → Among a p.0 → a < length form.task.actions) → IsInRange form.task form.known.clauses places
in_range_at form is places below = record {
  effect_facts = λ e a. (task_effects_in_range form.task is.lawful e a).literal;
  effect_actions = λ e a. (task_effects_in_range form.task is.lawful e a).action;
  conditions = λ e a. (task_effects_in_range form.task is.lawful e a).condition;
  preconditions = λ a l i. precondition_by form.task is.lawful a l (past form.task.actions a) i;
  goals = λ l i. each_at (λ l. l / 2 < form.task.facts) form.task.goal l (literals_within form.task.facts form.task.goal (lawful form.task is.lawful).goal) i;
  known = λ p i. clause_in_range p (each_at (IsClause form.known.facts) form.known.clauses p is.known.lawful i);
  members = below;
}
  where
    clause_in_range : (p : ℕ × ℕ) → IsClause form.known.facts p → (p.0 / 2 < form.task.facts) × (p.1 / 2 < form.task.facts)
    clause_in_range p c =
        let same = is.facts in
        let a = c.0 in
        let b = c.1 in
        (omega arith, omega arith)

pub in_range_of : (form : OrderedTask) → IsOrderedTask form → IsInRange form.task form.known.clauses (places_of form)
in_range_of form is = in_range_at form is (places_of form) (λ p i a j. member_below form is p.0 (component_of form.task form.components p i) a j)
