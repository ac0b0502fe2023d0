use Rattle.std.proofs.Common.{arith, ◌≡◌, ℕ, ◌<◌, ◌≤◌, List, [], ◌∷◌, ◌++◌, length, Bool, true, false, ◌/◌, sym, ap, ◌∙◌, subst, inl, inr, None}
use Rattle.std.specs.List.{AllByRecursion}
use mathlib.Core.Path.{fun_ext}
use Rattle.gt_core.specs.Literal.{is_in, range}
use Rattle.gt_core.specs.Task.{Action, Task, action_numbers}
use Rattle.gt_core.specs.Interference.{has_edge}
use Rattle.gt_core.specs.Published.{IsListed, IsPublished, order_of}
use Rattle.gt_core.specs.Lawful.{is_task, is_action, is_literal_set}
use Rattle.gt_core.proofs.published.Basics.{and_split, all_at, each_at, each_from}
use Rattle.gt_core.proofs.published.Within.{lawful, literals_within, effects_within}
use Rattle.gt_core.proofs.published.Literals.{in_among, among_in, in_split, below_range}
use Rattle.gt_core.proofs.published.PublishedLaw.{published_apart}
use Rattle.action_order.specs.own.Graph.{leads, item}
use Rattle.action_order.specs.own.Edges.{AreEdges}
use Rattle.action_order.specs.own.Readers.{ActionWithin}
use Rattle.action_order.specs.Order.{IsOrder, name_in}
use Rattle.action_order.proofs.EdgesLaw.{leads_is}
use Rattle.action_order.proofs.published.Lists.{in_at}
use Rattle.action_order.proofs.OrderLaw.{unequal_places, few_unequal, few_components}
use Rattle.gt_core.specs.Limits.{most_actions}

-- The listed components of the graph of the targets are the published order.

-- the literals of a task's actions are in range
pub acts_within : (task : Task) → is_task task ≡ true → AllByRecursion (ActionWithin task.facts) task.actions
acts_within task e = each_from _ task.actions (λ x i.
    let a = and_split (is_literal_set task.facts x.precondition) _ (all_at (is_action task.facts) task.actions x (lawful task e).each i) in
    let half = literals_within task.facts x.precondition a.0 in
    record {
      precondition = each_from _ x.precondition (λ l j. let h = each_at (λ k. k / 2 < task.facts) x.precondition l half j in omega arith);
      effects = effects_within task.facts None x.effects a.1;
    })

listed_actions : (edge : ℕ → ℕ → Bool) (actions taken : List ℕ) (components : List (List ℕ)) → IsListed edge actions taken components → (a : ℕ) → is_in (order_of components) a ≡ true → is_in actions a ≡ true
listed_actions edge actions taken [] h a i = absurd (let f : false ≡ true = i in cc)
listed_actions edge actions taken ([] ∷ rest) h a i = absurd h
listed_actions edge actions taken ((name ∷ ks) ∷ rest) h a i = elim (in_split (name ∷ ks) (order_of rest) a i) [
  | inl j ↦ h.0.component.of_actions a j
  | inr j ↦ listed_actions edge actions (taken ++ name ∷ ks) rest h.1 a j
]

-- the edges of a task's actions, as they were listed
pub edges_of : (clauses : List (ℕ × ℕ)) (acts actions : List Action) (targets : List (List ℕ)) → acts ≡ actions → AreEdges clauses acts (length acts) targets → AreEdges clauses actions (length actions) targets
edges_of clauses acts actions targets same e = subst (λ (xs : List Action). AreEdges clauses xs (length xs) targets) same e

pub is_published : (task : Task) (clauses : List (ℕ × ℕ)) (targets components : List (List ℕ)) → AreEdges clauses task.actions (length task.actions) targets → IsListed (leads targets) (range (length targets)) [] components → IsPublished task clauses components
is_published task clauses targets components t h =
    subst (λ (e : ℕ → ℕ → Bool). IsListed e (action_numbers task) [] components) (fun_ext (λ a. fun_ext (λ b. leads_is clauses task.actions targets t a b)))
    (subst (λ (n : ℕ). IsListed (leads targets) (range n) [] components) t.long h)

module _ (task : Task) (clauses : List (ℕ × ℕ)) (components : List (List ℕ)) (p : IsPublished task clauses components) where
  pub action_below : (a : ℕ) → is_in (order_of components) a ≡ true → a < length task.actions
  action_below a i = below_range (length task.actions) a (in_among (action_numbers task) a (listed_actions (has_edge task clauses) (action_numbers task) [] components p a i))

  pub order_below : AllByRecursion (λ a. a < length task.actions) (order_of components)
  order_below = each_from _ (order_of components) (λ a i. action_below a (among_in (order_of components) a i))

  pub order_unequal : (k q : ℕ) → k < q → q < length (order_of components) → item (order_of components) k ≡ item (order_of components) q → ⊥
  order_unequal = unequal_places (order_of components) (published_apart task clauses components p)

  pub order_few : length (order_of components) ≤ length task.actions
  order_few = few_unequal (length task.actions) (order_of components) action_below (published_apart task clauses components p)

  pub components_few : length components ≤ length task.actions
  components_few = let a = few_components (has_edge task clauses) (action_numbers task) [] components p in let b = order_few in omega arith

  pub is_order : (order places names : List ℕ) → length task.actions ≤ most_actions → order ≡ order_of components → length places ≡ length task.actions → ((q : ℕ) → q < length order → item places (item order q) ≡ q) → length names ≡ length task.actions → ((a : ℕ) → a < length task.actions → item names a ≡ name_in components a) → IsOrder components order places names
  is_order order places names few flat places_long placed names_long named = record {
    flat = flat;
    placed = λ q lt. (let b = action_below (item order q) (subst (λ (xs : List ℕ). is_in xs (item order q) ≡ true) flat (in_at order q lt)) in omega arith, placed q lt);
    names_long = names_long ∙ sym places_long;
    named = λ a i. named a (action_below a (subst (λ (xs : List ℕ). is_in xs a ≡ true) flat i));
    few = let c = components_few in omega arith;
    short = let n = ap (length {A = ℕ}) flat in let f = order_few in omega arith;
  }
