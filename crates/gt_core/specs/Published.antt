use Rattle.std.specs.Prelude.{◌≡◌, ℕ, ◌<◌, List, [], ◌∷◌, ◌++◌, Bool, true, false, ◌⊎◌, ◌==◌, length}
use Rattle.std.specs.List.{flat_map, AllByRecursion}
use Rattle.gt_core.specs.Literal.{is_in}
use Rattle.gt_core.specs.Task.{Task, action_numbers}
use Rattle.gt_core.specs.Interference.{has_edge, disables, together}

-- each element stands so to each later one
abbrev pub Pairwise : {A : Type 0} → (A → A → Type 0) → List A → Type 0
Pairwise R [] = Unit {0}
Pairwise R (x ∷ xs) = AllByRecursion (R x) xs × Pairwise R xs

-- a path of edges leads from one action to another; each reaches itself
pub data Reaches (edge : ℕ → ℕ → Bool) : ℕ → ℕ → Type 0 where
  here : (a : ℕ) → Reaches edge a a
  along : (a b c : ℕ) → edge a b ≡ true → Reaches edge b c → Reaches edge a c

-- each reaches the other
pub record IsMutual (edge : ℕ → ℕ → Bool) (a b : ℕ) : Type 0 where
  pub there : Reaches edge a b
  pub back : Reaches edge b a

-- a component: a class of mutual reachability among the actions, rising from its least, which names it
pub record IsComponent (edge : ℕ → ℕ → Bool) (actions ks : List ℕ) : Type 0 where
  pub of_actions : (a : ℕ) → is_in ks a ≡ true → is_in actions a ≡ true
  pub each_way : (a b : ℕ) → is_in ks a ≡ true → is_in ks b ≡ true → IsMutual edge a b
  pub whole : (a b : ℕ) → is_in ks a ≡ true → is_in actions b ≡ true → IsMutual edge a b → is_in ks b ≡ true
  pub rising : Pairwise (λ a b. a < b) ks

-- every edge from a component leads into it, or to an action that was taken
abbrev pub IsReady : (ℕ → ℕ → Bool) → List ℕ → List ℕ → List ℕ → Type 0
IsReady edge actions taken ks = (a b : ℕ) → is_in ks a ≡ true → is_in actions b ≡ true → edge a b ≡ true → (is_in ks b ≡ true) ⊎ (is_in taken b ≡ true)

-- the component that is taken next: it was not taken, all its targets were, and none with a lesser name is so
pub record IsNext (edge : ℕ → ℕ → Bool) (actions taken : List ℕ) (name : ℕ) (ks : List ℕ) : Type 0 where
  pub component : IsComponent edge actions (name ∷ ks)
  pub new : is_in taken name ≡ false
  pub ready : IsReady edge actions taken (name ∷ ks)
  pub least : (other : ℕ) (ls : List ℕ) → other < name → IsComponent edge actions (other ∷ ls) → is_in taken other ≡ false → IsReady edge actions taken (other ∷ ls) → ⊥

-- the components in order, after the actions that were taken: again and again the next one, until all are taken
abbrev pub IsListed : (ℕ → ℕ → Bool) → List ℕ → List ℕ → List (List ℕ) → Type 0
IsListed edge actions taken [] = (a : ℕ) → is_in actions a ≡ true → is_in taken a ≡ true
IsListed edge actions taken ([] ∷ rest) = ⊥
IsListed edge actions taken ((name ∷ ks) ∷ rest) = IsNext edge actions taken name ks × IsListed edge actions (taken ++ name ∷ ks) rest

-- the published order of a task under known clauses, as its list of components
abbrev pub IsPublished : Task → List (ℕ × ℕ) → List (List ℕ) → Type 0
IsPublished task clauses components = IsListed (has_edge task clauses) (action_numbers task) [] components

-- the actions of an order, component after component
abbrev pub order_of : List (List ℕ) → List ℕ
order_of components = flat_map (λ ks. ks) components

-- the order has every action of the task exactly once
pub record HasEachOnce (task : Task) (components : List (List ℕ)) : Type 0 where
  pub has : (a : ℕ) → a < length task.actions → is_in (order_of components) a ≡ true
  pub only : (a : ℕ) → is_in (order_of components) a ≡ true → a < length task.actions
  pub once : Pairwise (λ a b. (a == b) ≡ false) (order_of components)
  pub long : length (order_of components) ≡ length task.actions

-- where an action disables a later one of another component, the two may not share a step
abbrev pub KeepsApart : Task → List (ℕ × ℕ) → List (List ℕ) → Type 0
KeepsApart task clauses components =
    Pairwise (λ ks ls. AllByRecursion (λ a. AllByRecursion (λ b. disables task a b ≡ true → together task clauses a b ≡ false) ls) ks) components
