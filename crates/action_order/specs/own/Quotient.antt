use Rattle.std.specs.Prelude.{◌≡◌, ℕ, ◌<◌, ◌≤◌, ◌==◌, ◌&&◌, List, true, not, nat_lt, length}
use Rattle.action_order.specs.own.Graph.{leads, item, class_at}

-- Components lead to vertices: a component leads to each vertex outside it to which one of its own has an edge.

-- a vertex of a component has an edge to a vertex
pub record Crosses (targets : List (List ℕ)) (classes : List ℕ) (c b : ℕ) : Type 0 where
  pub source : ℕ
  pub source_below : source < length targets
  pub source_class : class_at classes source ≡ c
  pub edge : leads targets source b ≡ true

-- the rows of the vertices from a number on went into the row of their component
pub record AreUnited (targets : List (List ℕ)) (classes : List ℕ) (count from : ℕ) (rows : List (List ℕ)) : Type 0 where
  pub long : length rows ≡ count
  pub sound : (c b : ℕ) → leads rows c b ≡ true → Crosses targets classes c b
  pub complete : (a b : ℕ) → from ≤ a → a < length targets → leads targets a b ≡ true → leads rows (class_at classes a) b ≡ true

-- the vertices below a number were taken out of the row of their component
pub record IsWithoutOwn (classes : List ℕ) (upto : ℕ) (before after : List (List ℕ)) : Type 0 where
  pub long : length after ≡ length before
  pub tells : (c b : ℕ) → leads after c b ≡ (leads before c b && not (nat_lt b upto && (class_at classes b == c)))

-- the graph of the components
pub record IsQuotient (targets : List (List ℕ)) (classes : List ℕ) (count : ℕ) (rows : List (List ℕ)) : Type 0 where
  pub long : length rows ≡ count
  pub sound : (c b : ℕ) → leads rows c b ≡ true → Crosses targets classes c b × (class_at classes b ≡ c → ⊥)
  pub complete : (a b : ℕ) → a < length targets → leads targets a b ≡ true → (class_at classes b ≡ class_at classes a → ⊥) → leads rows (class_at classes a) b ≡ true

-- the least vertex of each component
pub record AreNames (classes : List ℕ) (count upto : ℕ) (names : List ℕ) : Type 0 where
  pub long : length names ≡ count
  pub member : (c : ℕ) → c < count → (item names c < length classes) × (class_at classes (item names c) ≡ c)
  pub least : (a : ℕ) → a < upto → item names (class_at classes a) ≤ a
