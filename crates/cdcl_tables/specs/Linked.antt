use Rattle.std.specs.Prelude.{◌≡◌, ℕ, ◌+◌, ◌<◌, ◌≤◌, ◌==◌, List, [], ◌∷◌, length, slice_index, slice_index_or, Bool, true, false, Option, Some, None, if◌then◌else◌}
use Rattle.std.specs.List.{list_any}
use Rattle.cdcl_tables.specs.declared.chains.Node.{Node}

-- a node past the end of a table
abbrev pub no_node : Node
no_node = record { next = 4294967295; blocking = 0 }

-- the number after a node, and its blocking literal
abbrev pub next_of : List Node → ℕ → ℕ
next_of nodes a = (slice_index_or nodes a no_node).next

-- the blocking literal of a node
abbrev pub blocking_of : List Node → ℕ → ℕ
blocking_of nodes a = (slice_index_or nodes a no_node).blocking

-- a number is in a list
abbrev pub has : List ℕ → ℕ → Bool
has xs x = list_any (λ y. x == y) xs

-- from a number on, these nodes follow one another to the end
abbrev pub IsChain : List Node → ℕ → List ℕ → Type 0
IsChain nodes a [] = a ≡ 4294967295
IsChain nodes a (x ∷ xs) = (a ≡ x) × (x < length nodes) × IsChain nodes (next_of nodes x) xs

-- no number stands twice
abbrev pub HasNoneTwice : List ℕ → Type 0
HasNoneTwice [] = Unit {0}
HasNoneTwice (x ∷ xs) = (has xs x ≡ false) × HasNoneTwice xs

-- each code's chain has exactly the nodes that are on this code
pub record IsLinked (heads : List ℕ) (nodes : List Node) (on : ℕ → Option ℕ) : Type 0 where
  pub chain : ℕ → List ℕ
  pub linked : (l : ℕ) → l < length heads → IsChain nodes (slice_index heads l) (chain l)
  pub once : (l : ℕ) → l < length heads → HasNoneTwice (chain l)
  pub only : (l k : ℕ) → l < length heads → has (chain l) k ≡ true → on k ≡ Some l
  pub whole : (l k : ℕ) → on k ≡ Some l → (l < length heads) × (has (chain l) k ≡ true)
  pub few : length nodes ≤ 4294967295

-- where the nodes are once one is put elsewhere
abbrev pub placed : ℕ → Option ℕ → (ℕ → Option ℕ) → ℕ → Option ℕ
placed node code on k = if k == node then code else on k

-- a node stands on no chain
pub record IsLoose (heads : List ℕ) (nodes : List Node) (node : ℕ) : Type 0 where
  pub on : ℕ → Option ℕ
  pub linked : IsLinked heads nodes on
  pub off : on node ≡ None

-- two nodes with successive numbers stand on no chain
pub record ArePairLoose (heads : List ℕ) (nodes : List Node) (node : ℕ) : Type 0 where
  pub on : ℕ → Option ℕ
  pub linked : IsLinked heads nodes on
  pub first : on node ≡ None
  pub second : on (node + 1) ≡ None
