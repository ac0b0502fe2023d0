-- A walk along a chain: it stands at a node, or at the end, and knows the node before it.
use Rattle.std.specs.Prelude.{◌≡◌, ℕ, zero, suc, ◌<◌, ◌==◌, List, [], ◌∷◌, ◌++◌, length, slice_index, true, Option, Some, if◌then◌else◌}
use Rattle.cdcl_tables.specs.declared.chains.Node.{Node}
use Rattle.cdcl_tables.specs.declared.chains.Place.{Place}
use Rattle.cdcl_tables.specs.Linked.{has, next_of, IsChain, IsLinked}

-- the first number of a list, or the end
abbrev pub first_of : List ℕ → ℕ
first_of [] = 4294967295
first_of (x ∷ xs) = x

-- the last number of a list, or a given one where it is empty
abbrev pub last_from : ℕ → List ℕ → ℕ
last_from a [] = a
last_from a (x ∷ xs) = last_from x xs

-- all these nodes are on the chain of a code
abbrev pub AreOn : (ℕ → Option ℕ) → ℕ → List ℕ → Type 0
AreOn on code [] = Unit {0}
AreOn on code (x ∷ xs) = (on x ≡ Some code) × AreOn on code xs

-- how many nodes come from a number on, counted up to a bound
abbrev pub steps : List Node → ℕ → ℕ → ℕ
steps nodes zero a = 0
steps nodes (suc n) a = if a == 4294967295 then 0 else suc (steps nodes n (next_of nodes a))

-- how many nodes are ahead of this one on its chain
unfoldable pub left_from : List Node → ℕ → ℕ
left_from nodes a = steps nodes (length nodes) a

-- A walk stands at a place of the chain of a code, and this is the rest of the chain. Of what is behind it only the last node is
-- known to the walk, so that the node at the place can be taken out.
pub record IsWalk (heads : List ℕ) (nodes : List Node) (on : ℕ → Option ℕ) (code : ℕ) (rest : List ℕ) (place : Place) : Type 0 where
  pub linked : IsLinked heads nodes on
  pub inside : code < length heads
  pub done : List ℕ
  pub chain : IsChain nodes (slice_index heads code) (done ++ rest)
  pub before : place.before ≡ last_from 4294967295 done
  pub node : place.node ≡ first_of rest
  pub left : left_from nodes place.node ≡ length rest
  pub ahead : AreOn on code rest

-- a walk stands at the beginning of a chain
pub record StandsAt (heads : List ℕ) (nodes : List Node) (on : ℕ → Option ℕ) (code : ℕ) (place : Place) : Type 0 where
  pub rest : List ℕ
  pub walk : IsWalk heads nodes on code rest place
  pub whole : (k : ℕ) → on k ≡ Some code → has rest k ≡ true
