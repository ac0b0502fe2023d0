-- The size of a tree, by which a reader comes to its end.
use Rattle.std.proofs.Common.{arith, ◌≡◌, ℕ, zero, suc, ◌+◌, ◌<◌, ◌≤◌, List, [], ◌∷◌, length, get_or, Ok, ap}
use Rattle.pd_sexp.specs.Tree as defs
use Rattle.pd_sexp.specs.declared.tree.Tree.{Tree}
use Rattle.pd_sexp.specs.View.{view, views}
use Rattle.pd_words.specs.Standing.{Standing}
use Rattle.pd_task.specs.own.Scope.{opened}
use Rattle.pd_task.proofs.Foralls.{is_opened}

abbrev mutual
  pub tree_size : defs.Tree → ℕ
  tree_size (defs.word at text) = 1
  tree_size (defs.list at items) = suc (trees_size items)

  pub trees_size : defs.Trees → ℕ
  trees_size defs.no_trees = 0
  trees_size (defs.and_tree t ts) = tree_size t + trees_size ts

size_in : (trees : List Tree) (i : ℕ) (item : Tree) → i < length trees → item ≡ get_or trees i item → tree_size (view item) ≤ trees_size (views trees)
size_in [] i item lt is = absurd (omega arith)
size_in (t ∷ ts) zero item lt is = let same = ap (λ (x : Tree). tree_size (view x)) is in omega (arith, same)
size_in (t ∷ ts) (suc i) item lt is = let within = size_in ts i item (omega arith) is in omega (arith, within)

-- an item after the first is smaller than the list
pub item_smaller : (rest : List Tree) (i : ℕ) (item : Tree) (at : ℕ) (head tree : defs.Tree) → tree ≡ defs.list at (defs.and_tree head (views rest)) → i < length rest → item ≡ get_or rest i item
    → tree_size (view item) < tree_size tree
item_smaller rest i item at head tree is lt got =
    let within = size_in rest i item lt got in
    let whole = ap tree_size is in
    omega (arith, within, whole)

-- the effect under a `forall` is smaller than the list
pub body_smaller : (types : List (List ℕ)) (scope next : Standing) (at : ℕ) (head tree : defs.Tree) (items : defs.Trees) (body : defs.Tree) (more : defs.Trees)
    → tree ≡ defs.list at (defs.and_tree head items) → opened types scope at items ≡ Ok (next, body, more) → tree_size body < tree_size tree
body_smaller types scope next at head tree items body more is so =
    let o = is_opened types scope next at items body more so in
    let parts = ap trees_size o.parts in
    let whole = ap tree_size is in
    omega (arith, parts, whole)
