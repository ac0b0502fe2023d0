-- The tree that a `Tree` stands for.
use Rattle.std.specs.Prelude.{List, map}
use Rattle.pd_sexp.specs.Tree as defs
use Rattle.pd_sexp.specs.declared.tree.Tree.{Tree, fold-Tree}
use Rattle.pd_sexp.specs.declared.tree.Tree.TheOpen.{Tree-F, Trees-F}

-- the tree of one node, whose items have theirs
abbrev pub view_step : Tree-F defs.Tree defs.Trees → defs.Tree
view_step (Tree-F.Word at text) = defs.word at text
view_step (Tree-F.List at items) = defs.list at items

-- the trees of the items of a node
abbrev pub views_step : Trees-F defs.Tree defs.Trees → defs.Trees
views_step trees = defs.trees_of trees.items.items

-- the tree that a value of the program stands for
abbrev pub view : Tree → defs.Tree
view = fold-Tree defs.Tree defs.Trees view_step views_step

-- the trees that a list of them stands for
abbrev pub views : List Tree → defs.Trees
views trees = defs.trees_of (map view trees)
