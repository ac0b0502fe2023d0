-- Items of lists.
use Rattle.std.proofs.Common.{◌≡◌, suc, List, [], ◌∷◌, length, refl, ap}
use Rattle.pd_sexp.specs.declared.tree.Tree.{Tree}
use Rattle.pd_sexp.specs.View.{views}
use Rattle.pd_task.specs.Atoms.{count}

pub count_views : (trees : List Tree) → count (views trees) ≡ length trees
count_views [] = refl
count_views (t ∷ ts) = ap suc (count_views ts)
