-- A tree's view, by its variant.
use Rattle.std.proofs.Common.{◌≡◌, ℕ, List, ap, sym, ◌∙◌}
use Rattle.pd_sexp.specs.Tree as defs
use Rattle.pd_sexp.specs.declared.tree.Tree.TheFolds.{fold-roll-Tree, fold_out-Trees}
use Rattle.pd_sexp.specs.declared.tree.Tree.TheOpen.{Tree-F}
use Rattle.pd_sexp.specs.declared.tree.Tree.TheVariants as tree
use Rattle.pd_sexp.specs.declared.tree.Trees.{Trees}
use Rattle.pd_sexp.specs.View.{view, views, view_step, views_step}

pub view-List : (at : ℕ) (items : Trees) → view (tree.List at items) ≡ defs.list at (views items.items.items)
view-List at items = ap view (sym (tree.rolls-List at items)) ∙ fold-roll-Tree defs.Tree defs.Trees view_step views_step (Tree-F.List at items)
    ∙ ap (defs.list at) (fold_out-Trees defs.Tree defs.Trees view_step views_step items)

pub view-Word : (at : ℕ) (text : List ℕ) → view (tree.Word at text) ≡ defs.word at text
view-Word at text = ap view (sym (tree.rolls-Word at text)) ∙ fold-roll-Tree defs.Tree defs.Trees view_step views_step (Tree-F.Word at text)

pub ruleset by_variant = (view-List, view-Word)
