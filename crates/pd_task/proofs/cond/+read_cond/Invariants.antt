use Rattle.std.proofs.Common.{◌≡◌, drop}
use Rattle.pd_sexp.specs.View.{view, views}
use Rattle.pd_task.specs.Atoms.{conditions}
use Rattle.pd_task.specs.own.Scope.{names_with}
use Rattle.pd_task.proofs.Sizes.{tree_size}
use Rattle.pd_task.proofs.cond.+read_cond.Given as goal

abbrev pub invariant-loop-item : goal.invariant-loop-item
invariant-loop-item l =
    conditions (names_with l.vocabulary l.scope.levels) l.into.items (views (drop l.item-index l.item-items))
    ≡ conditions (names_with l.vocabulary l.scope.levels) l.fn.into.items (views l.item-items)

abbrev pub decreases-read_cond : goal.decreases-read_cond
decreases-read_cond l = tree_size (view l.tree.now)
