use Rattle.std.proofs.Common.{◌≡◌, drop}
use Rattle.pd_sexp.specs.View.{view, views}
use Rattle.pd_task.specs.Effects.{all_literals}
use Rattle.pd_task.specs.own.Scope.{site_of}
use Rattle.pd_task.proofs.Sizes.{tree_size}
use Rattle.pd_task.proofs.effects.+read_literals.Given as goal

abbrev pub invariant-loop-item : goal.invariant-loop-item
invariant-loop-item l =
    (l.into.under ≡ l.fn.into.under)
    × (all_literals (site_of l.vocabulary l.scope l.fn.into.under.cond) l.into.effects (views (drop l.item-index l.item-items))
    ≡ all_literals (site_of l.vocabulary l.scope l.fn.into.under.cond) l.fn.into.effects (views l.item-items))

abbrev pub decreases-read_literals : goal.decreases-read_literals
decreases-read_literals l = tree_size (view l.tree.now)
