use Rattle.std.proofs.Common.{◌≡◌, drop}
use Rattle.pd_sexp.specs.View.{view, views}
use Rattle.pd_task.specs.Effects.{all_effects}
use Rattle.pd_task.specs.own.Scope.{site_of}
use Rattle.pd_task.proofs.Sizes.{tree_size}
use Rattle.pd_task.proofs.effects.+read_effect.Given as goal

abbrev pub invariant-loop-item : goal.invariant-loop-item
invariant-loop-item l =
    (l.scope ≡ l.fn.scope)
    × (l.into.under ≡ l.fn.into.under)
    × (all_effects l.vocabulary.types.now (site_of l.vocabulary l.fn.scope l.fn.into.under.cond) l.into.effects (views (drop l.item-index l.item-items))
    ≡ all_effects l.vocabulary.types.now (site_of l.vocabulary l.fn.scope l.fn.into.under.cond) l.fn.into.effects (views l.item-items))

abbrev pub decreases-read_effect : goal.decreases-read_effect
decreases-read_effect l = tree_size (view l.tree.now)
