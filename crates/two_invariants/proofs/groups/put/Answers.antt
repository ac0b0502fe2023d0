use Rattle.std.proofs.Common.{ℕ, ◌<◌, List, sym, subst}
use Rattle.std.specs.List.{AllByRecursion}
use Rattle.gt_core.specs.Literal.{opposite}
use Rattle.two_invariants.specs.own.Groups.{GroupFits}
use Rattle.two_invariants.specs.declared.groups.Group.{Group}
use Rattle.two_invariants.proofs.Grouping.{all_push, one_fits}
use Rattle.two_invariants.proofs.groups.put.Goals as goal

pub returns-in_ok-add_at-in-Some-clause-fit : goal.returns-in_ok-add_at-in-Some-clause-fit
returns-in_ok-add_at-in-Some-clause-fit c = λ size fits all.
    c.in_ok-add_at-in-Some.ensures.fit size (subst (λ (k : ℕ). opposite k < size) (sym c.lit.ensures) fits.literal) all

pub returns-in_ok-push-in-None-clause-fit : goal.returns-in_ok-push-in-None-clause-fit
returns-in_ok-push-in-None-clause-fit c = λ size fits all.
    let g = c.in_ok-group_of-in-None.field-0 in
    let one = c.in_ok-group_of-in-None.ensures in
    subst (λ (gs : List Group). AllByRecursion (GroupFits size) gs) (sym c.in_ok-push-in-None.ensures.items)
    (all_push (GroupFits size) c.args.groups.now.items g all (one_fits size g c.args.effect.now fits one.condition one.literals one.opposites))
