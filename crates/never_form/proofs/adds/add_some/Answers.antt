use Rattle.std.proofs.Common.{◌/◌, ◌<◌, ℕ, subst, sym}
use Rattle.std.specs.List.{AllByRecursion}
use Rattle.never_form.proofs.Below.{some_turn, some_end, some_below}
use Rattle.never_form.proofs.adds.add_some.Goals as goal

pub loop-k-preserved : goal.loop-k-preserved
loop-k-preserved c = some_turn c.args.first c.args.count c.loop-k.k c.loop-k.lits.items c.push.new.self.items c.loop-k-test.true c.loop-k.invariant c.in_ok-push.ensures.items

pub add-requires-clause-below : goal.add-requires-clause-below
add-requires-clause-below c =
    subst (AllByRecursion (λ (l : ℕ). l / 2 < c.args.formula.now.variables)) (sym (some_end c.args.first c.args.count c.loop-k.k c.loop-k.lits.items c.deref.result.now c.loop-k-test.false c.loop-k.invariant c.deref.ensures.value))
    (some_below c.args.first c.args.count c.args.formula.now.variables c.requires.below)
