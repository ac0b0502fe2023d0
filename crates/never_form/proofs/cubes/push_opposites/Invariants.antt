use Rattle.std.proofs.Common.{◌≡◌, ◌++◌, drop, map}
use Rattle.gt_core.specs.Literal.{opposite}
use Rattle.never_form.proofs.cubes.push_opposites.Given as goal

abbrev pub invariant-loop-lit : goal.invariant-loop-lit
invariant-loop-lit l = l.initial.into.items ++ map opposite l.lits ≡ l.into.items ++ map opposite (drop l.lit-index l.lits)
