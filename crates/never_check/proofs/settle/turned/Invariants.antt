use Rattle.std.proofs.Common.{◌≡◌, ◌++◌, map, drop}
use Rattle.gt_core.specs.Literal.{opposite}
use Rattle.never_check.proofs.settle.turned.Given as goal

abbrev pub invariant-loop-lit : goal.invariant-loop-lit
invariant-loop-lit l = l.list.items ++ map opposite (drop l.lit-index l.lits) ≡ map opposite l.lits
