use Rattle.std.proofs.Common.{◌≡◌, ◌==◌, ◌++◌, map, drop}
use Rattle.std.specs.List.{filter}
use Rattle.gt_core.specs.Literal.{opposite}
use Rattle.never_defs.specs.Cases.{none_makes}
use Rattle.never_check.proofs.settle.none_makes.Given as goal

abbrev pub invariant-loop-effect : goal.invariant-loop-effect
invariant-loop-effect l = l.clauses ++ map (map opposite) (map (λ e. e.condition) (filter (λ e. e.literal == l.lit) (drop l.effect-index l.effect-items))) ≡ none_makes l.act l.lit
