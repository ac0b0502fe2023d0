use Rattle.std.proofs.Common.{◌<◌, ◌*◌}
use Rattle.std.specs.List.{AllByRecursion}
use Rattle.never_search.proofs.set.make_opposites.Given as goal

abbrev pub invariant-loop-lit : goal.invariant-loop-lit
invariant-loop-lit l = AllByRecursion (λ m. m < 2 * l.facts) l.lits.items
