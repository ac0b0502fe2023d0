use Rattle.std.proofs.Common.{◌≡◌, drop}
use Rattle.std.specs.List.{list_any}
use Rattle.gt_core.specs.Literal.{opposite, is_in}
use Rattle.never_check.proofs.after.has_opposite.Given as goal

abbrev pub invariant-loop-lit : goal.invariant-loop-lit
invariant-loop-lit l = list_any (λ m. is_in l.trail.literals (opposite m)) (drop l.lit-index l.lits) ≡ list_any (λ m. is_in l.trail.literals (opposite m)) l.lits
