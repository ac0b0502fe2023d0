use Rattle.std.proofs.Common.{◌≡◌, drop}
use Rattle.std.specs.List.{list_all}
use Rattle.gt_core.specs.Literal.{is_in}
use Rattle.never_check.proofs.after.has_all.Given as goal

abbrev pub invariant-loop-lit : goal.invariant-loop-lit
invariant-loop-lit l = list_all (is_in l.trail.literals) (drop l.lit-index l.lits) ≡ list_all (is_in l.trail.literals) l.lits
