use Rattle.std.proofs.Common.{◌≡◌, drop}
use Rattle.gt_core.specs.Lawful.{are_rising}
use Rattle.gt_core.proofs.lawful.are_rising.Given as goal

abbrev pub invariant-loop-lit : goal.invariant-loop-lit
invariant-loop-lit l = are_rising l.top 0 l.lits ≡ are_rising l.top l.low (drop l.lit-index l.lits)
