use Rattle.std.proofs.Common.{◌≡◌, take, drop}
use Rattle.cdcl_defs.specs.State.{decision_count}
use Rattle.conflict_analysis.proofs.Levels.{greatest_from}
use Rattle.conflict_analysis.proofs.backjump.backjump_level.Given as goal

-- the greatest level so far is that of the first entries
abbrev pub invariant-loop-lit : goal.invariant-loop-lit
invariant-loop-lit l = greatest_from l.trail.entries 0 l.lits ≡ greatest_from l.trail.entries (decision_count (take l.length l.trail.entries)) (drop l.lit-index l.lits)
