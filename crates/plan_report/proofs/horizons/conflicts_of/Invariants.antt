use Rattle.std.proofs.Common.{◌≡◌, ◌+◌, map, drop}
use Rattle.race_outcome.specs.Ends.{line_view, conflicts_in}
use Rattle.plan_report.proofs.horizons.conflicts_of.Given as goal

abbrev pub invariant-loop-line : goal.invariant-loop-line
invariant-loop-line l = l.sum + conflicts_in (map line_view (drop l.line-index l.lines)) ≡ conflicts_in (map line_view l.lines)
