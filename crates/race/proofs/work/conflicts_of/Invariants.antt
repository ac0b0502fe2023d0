use Rattle.std.proofs.Common.{◌≡◌, ◌*◌, ◌≤◌, take}
use Rattle.race.specs.Runs.{conflicts_of}
use Rattle.race.proofs.work.conflicts_of.Given as goal

abbrev pub invariant-loop-run : goal.invariant-loop-run
invariant-loop-run l = (l.sum ≡ conflicts_of (take l.run-index l.runs)) × (l.sum ≤ 1073741824 * l.run-index)
