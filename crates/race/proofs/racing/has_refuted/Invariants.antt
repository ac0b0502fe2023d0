use Rattle.std.proofs.Common.{◌≡◌, drop, map}
use Rattle.race.specs.Clears.{any_refuted}
use Rattle.race.specs.Runs.{live_run_of}
use Rattle.race.proofs.racing.has_refuted.Given as goal

abbrev pub invariant-loop-run : goal.invariant-loop-run
invariant-loop-run l = any_refuted (map live_run_of l.runs) ≡ any_refuted (map live_run_of (drop l.run-index l.runs))
