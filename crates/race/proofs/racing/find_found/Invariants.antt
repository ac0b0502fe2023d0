use Rattle.std.proofs.Common.{◌≡◌, drop, map}
use Rattle.race.specs.Found.{first_found}
use Rattle.race.specs.Runs.{live_run_of, AreUnfound}
use Rattle.race.proofs.racing.find_found.Given as goal

abbrev pub invariant-loop-place : goal.invariant-loop-place
invariant-loop-place l = record {
  rest : first_found (map live_run_of l.runs) ≡ first_found (map live_run_of (drop l.place l.runs));
  unfound : AreUnfound (drop l.place l.runs) → AreUnfound l.runs;
}
