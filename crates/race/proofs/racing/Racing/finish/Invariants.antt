use Rattle.std.proofs.Common.{◌≡◌, ◌++◌, map}
use Rattle.std.specs.List.{AllByRecursion}
use Rattle.race.specs.Found.{lines, open_line}
use Rattle.race.specs.Lines.{AreLines}
use Rattle.race.specs.Runs.{live_run_of, IsRunOf}
use Rattle.race.specs.Tied.{race_state}
use Rattle.race_outcome.specs.Ends.{line_view}
use Rattle.race.proofs.racing.Racing.finish.Given as goal

abbrev pub ghost-open : goal.ghost-open
ghost-open g a = g.input

abbrev pub invariant-loop-run : goal.invariant-loop-run
invariant-loop-run g l = record {
  told : map line_view l.lines.items ++ map open_line (map live_run_of l.run-iterator.rest.items) ≡ lines (race_state l.fn.self);
  lines : AreLines g.input l.lines.items;
  runs : AllByRecursion (IsRunOf g.input) l.run-iterator.rest.items;
}
