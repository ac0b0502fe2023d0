use Rattle.std.proofs.Common.{◌≡◌, ◌++◌}
use Rattle.race.proofs.work.started_all.Given as goal

abbrev pub invariant-loop-run : goal.invariant-loop-run
invariant-loop-run l = record {
  whole : l.yielded ++ l.run-iterator.rest.items ≡ l.fn.runs.items;
  started : l.started.items ≡ l.yielded;
}
