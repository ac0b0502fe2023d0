use Rattle.std.proofs.Common.{drop}
use Rattle.std.specs.List.{AllByRecursion}
use Rattle.futures.specs.Joined.{IsDone}
use Rattle.poll_run.proofs.in_turns.are_done.Given as goal

abbrev pub invariant-loop-slot : goal.invariant-loop-slot
invariant-loop-slot g l = AllByRecursion IsDone (drop l.slot-index l.slots) → AllByRecursion IsDone l.slots
