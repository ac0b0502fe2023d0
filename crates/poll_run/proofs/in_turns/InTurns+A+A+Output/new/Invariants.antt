use Rattle.std.proofs.Common.{◌≡◌, ◌++◌, map}
use Rattle.futures.specs.declared.future.made.maybe_done.MaybeDone.TheVariants.{Future}
use Rattle.poll_run.proofs.in_turns.InTurns+A+A+Output.new.Given as goal

abbrev pub invariant-loop-future : goal.invariant-loop-future
invariant-loop-future g l = record {
  whole : l.yielded ++ l.future-iterator.rest.items ≡ l.fn.futures.items;
  slots : l.slots.items ≡ map Future l.yielded;
}
