use Rattle.std.proofs.Common.{◌≡◌, ◌++◌, map}
use Rattle.futures.specs.declared.future.made.maybe_done.MaybeDone.TheVariants.{Done}
use Rattle.poll_run.proofs.in_turns.take_all.Given as goal

abbrev pub invariant-loop-slot : goal.invariant-loop-slot
invariant-loop-slot g l = record {
  whole : l.yielded ++ l.slot-iterator.rest.items ≡ l.fn.slots.items;
  ends : l.yielded ≡ map Done l.ends.items;
}
