use Rattle.std.proofs.Common.{◌≡◌, length}
use Rattle.bit_sets.specs.Marks.{Covers}
use Rattle.bit_sets.proofs.marks.Marks.clear.Given as goal

abbrev pub invariant-loop-touched : goal.invariant-loop-touched
invariant-loop-touched l = record {
  covers : Covers l.self-inside.touched.items l.self-inside.on.items;
  size : length l.self-inside.on.items ≡ length l.initial.self-inside.on.items;
}

abbrev pub decreases-loop-touched : goal.decreases-loop-touched
decreases-loop-touched l = length l.self-inside.touched.items
