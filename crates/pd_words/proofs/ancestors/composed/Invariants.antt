use Rattle.std.proofs.Common.{◌≡◌, take, map, slice_index}
use Rattle.pd_words.proofs.ancestors.composed.Given as goal

abbrev pub invariant-loop-i : goal.invariant-loop-i
invariant-loop-i l = l.numbers.items ≡ map (slice_index l.outer) (take l.i-index l.inner)
