use Rattle.std.proofs.Common.{◌≡◌, ◌≤◌, length, drop}
use Rattle.state_store.specs.Packed.{number_of}
use Rattle.state_store.proofs.pack.number_of.Given as goal

-- the number is that of the truth values that were read
abbrev pub invariant-loop-left : goal.invariant-loop-left
invariant-loop-left l = record { within : l.left ≤ length l.values; is : l.number ≡ number_of (drop l.left l.values) }

abbrev pub decreases-loop-left : goal.decreases-loop-left
decreases-loop-left l = l.left
