use Rattle.std.proofs.Common.{◌≡◌, ◌+◌, length}
use Rattle.pl_io.specs.Outside.{Took}
use Rattle.pl_io.proofs.file_shelf.read_front.Given as goal

-- what was read was appended, and counted off from what may still be kept
abbrev pub invariant-loop : goal.invariant-loop
invariant-loop g l =
    Took l.fn.into.items l.into.items
    × (length l.into.items + l.left ≡ length l.fn.into.items + l.fn.most)
