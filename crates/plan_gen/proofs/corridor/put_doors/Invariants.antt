use Rattle.std.proofs.Common.{◌≡◌, ◌++◌}
use Rattle.plan_gen.specs.Corridor.{doors}
use Rattle.plan_gen.proofs.corridor.put_doors.Given as goal

abbrev pub invariant-loop-room : goal.invariant-loop-room
invariant-loop-room l = l.text.items ≡ l.initial.text.items ++ doors l.room
