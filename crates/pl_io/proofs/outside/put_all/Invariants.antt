use Rattle.std.proofs.Common.{length, [], ◌-◌, ◌≡◌, ◌≤◌, take}
use Rattle.pl_io.specs.Outside.{appended}
use Rattle.pl_io.proofs.outside.put_all.Given as goal

abbrev pub invariant-loop-done : goal.invariant-loop-done
invariant-loop-done g l =
    (l.done ≤ length l.text)
    × (g.K.Sink.taken l.sink ≡ appended (g.K.Sink.taken l.initial.sink) (take l.done l.text))
    × (g.K.Sink.faults l.initial.sink ≤ g.K.Sink.faults l.sink)
    × (l.text ≡ [] → l.sink ≡ l.initial.sink)

abbrev pub decreases-loop-done : goal.decreases-loop-done
decreases-loop-done g l = length l.text - l.done
