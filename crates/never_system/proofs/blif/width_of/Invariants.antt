use Rattle.std.proofs.Common.{◌≡◌, ◌-◌}
use Rattle.never_system.specs.Blif.{width_from}
use Rattle.never_system.proofs.blif.width_of.Given as goal

abbrev pub invariant-loop-width : goal.invariant-loop-width
invariant-loop-width l = width_from 14 0 l.count ≡ width_from (14 - l.width) l.width l.count
