use Rattle.std.proofs.Common.{◌-◌}
use Rattle.propagation.proofs.known.+list_from.Given as goal

abbrev pub decreases-list_from : goal.decreases-list_from
decreases-list_from l = 4 - l.place
