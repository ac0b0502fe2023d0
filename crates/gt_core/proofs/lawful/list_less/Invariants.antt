use Rattle.std.proofs.Common.{◌≡◌, ◌≤◌, length, drop}
use Rattle.gt_core.specs.Lawful.{list_less}
use Rattle.gt_core.proofs.lawful.list_less.Given as goal

abbrev pub invariant-loop-i : goal.invariant-loop-i
invariant-loop-i l = (l.i ≤ length l.second) × (list_less l.first l.second ≡ list_less (drop l.i l.first) (drop l.i l.second))
