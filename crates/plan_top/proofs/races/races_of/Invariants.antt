use Rattle.std.proofs.Common.{take}
use Rattle.std.specs.List.{AllZip}
use Rattle.plan_top.specs.own.Parts.{IsRaceOf}
use Rattle.plan_top.proofs.races.races_of.Given as goal

abbrev pub invariant-loop-place : goal.invariant-loop-place
invariant-loop-place l = AllZip (IsRaceOf l.settings) (take l.place l.runs) l.races.items
