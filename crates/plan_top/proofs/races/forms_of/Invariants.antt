use Rattle.std.proofs.Common.{take}
use Rattle.std.specs.List.{AllZip}
use Rattle.plan_top.specs.own.Parts.{IsFormOf}
use Rattle.plan_top.proofs.races.forms_of.Given as goal

abbrev pub invariant-loop-run : goal.invariant-loop-run
invariant-loop-run l = AllZip IsFormOf (take l.run-index l.runs) l.forms.items
