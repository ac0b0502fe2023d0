use Rattle.std.proofs.Common.{take}
use Rattle.std.specs.List.{AllZip}
use Rattle.plan_top.specs.own.Parts.{AnswersRun}
use Rattle.plan_top.proofs.batch.reports_of.Given as goal

abbrev pub invariant-loop-place : goal.invariant-loop-place
invariant-loop-place l = AllZip (AnswersRun l.settings) (take l.place l.runs) l.reports.items
