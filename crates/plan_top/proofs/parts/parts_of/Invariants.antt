use Rattle.std.proofs.Common.{take}
use Rattle.plan_top.specs.own.Parts.{IsFirst, HasWords, ArePrepared}
use Rattle.plan_top.proofs.parts.parts_of.Given as goal

abbrev pub invariant-loop-problem : goal.invariant-loop-problem
invariant-loop-problem g l = record {
  first : IsFirst l.domain l.first;
  words : HasWords l.first;
  prepared : ArePrepared l.domain (take l.problem-index l.problems) l.all.ended.items l.all.runs.items;
}
