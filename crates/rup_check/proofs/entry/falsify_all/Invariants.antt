use Rattle.std.proofs.Common.{◌≡◌, fold, length}
use Rattle.containers.specs.Rising.{put}
use Rattle.clause_base.specs.Clause.{HasVariablesBelow}
use Rattle.rup_check.proofs.entry.falsify_all.Given as goal

abbrev pub invariant-loop-lit : goal.invariant-loop-lit
invariant-loop-lit l = record {
  rest : fold put l.initial.marks.falsified l.clause ≡ fold put l.marks.falsified l.left;
  below : HasVariablesBelow l.initial.marks.variables l.left;
  variables : l.marks.variables ≡ l.initial.marks.variables;
}

abbrev pub decreases-loop-lit : goal.decreases-loop-lit
decreases-loop-lit l = length l.left
