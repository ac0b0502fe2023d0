use Rattle.std.proofs.Common.{◌≡◌, length}
use Rattle.clause_base.specs.Derivation.{leads_to_conflict}
use Rattle.rup_check.specs.own.Kept.{kept_named}
use Rattle.rup_check.proofs.entry.leads_to_conflict.Given as goal

abbrev pub invariant-loop-hint : goal.invariant-loop-hint
invariant-loop-hint l = record {
  answer : leads_to_conflict (kept_named l.formula.clauses l.kept.dropped.items l.kept.learned) l.marks.falsified l.left ≡ leads_to_conflict (kept_named l.formula.clauses l.kept.dropped.items l.kept.learned) l.initial.marks.falsified l.hints;
  variables : l.marks.variables ≡ l.initial.marks.variables;
}

abbrev pub decreases-loop-hint : goal.decreases-loop-hint
decreases-loop-hint l = length l.left
