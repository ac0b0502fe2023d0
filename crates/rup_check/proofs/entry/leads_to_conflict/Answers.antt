use Rattle.std.proofs.Common.{◌∙◌}
use Rattle.rup_check.specs.own.Kept.{kept_named}
use Rattle.rup_check.proofs.SameMembers.{forced_on}
use Rattle.rup_check.proofs.entry.leads_to_conflict.Goals as goal

pub loop-hint-preserved : goal.loop-hint-preserved
loop-hint-preserved c =
    let named = kept_named c.args.formula.now.clauses c.args.kept.now.dropped.items c.args.kept.now.learned in
    record {
      answer = forced_on named _ _ _ _ _ _ _ _ c.in-Some.ensures.some c.in-Some-clause.ensures c.in-Forces.ensures.effect c.opposite.ensures c.in_ok-falsify-in-Forces.ensures.falsified ∙ c.loop-hint.invariant.answer;
      variables = c.in_ok-falsify-in-Forces.ensures.variables ∙ c.loop-hint.invariant.variables;
    }
