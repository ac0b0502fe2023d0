use Rattle.std.proofs.Common.{◌*◌}
use Rattle.never_check.specs.Verdicts.{AreCasesRefuted}
use Rattle.never_check.proofs.Grown.{when_false}
use Rattle.never_check.proofs.Turns.{number_fails, numbers_all}
use Rattle.never_check.proofs.forward.check_uses.Goals as goal

pub returns-then-not-branch-clause-told : goal.returns-then-not-branch-clause-told
returns-then-not-branch-clause-told c =
    let rules = c.args.trial.now.rules.now in
    number_fails (2 * rules.known.now.facts) rules.clauses.now rules.uses.now c.requires.assumed.trial.rules.uses c.args.lit c.requires.lit c.as_slice-number-items.result.now _ c.as_slice-number-items.ensures
    (AreCasesRefuted rules c.args.trial.now.act.now) c.loop-number.number-index c.loop-number-test.true (when_false c.in_ok-refute_pair.field-0 _ c.if-not-branch.true c.in_ok-refute_pair.ensures.told)

pub returns-clause-told : goal.returns-clause-told
returns-clause-told c =
    let rules = c.args.trial.now.rules.now in
    numbers_all (2 * rules.known.now.facts) rules.clauses.now rules.uses.now c.requires.assumed.trial.rules.uses c.args.lit c.requires.lit c.as_slice-number-items.result.now _ c.as_slice-number-items.ensures
    (AreCasesRefuted rules c.args.trial.now.act.now) c.loop-number.number-index c.loop-number-test.false c.loop-number.invariant.all
