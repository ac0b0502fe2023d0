use Rattle.std.proofs.Common.{◌∙◌, sym, ap, Ok, arith}
use Rattle.clause_base.specs.declared.log.Entry.TheVariants.{Learn}
use Rattle.lrat_judge.proofs.Entering.{enters_not, enters_so, one_more}
use Rattle.lrat_judge.proofs.entries.learn_counted.Goals as goal

pub returns-then-not-branch-clause-exact : goal.returns-then-not-branch-clause-exact
returns-then-not-branch-clause-exact c log taken count =
    enters_not _ _ c.args.checker.now.formula log (Learn c.args.clause.now c.args.hints.now) (sym c.if-not-branch.true ∙ c.in_ok-learn.ensures.answer log taken)

pub returns-clause-exact : goal.returns-clause-exact
returns-clause-exact c log taken count =
    let more = one_more c.args.entries.now log (Learn c.args.clause.now c.args.hints.now) count in
    enters_so _ _ c.args.checker.now.formula log (Learn c.args.clause.now c.args.hints.now) (sym c.if-not-branch.false ∙ c.in_ok-learn.ensures.answer log taken) (c.in_ok-learn.ensures.taken log taken (ap Ok c.if-not-branch.false)) (omega (arith, more))
