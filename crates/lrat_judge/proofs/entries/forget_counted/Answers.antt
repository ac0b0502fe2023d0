use Rattle.std.proofs.Common.{◌∙◌, sym, arith}
use Rattle.clause_base.specs.declared.log.Entry.TheVariants.{Drop}
use Rattle.lrat_judge.proofs.Entering.{enters_not, enters_so, one_more}
use Rattle.lrat_judge.proofs.entries.forget_counted.Goals as goal

pub returns-then-not-forget-clause-exact : goal.returns-then-not-forget-clause-exact
returns-then-not-forget-clause-exact c log taken count =
    enters_not _ _ c.args.checker.now.formula log (Drop c.args.number) (sym c.if-not-forget.true ∙ c.forget.ensures.answer log taken)

pub returns-clause-exact : goal.returns-clause-exact
returns-clause-exact c log taken count =
    let more = one_more c.args.entries.now log (Drop c.args.number) count in
    enters_so _ _ c.args.checker.now.formula log (Drop c.args.number) (sym c.if-not-forget.false ∙ c.forget.ensures.answer log taken) (c.forget.ensures.taken log taken c.if-not-forget.false) (omega (arith, more))
