use Rattle.std.proofs.Common.{◌∙◌, sym, arith}
use Rattle.lrat_judge.proofs.Counted.{empty_here, empty_past}
use Rattle.lrat_judge.proofs.judge.has_empty.Goals as goal

pub returns-then-len-eq0 : goal.returns-then-len-eq0
returns-then-len-eq0 c = empty_here c.args.formula.now.clauses c.loop-number.number c.clause.result c.clause.ensures.value (omega (arith, c.len.ensures, c.if-len-eq0.true)) ∙ sym c.loop-number.invariant

pub loop-number-preserved : goal.loop-number-preserved
loop-number-preserved c = c.loop-number.invariant ∙ empty_past c.args.formula.now.clauses c.loop-number.number c.clause.result c.clause.ensures.value (λ none. omega (arith, c.len.ensures, none, c.if-len-eq0.false))
