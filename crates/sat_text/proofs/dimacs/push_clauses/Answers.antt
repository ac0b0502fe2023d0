use Rattle.std.proofs.Common.{arith, ◌∙◌}
use Rattle.sat_text.proofs.DimacsLines.{lines_more}
use Rattle.sat_text.proofs.dimacs.push_clauses.Goals as goal

pub loop-next-preserved : goal.loop-next-preserved
loop-next-preserved c = record {
  within = omega arith;
  before = omega arith;
  some = λ _. c.in_ok-push_clause.ensures.some;
  lines =
      c.loop-next.invariant.lines
      ∙ lines_more c.args.formula.now.clauses c.loop-next.next c.clause.result c.loop-next.text.items c.push_clause.new.text.items (omega arith) c.clause.ensures.value c.in_ok-push_clause.ensures.line;
}
