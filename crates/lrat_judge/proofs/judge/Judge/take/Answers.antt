use Rattle.std.proofs.Common.{◌∙◌, ◌++◌, sym}
use Rattle.lrat_judge.proofs.Counted.{unsatisfiable_once, refuted_at}
use Rattle.lrat_judge.proofs.Reading.{at_once}
use Rattle.lrat_judge.proofs.judge.Judge.take.Goals as goal

pub returns-then-is_refuted-clause-refuted : goal.returns-then-is_refuted-clause-refuted
returns-then-is_refuted-clause-refuted c entries e = unsatisfiable_once c.args.self.now.formula (sym c.is_refuted.ensures ∙ c.if-is_refuted.true)

pub returns-then-is_refuted-clause-entries : goal.returns-then-is_refuted-clause-entries
returns-then-is_refuted-clause-entries c entries e = refuted_at c.args.self.now.formula entries (sym c.is_refuted.ensures ∙ c.if-is_refuted.true) e

pub returns-then-is_refuted-clause-verdict : goal.returns-then-is_refuted-clause-verdict
returns-then-is_refuted-clause-verdict c text read ends more = at_once c.args.self.now.formula ((text ++ c.args.piece.now) ++ more) (sym c.is_refuted.ensures ∙ c.if-is_refuted.true)

pub returns-clause-verdict : goal.returns-clause-verdict
returns-clause-verdict c = c.take_lines.ensures.verdict
