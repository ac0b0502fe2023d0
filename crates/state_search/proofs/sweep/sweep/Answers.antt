use Rattle.std.proofs.Common.{◌∙◌, ap, sym, length}
use Rattle.state_search.proofs.WalkLaw.{row_width}
use Rattle.state_search.proofs.sweep.sweep.Goals as goal

pub copy-requires : goal.copy-requires
copy-requires c = c.requires.before ∙ sym (row_width c.args.task.now c.args.store.now c.row.result.now c.requires.closing.walk c.row.ensures.packed)

pub sweep_part-requires-clause-after : goal.sweep_part-requires-clause-after
sweep_part-requires-clause-after c = c.requires.after ∙ sym (ap length (c.deref.ensures.value ∙ c.copy.ensures) ∙ row_width c.args.task.now c.args.store.now c.row.result.now c.requires.closing.walk c.row.ensures.packed)

pub sweep_nodes-requires-clause-after : goal.sweep_nodes-requires-clause-after
sweep_nodes-requires-clause-after c = c.in-Closed.ensures.after ∙ c.requires.after ∙ sym (ap length (c.deref-in-Closed.ensures.value ∙ c.copy.ensures) ∙ row_width c.args.task.now c.args.store.now c.row.result.now c.requires.closing.walk c.row.ensures.packed)

pub returns-in-Closed-clause-before : goal.returns-in-Closed-clause-before
returns-in-Closed-clause-before c = ap length c.copy.ensures ∙ row_width c.args.task.now c.args.store.now c.row.result.now c.requires.closing.walk c.row.ensures.packed ∙ sym c.requires.before

pub returns-in-Goal-clause-before : goal.returns-in-Goal-clause-before
returns-in-Goal-clause-before c = ap length c.copy.ensures ∙ row_width c.args.task.now c.args.store.now c.row.result.now c.requires.closing.walk c.row.ensures.packed ∙ sym c.requires.before

pub returns-in-Full-clause-before : goal.returns-in-Full-clause-before
returns-in-Full-clause-before c = ap length c.copy.ensures ∙ row_width c.args.task.now c.args.store.now c.row.result.now c.requires.closing.walk c.row.ensures.packed ∙ sym c.requires.before
