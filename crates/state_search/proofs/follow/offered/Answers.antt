use Rattle.std.proofs.Common.{◌∙◌, ap, sym, length}
use Rattle.state_search.proofs.WalkLaw.{row_width}
use Rattle.state_search.proofs.follow.offered.Goals as goal

pub copy-requires : goal.copy-requires
copy-requires c = c.requires.before ∙ sym (row_width c.args.task.now c.args.store.now c.row.result.now c.requires.walk c.row.ensures.packed)

pub propose-requires-clause-after : goal.propose-requires-clause-after
propose-requires-clause-after c =
    c.requires.after ∙ sym (ap length (c.deref.ensures.value ∙ c.copy.ensures) ∙ row_width c.args.task.now c.args.store.now c.row.result.now c.requires.walk c.row.ensures.packed)

pub returns-clause-before : goal.returns-clause-before
returns-clause-before c = ap length c.copy.ensures ∙ row_width c.args.task.now c.args.store.now c.row.result.now c.requires.walk c.row.ensures.packed ∙ sym c.requires.before
