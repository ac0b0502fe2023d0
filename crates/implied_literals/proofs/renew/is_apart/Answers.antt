use Rattle.bit_sets.specs.Rows.{row_has}
use Rattle.implied_literals.proofs.Renewing.{no_opposite}
use Rattle.implied_literals.proofs.renew.is_apart.Goals as goal

pub returns : goal.returns
returns c = no_opposite (row_has c.args.row.now) (row_has c.args.set.now) c.if-has_pair_across.ensures c.if-has_pair_across-2.ensures
