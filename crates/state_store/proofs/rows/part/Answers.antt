use Rattle.std.proofs.Common.{arith}
use Rattle.state_store.proofs.RowsLaw.{row_within}
use Rattle.state_store.proofs.rows.part.Goals as goal

pub overflow_mul-from : goal.overflow_mul-from
overflow_mul-from c =
    let within = row_within c.args.width c.args.count c.args.number c.requires.number in
    omega (arith, within, c.requires.long)

pub overflow_add-result : goal.overflow_add-result
overflow_add-result c =
    let within = row_within c.args.width c.args.count c.args.number c.requires.number in
    omega (arith, within, c.requires.long)
