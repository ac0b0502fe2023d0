use Rattle.std.proofs.Common.{arith}
use Rattle.proof_log.proofs.Lengths.{drop_counted, learn_counted}
use Rattle.proof_log.proofs.length.entry_length.Goals as goal

pub overflow_add-result : goal.overflow_add-result
overflow_add-result c = record { fits = omega (arith, c.digits.ensures.few) }

pub returns-in-Learn : goal.returns-in-Learn
returns-in-Learn c =
    rw c.in-Learn.is (learn_counted c.in-Learn.clause c.in-Learn.hints c.row_length.result c.row_length-in-Learn.result c.saturating_add.result c.saturating_add-in-Learn.result c.row_length.ensures c.row_length-in-Learn.ensures
    c.saturating_add.ensures c.saturating_add-in-Learn.ensures)

pub returns-in-Drop : goal.returns-in-Drop
returns-in-Drop c = rw c.in-Drop.is (drop_counted c.in-Drop.number c.digits.result c.digits.ensures.few c.digits.ensures.value)
