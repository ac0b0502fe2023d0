use Rattle.never_text.proofs.SortedAgain.{sorted_read}
use Rattle.never_text.proofs.WrittenBack.{written_read}
use Rattle.never_text.proofs.laws.laws.Goals as goal

pub returns-clause-written : goal.returns-clause-written
returns-clause-written c = λ facts forward clauses few is. written_read facts few forward clauses is

pub returns-clause-sorted : goal.returns-clause-sorted
returns-clause-sorted c = sorted_read
