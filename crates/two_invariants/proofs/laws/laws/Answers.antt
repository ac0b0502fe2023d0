use Rattle.two_invariants.proofs.Truth.{invariants_hold}
use Rattle.two_invariants.proofs.OneList.{one_list}
use Rattle.two_invariants.proofs.laws.laws.Goals as goal

pub returns-clause-hold : goal.returns-clause-hold
returns-clause-hold c = invariants_hold

pub returns-clause-one_set : goal.returns-clause-one_set
returns-clause-one_set c = one_list
