use Rattle.std.proofs.lemmas.List.{take_all}
use Rattle.pd_words.proofs.types.parent_numbers.Goals as goal

pub returns-clause-numbers : goal.returns-clause-numbers
returns-clause-numbers c = rw (take_all c.loop-parent.parent-index c.args.parents.now c.loop-parent-test.false) at c.loop-parent.invariant
