use Rattle.never_form.proofs.Below.{of_below}
use Rattle.never_form.proofs.adds.add.Goals as goal

pub add-requires-clause-below : goal.add-requires-clause-below
add-requires-clause-below c = of_below _ _ _ _ c.in_ok-clause.ensures c.in-Some.is c.requires.below
