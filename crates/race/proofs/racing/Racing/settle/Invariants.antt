use Rattle.race.proofs.racing.Racing.settle.Given as goal

abbrev pub ghost-finish : goal.ghost-finish
ghost-finish g a = g.input
