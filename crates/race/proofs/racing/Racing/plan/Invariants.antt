use Rattle.race.proofs.racing.Racing.plan.Given as goal

abbrev pub ghost-finish : goal.ghost-finish
ghost-finish g a = g.input
