use Rattle.race.proofs.racing.Racing.close_first.Given as goal

abbrev pub ghost-ended : goal.ghost-ended
ghost-ended g a = g.input
