use Rattle.race.proofs.racing.Racing.judge.Given as goal

abbrev pub ghost-plan : goal.ghost-plan
ghost-plan g a = g.input

abbrev pub ghost-close : goal.ghost-close
ghost-close g a = g.input

abbrev pub ghost-settle : goal.ghost-settle
ghost-settle g a = g.input
