use Rattle.race.proofs.begun.Begun.judge.Given as goal

abbrev pub ghost-close : goal.ghost-close
ghost-close g a = g.input

abbrev pub ghost-judge : goal.ghost-judge
ghost-judge g a = g.input
