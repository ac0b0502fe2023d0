use Rattle.race.proofs.racing.Racing.open.Given as goal

abbrev pub ghost-used : goal.ghost-used
ghost-used g a = g.input

abbrev pub ghost-fill : goal.ghost-fill
ghost-fill g a = g.input

abbrev pub ghost-too_large : goal.ghost-too_large
ghost-too_large g a = g.input

abbrev pub ghost-grant : goal.ghost-grant
ghost-grant g a = g.input
