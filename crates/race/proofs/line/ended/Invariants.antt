use Rattle.race.proofs.line.ended.Given as goal

abbrev pub ghost-refuted : goal.ghost-refuted
ghost-refuted g a = g.input
