use Rattle.horizon_run.proofs.held.take.Given as goal

abbrev pub ghost-of : goal.ghost-of
ghost-of g a = g.run
