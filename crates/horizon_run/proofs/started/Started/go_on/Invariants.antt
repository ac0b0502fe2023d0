use Rattle.horizon_run.specs.own.Held.{run_in}
use Rattle.horizon_run.proofs.started.Started.go_on.Given as goal

abbrev pub ghost-take : goal.ghost-take
ghost-take a = run_in a.held.now
