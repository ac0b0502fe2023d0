use Rattle.std.proofs.Common.{◌≡◌, drop}
use Rattle.pd_model.specs.Plan.{verdict, verdict_from}
use Rattle.pd_model.proofs.pddl.Pddl.run_plan.Given as goal

abbrev pub invariant-loop-i : goal.invariant-loop-i
invariant-loop-i l = verdict_from l.self l.i l.state (drop l.i l.calls) ≡ verdict l.self l.calls
