use Rattle.std.proofs.Common.{◌≡◌, ◌≤◌, false}
use Rattle.cdcl_defs.specs.Run.{next, rests}
use Rattle.cdcl_defs.proofs.published.Cutting.{Reaches}
use Rattle.cdcl_defs.proofs.published.Fuel.{left}
use Rattle.cdcl_core.proofs.solver.Solver.run.Given as goal

abbrev pub invariant-loop-self : goal.invariant-loop-self
invariant-loop-self g l = record {
  reached : Reaches (next (g.C.Chooser.choice l.initial.self.chooser)) (rests (g.C.Chooser.choice l.initial.self.chooser)) l.limit l.initial.self.state l.self.state;
  chooser : l.self.chooser ≡ l.initial.self.chooser;
  formula : l.self.formula ≡ l.initial.self.formula;
  sane : l.self.spoilt ≡ false;
  within : l.self.state.conflicts ≤ l.limit;
}

abbrev pub decreases-loop-self : goal.decreases-loop-self
decreases-loop-self g l = left l.limit l.self.state
