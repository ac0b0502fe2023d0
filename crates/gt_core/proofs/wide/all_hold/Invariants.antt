use Rattle.std.proofs.Common.{◌≡◌, drop}
use Rattle.gt_core.specs.Literal.{all_hold, state_of}
use Rattle.gt_core.proofs.wide.all_hold.Given as goal

abbrev pub invariant-loop-lit : goal.invariant-loop-lit
invariant-loop-lit l = all_hold (state_of l.state) l.lits ≡ all_hold (state_of l.state) (drop l.lit-index l.lits)
