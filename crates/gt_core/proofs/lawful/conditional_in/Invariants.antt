use Rattle.std.proofs.Common.{◌≡◌, ◌+◌, drop}
use Rattle.gt_core.specs.Lawful.{conditional_in}
use Rattle.gt_core.proofs.lawful.conditional_in.Given as goal

abbrev pub invariant-loop-act : goal.invariant-loop-act
invariant-loop-act l = l.count + conditional_in (drop l.act-index l.acts) ≡ conditional_in l.acts
