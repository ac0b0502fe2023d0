use Rattle.std.proofs.Common.{◌≡◌, ◌+◌, ◌≤◌, drop}
use Rattle.gt_core.specs.Lawful.{conditional_in}
use Rattle.gt_core.proofs.lawful.has_few_conditional.Given as goal

abbrev pub invariant-loop-act : goal.invariant-loop-act
invariant-loop-act l = (l.left ≤ l.most) × (conditional_in l.acts + l.left ≡ l.most + conditional_in (drop l.act-index l.acts))
