use Rattle.std.proofs.Common.{◌≡◌, drop}
use Rattle.search_top.specs.Hopeless.{hopeless_text}
use Rattle.search_top.proofs.hopeless.push_hopeless.Given as goal

abbrev pub invariant-loop-cond : goal.invariant-loop-cond
invariant-loop-cond l = (l.text.items ≡ l.initial.text.items) × (hopeless_text l.p l.g (drop l.cond-index l.p.goal) ≡ hopeless_text l.p l.g l.p.goal)
