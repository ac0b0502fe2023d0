use Rattle.std.proofs.Common.{◌≡◌, drop}
use Rattle.pd_words.specs.First.{after}
use Rattle.pd_plan.specs.PlanFile.{arguments}
use Rattle.pd_plan.proofs.calls.read_arguments.Given as goal

abbrev pub invariant-loop-kind : goal.invariant-loop-kind
invariant-loop-kind l = after l.numbers.items (arguments l.p (drop l.kind-index l.kinds) l.rest) ≡ arguments l.p l.kinds l.words
