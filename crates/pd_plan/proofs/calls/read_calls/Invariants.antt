use Rattle.std.proofs.Common.{◌≡◌, drop}
use Rattle.pd_words.specs.First.{after}
use Rattle.pd_plan.specs.PlanFile.{calls_of}
use Rattle.pd_plan.proofs.calls.read_calls.Given as goal

abbrev pub invariant-loop-list : goal.invariant-loop-list
invariant-loop-list l = after l.calls.items (calls_of l.p (drop l.list-index l.lists)) ≡ calls_of l.p l.lists
