use Rattle.pd_model.specs.Types.{parents_of}
use Rattle.pd_model.specs.own.Walk.{AreChains}
use Rattle.pd_model.proofs.walk.chain_children.Given as goal

abbrev pub invariant-loop-kind : goal.invariant-loop-kind
invariant-loop-kind l = AreChains (parents_of l.types) l.last.items l.before.items l.kind
