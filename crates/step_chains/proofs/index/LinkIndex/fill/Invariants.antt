use Rattle.std.proofs.Common.{take}
use Rattle.step_chains.specs.own.Index.{IsIndexOf}
use Rattle.step_chains.proofs.index.LinkIndex.fill.Given as goal

abbrev pub invariant-loop-a : goal.invariant-loop-a
invariant-loop-a l = IsIndexOf l.task (take l.a-index l.members) l.self
