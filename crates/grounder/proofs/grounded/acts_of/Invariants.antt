use Rattle.std.proofs.Common.{take, map}
use Rattle.grounding_defs.specs.Instance.{instance_of}
use Rattle.grounding_defs.specs.Simplify.{action_of}
use Rattle.grounder.specs.own.Counted.{HasCounted}
use Rattle.grounder.proofs.grounded.acts_of.Given as goal

abbrev pub invariant-loop-call : goal.invariant-loop-call
invariant-loop-call l = HasCounted (map (λ c. action_of l.known.domains.now l.known.facts (instance_of l.known.domains.now c)) (take l.call-index l.calls)) l.counted
