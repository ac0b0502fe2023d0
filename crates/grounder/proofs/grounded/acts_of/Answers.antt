use Rattle.std.proofs.Common.{arith, refl}
use Rattle.pd_model.specs.declared.calls.Call.{Call}
use Rattle.grounding_defs.specs.Instance.{instance_of}
use Rattle.grounding_defs.specs.Simplify.{action_of}
use Rattle.grounder.proofs.Counting.{counted_more}
use Rattle.grounder.proofs.grounded.acts_of.Goals as goal

pub loop-call-init : goal.loop-call-init
loop-call-init c = record { count = refl; acts_are = λ few. c.in_ok-with_capacity.ensures.items }

pub loop-call-preserved : goal.loop-call-preserved
loop-call-preserved c =
    counted_more (λ (d : Call). action_of c.args.known.now.domains.now c.args.known.now.facts (instance_of c.args.known.now.domains.now d)) c.args.calls.now c.loop-call.call-index c.call-item.result
    c.in_ok-act.act c.loop-call.counted c.add.new.self (omega arith) c.call-item.is c.in_ok-act.ensures c.loop-call.invariant c.in_ok-add.ensures.count c.in_ok-add.ensures.acts
