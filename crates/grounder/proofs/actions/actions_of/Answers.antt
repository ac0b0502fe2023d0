use Rattle.std.proofs.Common.{arith, ◌∙◌, ap}
use Rattle.std.specs.List.{list_all}
use Rattle.std.proofs.lemmas.List.{take_all}
use Rattle.pd_model.specs.declared.calls.Call.{Call}
use Rattle.grounding_defs.specs.Instance.{instance_of}
use Rattle.grounding_defs.specs.Found.{may_be_true, actions_of}
use Rattle.reachability.specs.Derived.{call_with}
use Rattle.grounder.proofs.Able.{passed_more}
use Rattle.grounder.proofs.actions.actions_of.Goals as goal

pub loop-place-preserved : goal.loop-place-preserved
loop-place-preserved c =
    let p = c.args.known.now.domains.now in
    let facts = c.args.known.now.facts in
    passed_more (λ (d : Call). list_all (may_be_true p facts) (instance_of p d).precondition) c.args.kept.now c.loop-place.place (call_with c.at-schema.result.0 c.at-schema.result.1.now)
    c.loop-place.calls.items c.add_able.new.into.items c.at-schema.ensures c.loop-place.invariant c.in_ok-add_able.ensures

pub returns : goal.returns
returns c =
    c.of.ensures ∙ c.loop-place.invariant ∙ ap (λ cs. actions_of c.args.known.now.domains.now c.args.known.now.facts cs) (take_all c.loop-place.place c.args.kept.now (omega (arith, c.len-place-end.ensures)))
