use Rattle.std.proofs.Common.{arith, ◌∙◌, ap, length}
use Rattle.std.specs.List.{list_all}
use Rattle.std.proofs.lemmas.List.{take_all}
use Rattle.pd_model.specs.declared.calls.Call.{Call}
use Rattle.grounding_defs.specs.Instance.{instance_of}
use Rattle.grounding_defs.specs.Found.{may_be_true, actions_of}
use Rattle.reachability.specs.Derived.{call_with}
use Rattle.grounder.proofs.Able.{counted_more, counted_few}
use Rattle.grounder.proofs.actions.count_actions.Goals as goal

pub loop-place-preserved : goal.loop-place-preserved
loop-place-preserved c =
    let p = c.args.known.now.domains.now in
    let facts = c.args.known.now.facts in
    let x = call_with c.at-schema.result.0 c.at-schema.result.1.now in
    record {
      count = counted_more (λ (d : Call). list_all (may_be_true p facts) (instance_of p d).precondition) c.args.kept.now c.loop-place.place x c.is_able.result c.loop-place.count c.counted-count.result
          c.at-schema.ensures c.is_able.ensures c.loop-place.invariant.count c.counted-count.ensures;
      few = counted_few c.is_able.result c.loop-place.place c.loop-place.count c.counted-count.result c.loop-place.invariant.few c.counted-count.ensures;
    }

pub returns : goal.returns
returns c = c.loop-place.invariant.count ∙ ap (λ cs. length (actions_of c.args.known.now.domains.now c.args.known.now.facts cs)) (take_all c.loop-place.place c.args.kept.now (omega (arith, c.len-place-end.ensures)))
