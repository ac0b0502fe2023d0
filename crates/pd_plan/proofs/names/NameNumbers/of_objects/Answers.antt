use Rattle.std.proofs.Common.{◌∙◌}
use Rattle.pd_plan.proofs.Lookups.{named_more}
use Rattle.pd_plan.proofs.names.NameNumbers.of_objects.Goals as goal

pub loop-i-preserved : goal.loop-i-preserved
loop-i-preserved c = λ name.
    let more = named_more (λ o. o.name) c.args.objects.now c.loop-i.i _ name c.loop-i-test.true in
    c.in_ok-numbers.ensures.with name ∙ rw (c.loop-i.invariant name, c.index-objects-i.is) more
