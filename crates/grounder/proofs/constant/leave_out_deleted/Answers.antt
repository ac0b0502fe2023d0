use Rattle.std.proofs.Common.{◌∙◌, sym}
use Rattle.grounding_defs.specs.Instance.{change_of}
use Rattle.grounder.proofs.Leaving.{left_deleted}
use Rattle.grounder.proofs.constant.leave_out_deleted.Goals as goal

pub returns-in_ok-instance_of : goal.returns-in_ok-instance_of
returns-in_ok-instance_of c =
    let may = rw c.as_slice.ensures at (sym c.all_may_hold.ensures ∙ c.if-all_may_hold.true) in
    left_deleted c.args.reached.now (change_of c.args.effect.now c.args.objects.now) c.args.constant.now c.remove.new.self c.in_ok-instance_of.field-0
    c.requires may c.in_ok-instance_of.ensures c.remove.ensures
