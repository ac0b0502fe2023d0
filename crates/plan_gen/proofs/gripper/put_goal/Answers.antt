use Rattle.std.specs.Prelude.{codes}
use Rattle.plan_gen.specs.Numbered.{numbered}
use Rattle.plan_gen.proofs.Pieces.{after_three}
use Rattle.plan_gen.proofs.gripper.put_goal.Goals as goal

pub returns : goal.returns
returns c =
    after_three c.args.text.now.items (codes "(:goal (and") (numbered (codes " (at ball") (codes " roomb)") c.args.number) (codes ")))\n")
    c.in_ok-put.ensures c.in_ok-put_numbered.ensures c.in_ok-put-2.ensures
