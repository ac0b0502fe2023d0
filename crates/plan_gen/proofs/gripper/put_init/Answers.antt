use Rattle.std.specs.Prelude.{codes}
use Rattle.plan_gen.specs.Numbered.{numbered}
use Rattle.plan_gen.proofs.Pieces.{after_five}
use Rattle.plan_gen.proofs.gripper.put_init.Goals as goal

pub returns : goal.returns
returns c =
    after_five c.args.text.now.items (codes "(:init (room rooma) (room roomb)") (numbered (codes " (ball ball") (codes ")") c.args.number) (codes " (gripper left) (gripper right) (at-robby rooma)") (numbered (codes " (at ball") (codes " rooma)") c.args.number) (codes " (free left) (free right))\n")
    c.in_ok-put.ensures c.in_ok-put_numbered.ensures c.in_ok-put-2.ensures c.in_ok-put_numbered-2.ensures c.in_ok-put-3.ensures
