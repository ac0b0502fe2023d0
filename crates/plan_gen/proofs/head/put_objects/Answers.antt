use Rattle.std.proofs.Common.{[]}
use Rattle.std.specs.Prelude.{codes}
use Rattle.plan_gen.specs.Numbered.{numbered}
use Rattle.plan_gen.proofs.Pieces.{after_five}
use Rattle.plan_gen.proofs.head.put_objects.Goals as goal

pub returns : goal.returns
returns c =
    after_five c.args.text.now.items (codes "(:objects ") c.args.first.now (numbered c.args.object.now [] c.args.number) c.args.last.now (codes ")\n")
    c.in_ok-put.ensures c.in_ok-put-2.ensures c.in_ok-put_numbered.ensures c.in_ok-put-3.ensures c.in_ok-put-4.ensures
