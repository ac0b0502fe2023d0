use Rattle.std.specs.Prelude.{codes, decimal}
use Rattle.std.proofs.lemmas.Result.{on_ok_weaker}
use Rattle.plan_gen.proofs.Pieces.{after_five}
use Rattle.plan_gen.proofs.corridor.put_door.Goals as goal

pub returns : goal.returns
returns c =
    on_ok_weaker c.put-3.result
    (after_five c.args.text.now.items (codes " (door r") (decimal c.args.from) (codes " r") (decimal c.args.to) (codes ")")
    c.in_ok-put.ensures c.in_ok-put_number.ensures c.in_ok-put-2.ensures c.in_ok-put_number-2.ensures)
    c.put-3.ensures
