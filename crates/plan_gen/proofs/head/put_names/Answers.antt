use Rattle.std.specs.Prelude.{codes, decimal}
use Rattle.plan_gen.proofs.Pieces.{after_seven}
use Rattle.plan_gen.proofs.head.put_names.Goals as goal

pub returns : goal.returns
returns c =
    after_seven c.args.text.now.items (codes "(define (problem ") c.args.name.now (codes "-") (decimal c.args.number) (codes ")\n(:domain ") c.args.name.now (codes ")\n")
    c.in_ok-put.ensures c.in_ok-put-2.ensures c.in_ok-put-3.ensures c.in_ok-put_number.ensures c.in_ok-put-4.ensures c.in_ok-put-5.ensures c.in_ok-put-6.ensures
