use Rattle.std.proofs.Common.{◌++◌, ap, ◌∙◌}
use Rattle.std.specs.Prelude.{codes, decimal}
use Rattle.plan_gen.specs.Corridor.{corridor_head, corridor_init, corridor_goal, doors}
use Rattle.plan_gen.proofs.Pieces.{after_three}
use Rattle.plan_gen.proofs.corridor.problem.Goals as goal

pub returns : goal.returns
returns c =
    let n = c.args.number in
    c.of.ensures
    ∙ after_three c.put-2.new.text.items (codes "(:goal (in r") (decimal n) (codes ")))\n") c.in_ok-put-3.ensures c.in_ok-put_number.ensures c.in_ok-put-4.ensures
    ∙ ap (λ t. t ++ corridor_goal n)
    (after_three c.put_head.new.text.items (codes "(:init (in r0)") (doors n) (codes ")\n") c.in_ok-put.ensures c.in_ok-put_doors.ensures c.in_ok-put-2.ensures
    ∙ ap (λ t. t ++ corridor_init n) (c.in_ok-put_head.ensures ∙ ap (λ t. t ++ corridor_head n) c.new-text.ensures.items))
