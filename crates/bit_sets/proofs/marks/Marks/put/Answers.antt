use Rattle.std.proofs.Common.{arith, ◌<◌, List, Bool, length, ap, ◌∙◌}
use Rattle.containers.specs.Rising.{put}
use Rattle.bit_sets.specs.Marks.{places}
use Rattle.bit_sets.proofs.published.Places.{put_new}
use Rattle.bit_sets.proofs.marks.Marks.put.Goals as goal

pub returns-clause-put : goal.returns-clause-put
returns-clause-put c =
    let on = c.self.inside.on.items in
    let long = ap (λ (o : List Bool). length o) c.self.view_is in
    let h : c.args.number < length on = omega (arith, long, c.requires) in
    put_new on c.args.number h ∙ ap (λ (o : List Bool). put (places 0 o) c.args.number) c.self.view_is
