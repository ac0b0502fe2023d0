use Rattle.std.proofs.Common.{arith, ◌<◌, List, Bool, false, length, sym, ap, ◌∙◌}
use Rattle.std.proofs.lemmas.List.{get_or_default}
use Rattle.bit_sets.specs.Marks.{places}
use Rattle.bit_sets.proofs.published.Places.{is_among, in_places}
use Rattle.bit_sets.proofs.marks.Marks.has.Goals as goal

pub returns-clause-member : goal.returns-clause-member
returns-clause-member c =
    let on = c.self.inside.on.items in
    let long = ap (λ (o : List Bool). length o) c.self.view_is in
    let h : c.args.number < length on = omega (arith, long, c.requires) in
    c.index.ensures
    ∙ get_or_default on c.args.number c.index.result.now false h
    ∙ sym (in_places on c.args.number)
    ∙ ap (λ (o : List Bool). is_among (places 0 o) c.args.number) c.self.view_is
