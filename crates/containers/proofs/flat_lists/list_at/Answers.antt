use Rattle.std.proofs.Common.{arith, ◌∙◌, ℕ, Some, length, get_or, sym, ap}
use Rattle.std.specs.List.{slice_range}
use Rattle.containers.proofs.PieceLemmas.{piece_at, start_within, end_within}
use Rattle.containers.proofs.flat_lists.list_at.Goals as goal

pub part-requires : goal.part-requires
part-requires g c =
    let ends = c.args.ends.now in
    let rising = start_within 0 ends (length c.args.items.now) c.args.number 0 c.requires.cut c.requires.in_range in
    let within = end_within 0 ends (length c.args.items.now) c.args.number 0 c.requires.cut c.requires.in_range in
    record { rising = omega (arith, rising, c.start_of-start.ensures); within = within }

pub returns : goal.returns
returns g c =
    let items = c.args.items.now in
    let ends = c.args.ends.now in
    piece_at 0 items ends c.args.number 0 c.requires.in_range
    ∙ ap (λ (start : ℕ). Some (slice_range items start (get_or ends c.args.number 0))) (sym c.start_of-start.ensures)
    ∙ ap (λ (xs : _). Some xs) (sym c.part.ensures)
