use Rattle.std.proofs.Common.{arith, ◌<◌, ◌*◌, ◌/◌, ◌||◌, ◌∙◌, ℕ, List, Bool, [], length, ap}
use Rattle.std.proofs.Math.Bool.{or_assoc}
use Rattle.std.proofs.lemmas.List.{get_or_read}
use Rattle.bit_sets.specs.Rows.{row_has}
use Rattle.gt_core.specs.Literal.{opposite}
use Rattle.action_order.specs.own.Graph.{row_at}
use Rattle.action_order.proofs.ReadersLaw.{opposite_below}
use Rattle.action_order.proofs.edges.add_readers.Goals as goal

pub returns : goal.returns
returns c b =
    let needing = c.args.needing.now in
    let asking = c.args.asking.now in
    let lit = c.args.lit in
    let row = row_has c.args.row.now b in
    let below : lit < 2 * length asking = omega (arith, c.requires.within, c.requires.long) in
    let inside : c.opposite.result < length needing = rw (c.opposite.ensures, c.requires.long) (opposite_below lit (length asking) below) in
    let needed = get_or_read needing c.opposite.result c.index-needing-opposite.result inside c.index-needing-opposite.is [] ∙ ap (row_at needing) c.opposite.ensures in
    let asked = get_or_read asking (lit / 2) c.index-asking-lit.result (omega (arith, below)) c.index-asking-lit.is [] in
    c.in_ok-unite-2.ensures.has b
    ∙ ap (λ (t : Bool). t || row_has c.index-asking-lit.result b) (c.in_ok-unite.ensures.has b)
    ∙ ap (λ (r : List ℕ). (row || row_has r b) || row_has c.index-asking-lit.result b) needed
    ∙ ap (λ (r : List ℕ). (row || row_has (row_at needing (opposite lit)) b) || row_has r b) asked
    ∙ or_assoc row (row_has (row_at needing (opposite lit)) b) (row_has (row_at asking (lit / 2)) b)
