use Rattle.std.proofs.Common.{◌&&◌, ◌||◌, ◌∙◌, ℕ, List, Bool, [], ap, sym}
use Rattle.std.proofs.Math.Bool.{or_comm}
use Rattle.std.proofs.lemmas.List.{get_or_read}
use Rattle.bit_sets.specs.Rows.{row_has}
use Rattle.action_order.specs.own.Graph.{row_at}
use Rattle.action_order.proofs.readers.add_excluded.Goals as goal

pub returns : goal.returns
returns c b =
    let needing = c.args.needing.now in
    let row = row_has c.args.row.now b in
    let here = row_has (row_at needing c.args.q) b in
    let read = get_or_read needing c.args.q c.index-needing-q-2.result c.requires.q c.index-needing-q-2.is [] in
    c.in_ok-unite.ensures.has b
    ∙ ap (λ (r : List ℕ). row || row_has r b) read
    ∙ or_comm row here
    ∙ ap (λ (t : Bool). (t && here) || row) (sym (sym c.exclusive.ensures ∙ c.if-not-exclusive.false))
