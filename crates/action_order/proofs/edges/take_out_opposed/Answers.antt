use Rattle.std.proofs.Common.{◌<◌, ◌+◌, ◌*◌, ◌&&◌, not, ◌∙◌, ℕ, List, Bool, [], length, drop, ap, sym}
use Rattle.std.specs.List.{list_any}
use Rattle.std.proofs.lemmas.List.{get_or_read, at_drop_more}
use Rattle.bit_sets.specs.Rows.{row_has}
use Rattle.gt_core.proofs.published.Lists.{each_number}
use Rattle.action_order.specs.own.Graph.{row_at, item}
use Rattle.action_order.proofs.GrowLaw.{less_both}
use Rattle.gt_core.specs.Literal.{opposite}
use Rattle.action_order.proofs.ReadersLaw.{opposite_below}
use Rattle.action_order.proofs.edges.take_out_opposed.Goals as goal

pub bounds-rows-opposite : goal.bounds-rows-opposite
bounds-rows-opposite c =
    rw (c.opposite.ensures, c.requires.long) (opposite_below (item c.args.lits.now c.loop-lit.lit-index) c.args.facts (each_number (λ l. l < 2 * c.args.facts) c.args.lits.now c.loop-lit.lit-index 0 c.requires.within c.loop-lit-test.true))

pub loop-lit-preserved : goal.loop-lit-preserved
loop-lit-preserved c b =
    let rows = c.args.rows.now in
    let lits = c.args.lits.now in
    let i = c.loop-lit.lit-index in
    let has : ℕ → Bool = λ l. row_has (row_at rows (opposite l)) b in
    let row = row_has c.loop-lit.row b in
    let rest = list_any has (drop (i + 1) lits) in
    let below : c.opposite.result < length rows = rw (c.opposite.ensures, c.requires.long) (opposite_below (item lits i) c.args.facts (each_number (λ l. l < 2 * c.args.facts) lits i 0 c.requires.within c.loop-lit-test.true)) in
    let read = get_or_read rows c.opposite.result c.index-rows-opposite.result below c.index-rows-opposite.is [] ∙ ap (row_at rows) c.opposite.ensures in
    c.loop-lit.invariant b
    ∙ ap (λ (t : Bool). row && not t) (at_drop_more (list_any has) lits i 0 c.loop-lit-test.true)
    ∙ less_both row (has (item lits i)) rest
    ∙ ap (λ (t : Bool). t && not rest) (sym (c.subtract.ensures.has b ∙ ap (λ (r : List ℕ). row && not (row_has r b)) read))
