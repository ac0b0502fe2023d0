use Rattle.std.proofs.Common.{◌<◌, ◌||◌, ◌+◌, ◌∙◌, ℕ, List, Bool, [], length, drop, get_or, ap, sym}
use Rattle.std.specs.List.{list_any}
use Rattle.std.proofs.Math.Bool.{or_assoc}
use Rattle.std.proofs.lemmas.List.{get_or_read, at_drop_more}
use Rattle.bit_sets.specs.Rows.{row_has}
use Rattle.gt_core.proofs.published.Lists.{each_number}
use Rattle.implied_literals.specs.Rows.{row_at}
use Rattle.implied_literals.proofs.known.fill_with.Goals as goal

pub loop-lit-preserved : goal.loop-lit-preserved
loop-lit-preserved c m =
    let rows = c.args.rows.now in
    let lits = c.args.lits.now in
    let i = c.loop-lit.lit-index in
    let l = get_or lits i 0 in
    let row = row_has c.loop-lit.row m in
    let told : ℕ → Bool = λ k. row_has (row_at rows k) m in
    let rest = list_any told (drop (i + 1) lits) in
    let read = get_or_read rows l c.index-rows-lit.result (each_number (λ k. k < length rows) lits i 0 c.requires c.loop-lit-test.true) c.index-rows-lit.is [] in
    ap (λ (b : Bool). b || rest) (c.in_ok-unite.ensures.has m ∙ ap (λ (r : List ℕ). row || row_has r m) read)
    ∙ or_assoc row (told l) rest
    ∙ ap (λ (b : Bool). row || b) (sym (at_drop_more (list_any told) lits i 0 c.loop-lit-test.true))
    ∙ c.loop-lit.invariant m

pub bounds-rows-lit : goal.bounds-rows-lit
bounds-rows-lit c = each_number (λ l. l < length c.args.rows.now) c.args.lits.now c.loop-lit.lit-index 0 c.requires c.loop-lit-test.true
