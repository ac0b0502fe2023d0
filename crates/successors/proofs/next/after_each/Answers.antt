use Rattle.std.proofs.Common.{◌*◌, ◌+◌, ◌||◌, ◌&&◌, ◌∙◌, Bool, List, ℕ, not, ap}
use Rattle.std.specs.List.{list_any}
use Rattle.bit_sets.specs.Rows.{row_has}
use Rattle.gt_core.specs.Active.{is_active}
use Rattle.successors.proofs.next.after_each.Goals as goal

pub returns-clause-has : goal.returns-clause-has
returns-clause-has c = λ f.
    let s = row_has c.args.row.now in
    c.take_adds.ensures.has f
    ∙ ap (λ (b : Bool). list_any (is_active s (2 * f)) c.args.effects.now || b)
    (c.take_deletes.ensures.has f ∙ ap (λ (xs : List ℕ). row_has xs f && not (list_any (is_active s (2 * f + 1)) c.args.effects.now)) c.copy.ensures)
