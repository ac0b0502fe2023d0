use Rattle.std.proofs.Common.{◌*◌, ◌+◌, ◌||◌, ◌&&◌, ◌∙◌, Bool, not, ap, sym, drop}
use Rattle.std.specs.List.{list_any}
use Rattle.std.proofs.lemmas.List.{at_drop_more}
use Rattle.bit_sets.specs.Rows.{row_has}
use Rattle.gt_core.specs.Active.{is_active}
use Rattle.successors.proofs.RowState.{delete_moved}
use Rattle.successors.proofs.next.take_deletes.Goals as goal

pub loop-effect-preserved : goal.loop-effect-preserved
loop-effect-preserved c = record {
  has = λ f.
      let own = is_active (row_has c.args.row.now) (2 * f + 1) in
      let rest = list_any own (drop (c.loop-effect.effect-index + 1) c.args.effects.now) in
      c.loop-effect.invariant.has f
      ∙ ap (λ (b : Bool). row_has c.loop-effect.into.items f && not b) (at_drop_more (list_any own) c.args.effects.now c.loop-effect.effect-index c.effect-item.result c.loop-effect-test.true)
      ∙ ap (λ e. row_has c.loop-effect.into.items f && not (own e || rest)) (sym c.effect-item.is)
      ∙ delete_moved (own c.effect-item.result) rest (row_has c.loop-effect.into.items f)
      ∙ ap (λ (b : Bool). b && not rest) (sym (c.take_delete.ensures.has f));
  long = c.take_delete.ensures.long ∙ c.loop-effect.invariant.long;
}
