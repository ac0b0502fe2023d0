use Rattle.std.proofs.Common.{◌*◌, ◌+◌, ◌||◌, ◌∙◌, Bool, ap, sym, drop}
use Rattle.std.specs.List.{list_any}
use Rattle.std.proofs.lemmas.List.{at_drop_more}
use Rattle.bit_sets.specs.Rows.{row_has}
use Rattle.gt_core.specs.Active.{is_active}
use Rattle.successors.proofs.RowState.{add_moved}
use Rattle.successors.proofs.next.take_adds.Goals as goal

pub loop-effect-preserved : goal.loop-effect-preserved
loop-effect-preserved c = record {
  has = λ f.
      let own = is_active (row_has c.args.row.now) (2 * f) in
      let rest = list_any own (drop (c.loop-effect.effect-index + 1) c.args.effects.now) in
      c.loop-effect.invariant.has f
      ∙ ap (λ (b : Bool). b || row_has c.loop-effect.into.items f) (at_drop_more (list_any own) c.args.effects.now c.loop-effect.effect-index c.effect-item.result c.loop-effect-test.true)
      ∙ ap (λ e. (own e || rest) || row_has c.loop-effect.into.items f) (sym c.effect-item.is)
      ∙ add_moved (own c.effect-item.result) rest (row_has c.loop-effect.into.items f)
      ∙ ap (λ (b : Bool). rest || b) (sym (c.take_add.ensures.has f));
  long = c.take_add.ensures.long ∙ c.loop-effect.invariant.long;
}
