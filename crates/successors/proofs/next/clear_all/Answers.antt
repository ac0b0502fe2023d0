use Rattle.std.proofs.Common.{◌+◌, ◌||◌, ◌&&◌, ◌∙◌, get_or, Bool, not, ap, sym, drop}
use Rattle.std.proofs.lemmas.List.{at_drop_more}
use Rattle.bit_sets.specs.Rows.{row_has}
use Rattle.gt_core.specs.Literal.{is_in}
use Rattle.successors.proofs.RowState.{cleared_moved}
use Rattle.successors.proofs.next.clear_all.Goals as goal

pub loop-fact-preserved : goal.loop-fact-preserved
loop-fact-preserved c = record {
  has = λ f.
      let rest = is_in (drop (c.loop-fact.fact-index + 1) c.args.facts.now) f in
      c.loop-fact.invariant.has f
      ∙ ap (λ (b : Bool). row_has c.loop-fact.into.items f && not b) (at_drop_more (λ fs. is_in fs f) c.args.facts.now c.loop-fact.fact-index 0 c.loop-fact-test.true)
      ∙ cleared_moved (get_or c.args.facts.now c.loop-fact.fact-index 0) f rest (row_has c.loop-fact.into.items f)
      ∙ ap (λ (b : Bool). b && not rest) (sym (c.clear_bit.ensures.has f));
  long = c.clear_bit.ensures.len ∙ c.loop-fact.invariant.long;
}
