use Rattle.std.proofs.Common.{List, ◌<◌, length, sym, ap, ◌∙◌, arith}
use Rattle.std.specs.Arc.{arc_value}
use Rattle.clause_base.specs.declared.pair.Pair.{Pair}
use Rattle.clause_base.specs.Pairs.{pairs_of}
use Rattle.cdcl_tables.specs.own.Lists.{index_of, last_list, next_list, time_list}
use Rattle.cdcl_tables.proofs.Whole.{lists_read}
use Rattle.cdcl_tables.proofs.index.PairIndex.lists.Goals as goal

pub returns : goal.returns
returns c =
    let w = c.self.inside in
    let long = ap (λ (v : List (List Pair)). length v) c.self.view_is in
    let inside : c.args.code < length (index_of w.shape w.told (arc_value w.step) (arc_value w.time) w.after) = omega (arith, long, c.requires) in
    sym (ap (λ (v : List (List Pair)). pairs_of v c.args.code) c.self.view_is)
    ∙ lists_read w.shape w.told (arc_value w.step) (arc_value w.time) w.after c.args.code _ _ _ _ _ c.self.invariant.0 inside c.of.ensures.told
    (c.of.ensures.last ∙ ap (λ (t : List (List Pair)). last_list w.shape t c.args.code) c.deref.ensures)
    (c.of.ensures.next ∙ ap (λ (t : List (List Pair)). next_list w.shape t c.args.code) c.deref.ensures)
    (c.of.ensures.time ∙ ap (λ (t : List (List Pair)). time_list w.shape t c.args.code) c.deref-2.ensures)
    c.of.ensures.after
