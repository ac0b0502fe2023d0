use Rattle.std.proofs.Common.{◌&&◌, ◌||◌, ℕ, Bool, sym, ap, ◌∙◌}
use Rattle.bit_sets.specs.Rows.{row_has}
use Rattle.gt_core.specs.Interference.{exclusive}
use Rattle.action_order.specs.own.Graph.{row_at}
use Rattle.action_order.proofs.GrowLaw.{any_below_more}
use Rattle.action_order.proofs.readers.excluded_by_each.Goals as goal

pub loop-q-preserved : goal.loop-q-preserved
loop-q-preserved c b =
    let t = λ (q : ℕ). exclusive c.args.pairs.now.clauses c.args.p q && row_has (row_at c.args.needing.now q) b in
    c.in_ok-add_excluded.ensures b
    ∙ ap (λ (x : Bool). t c.loop-q.q || x) (c.loop-q.invariant b)
    ∙ sym (any_below_more t c.loop-q.q)
