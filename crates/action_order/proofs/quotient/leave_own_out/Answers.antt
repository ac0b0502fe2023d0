use Rattle.std.proofs.Common.{arith, ◌==◌, ◌&&◌, ◌<◌, ℕ, List, [], not, length, ap, ◌∙◌}
use Rattle.std.proofs.lemmas.List.{get_or_read}
use Rattle.bit_sets.specs.Rows.{row_has}
use Rattle.action_order.specs.own.Graph.{class_at}
use Rattle.action_order.proofs.QuotientLaw.{without_more}
use Rattle.action_order.proofs.quotient.leave_own_out.Goals as goal

pub loop-b-preserved : goal.loop-b-preserved
loop-b-preserved c =
    let numbers = c.args.numbers.now in
    let b = c.loop-b.b in
    let rows = c.loop-b.rows.items in
    let below = c.requires.below b (omega arith) in
    let lt : class_at numbers b < length rows = let l = c.loop-b.invariant.long in omega arith in
    let old = get_or_read rows (class_at numbers b) c.index_mut-row.result.now lt c.index_mut-row.ensures.value [] in
    without_more numbers b c.args.rows.now.items rows c.remove.new.self c.loop-b.invariant below
    (λ x. c.remove.ensures.has x ∙ ap (λ (xs : List ℕ). not (b == x) && row_has xs x) old)
