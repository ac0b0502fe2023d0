use Rattle.std.proofs.Common.{◌∙◌, ap, sym, ◌||◌, ◌==◌, Bool, ℕ, List}
use Rattle.bit_sets.specs.Rows.{row_has}
use Rattle.gt_core.specs.Literal.{holds, state_of}
use Rattle.implied_literals.proofs.published.Steps.{more_below, same_below}
use Rattle.two_invariants.proofs.first.true_literals.Goals as goal
use Rattle.two_invariants.proofs.first.true_literals.Goals.{then-holds+in_ok-insert, else-holds}

pub loop-l-preserved : goal.loop-l-preserved
loop-l-preserved c m =
    let s = holds (state_of c.args.state.now) in
    let l = c.loop-l.l in
    elim c.if-holds.branch [
      | then-holds+in_ok-insert w ↦ ap (λ (r : List ℕ). row_has r m) w.row-is ∙ w.in_ok-insert.ensures.has m ∙ ap (λ (b : Bool). (l == m) || b) (c.loop-l.invariant m) ∙ more_below s l m (sym c.holds.ensures ∙ w.if-holds.true)
      | else-holds w ↦ ap (λ (r : List ℕ). row_has r m) w.row-is ∙ c.loop-l.invariant m ∙ same_below s l m (sym c.holds.ensures ∙ w.if-holds.false)
    ]
