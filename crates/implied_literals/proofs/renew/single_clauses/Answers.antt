use Rattle.std.proofs.Common.{◌∙◌, ap, sym, ◌||◌, ◌==◌, Bool, ℕ, List}
use Rattle.bit_sets.specs.Rows.{row_has}
use Rattle.implied_literals.specs.Rows.{clause_in}
use Rattle.implied_literals.proofs.published.Steps.{more_below, same_below}
use Rattle.implied_literals.proofs.renew.single_clauses.Goals as goal
use Rattle.implied_literals.proofs.renew.single_clauses.Goals.{then-is_single+in_ok-insert, else-is_single}

pub loop-l-preserved : goal.loop-l-preserved
loop-l-preserved c m =
    let s : ℕ → Bool = λ k. clause_in c.args.clauses.now k k in
    elim c.if-is_single.branch [
      | then-is_single+in_ok-insert w ↦ ap (λ (r : List ℕ). row_has r m) w.row-is ∙ w.in_ok-insert.ensures.has m ∙ ap (λ (b : Bool). (c.loop-l.l == m) || b) (c.loop-l.invariant m) ∙ more_below s c.loop-l.l m (sym c.is_single.ensures ∙ w.if-is_single.true)
      | else-is_single w ↦ ap (λ (r : List ℕ). row_has r m) w.row-is ∙ c.loop-l.invariant m ∙ same_below s c.loop-l.l m (sym c.is_single.ensures ∙ w.if-is_single.false)
    ]
