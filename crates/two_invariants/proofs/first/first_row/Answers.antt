use Rattle.std.proofs.Common.{◌∙◌, ap, sym, not, ◌&&◌, ◌==◌, Bool, ℕ, List, length}
use Rattle.bit_sets.specs.Rows.{row_has}
use Rattle.gt_core.specs.Literal.{opposite, state_of}
use Rattle.two_invariants.proofs.Steps.{first_true, first_false}
use Rattle.two_invariants.proofs.first.first_row.Goals as goal
use Rattle.two_invariants.proofs.first.first_row.Goals.{then-holds, else-holds}

pub returns : goal.returns
returns c m =
    let s = state_of c.args.state.now in
    let n = length c.args.state.now in
    let l = c.args.l in
    let removed = c.remove.ensures.has m ∙ ap (λ (k : ℕ). not (k == m) && row_has c.in_ok-row.row m) c.opposite.ensures ∙ ap (λ (b : Bool). not (opposite l == m) && b) (c.in_ok-row.ensures m) in
    elim c.if-holds.branch [
      | then-holds w ↦ removed ∙ ap (λ (r : List ℕ). not (opposite l == m) && row_has r m) (ap (λ x. x.now) w.copy-is) ∙ ap (λ (b : Bool). not (opposite l == m) && b) (c.requires.all m) ∙ first_true n s l m c.requires.l (sym c.holds.ensures ∙ w.if-holds.true)
      | else-holds w ↦ removed ∙ ap (λ (r : List ℕ). not (opposite l == m) && row_has r m) (ap (λ x. x.now) w.copy-is) ∙ ap (λ (b : Bool). not (opposite l == m) && b) (c.requires.trues m) ∙ first_false n s l m c.requires.l (sym c.holds.ensures ∙ w.if-holds.false)
    ]
