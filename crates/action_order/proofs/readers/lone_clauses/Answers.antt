use Rattle.std.proofs.Common.{◌≡◌, ◌==◌, ◌&&◌, ◌||◌, ◌∙◌, ℕ, List, Bool, true, false, ap, sym}
use Rattle.bit_sets.specs.Rows.{row_has}
use Rattle.gt_core.specs.Interference.{has_clause}
use Rattle.action_order.proofs.ReadersLaw.{upto_more}
use Rattle.action_order.proofs.readers.lone_clauses.Goals as goal
use Rattle.action_order.proofs.readers.lone_clauses.Goals.{then-has+in_ok-insert, else-has}

pub loop-m-preserved : goal.loop-m-preserved
loop-m-preserved c k =
    let m = c.loop-m.m in
    let test : ℕ → Bool = λ l. has_clause c.args.pairs.now.clauses l l in
    let law = upto_more test m k in
    elim c.if-has.branch [
      | then-has+in_ok-insert w ↦
          let yes : test m ≡ true = sym c.has.ensures ∙ w.if-has.true in
          ap (λ (r : List ℕ). row_has r k) w.row-is ∙ w.in_ok-insert.ensures.has k ∙ ap (λ (t : Bool). (m == k) || t) (c.loop-m.invariant k) ∙ rw yes at law
      | else-has w ↦
          let no : test m ≡ false = sym c.has.ensures ∙ w.if-has.false in
          ap (λ (r : List ℕ). row_has r k) w.row-is ∙ c.loop-m.invariant k ∙ rw no at law
    ]
