use Rattle.std.proofs.Common.{◌≡◌, ◌+◌, ℕ, List, sym, ap, ◌∙◌, subst}
use Rattle.std.proofs.lemmas.List.{length_push}
use Rattle.bit_sets.specs.Rows.{row_has}
use Rattle.action_order.specs.own.Edges.{edge_in, AreEdges}
use Rattle.gt_core.proofs.published.Lists.{pushed_each}
use Rattle.action_order.proofs.edges.edges.Goals as goal

pub loop-a-preserved : goal.loop-a-preserved
loop-a-preserved c =
    let clauses = c.args.pairs.now.clauses in
    let acts = c.args.acts.now in
    let rows = c.loop-a.targets.items in
    let row = c.in_ok-row.field-0 in
    let i = c.loop-a.invariant in
    subst (AreEdges clauses acts (c.loop-a.a + 1)) (sym {A = List (List ℕ)} c.in_ok-push.ensures.items) (record {
      long = length_push rows row ∙ ap (λ (n : ℕ). n + 1) i.long;
      tells = λ a b lt. pushed_each (λ k xs. (b : ℕ) → row_has xs b ≡ edge_in clauses acts k b) rows row c.loop-a.a i.long (λ k lk b. i.tells k b lk) c.in_ok-row.ensures a lt b;
    })
