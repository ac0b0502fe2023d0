use Rattle.std.proofs.Common.{rules, ◌≡◌, ◌<◌, ◌+◌, ℕ, List, true, false, subst, sym}
use Rattle.bit_sets.specs.Rows.{row_has}
use Rattle.gt_core.proofs.published.Lists.{pushed_each}
use Rattle.implied_literals.specs.Rows.{row_at, HasNoPair}
use Rattle.implied_literals.proofs.asked.first_rows.Goals as goal

pub loop-l-preserved : goal.loop-l-preserved
loop-l-preserved c =
    let P : ℕ → List ℕ → Type 0 = λ k r. (row_has c.args.asked.now k ≡ true → HasNoPair (row_has r) → ⊥) × (row_has c.args.asked.now k ≡ false → (m : ℕ) → row_has r m ≡ false) in
    let all : (k : ℕ) → k < c.loop-l.l + 1 → P k (row_at c.push.new.self.items k) = λ k lt. subst (λ (rows : List (List ℕ)). P k (row_at rows k)) (sym c.in_ok-push.ensures.items)
    (pushed_each P c.loop-l.rows.items c.in_ok-row.row c.loop-l.l c.loop-l.invariant.long (λ j jl. (c.loop-l.invariant.asked j jl, c.loop-l.invariant.other j jl)) (c.in_ok-row.ensures.asked, c.in_ok-row.ensures.other) k lt) in
    record {
      long = (let i = c.loop-l.invariant.long in search rules);
      asked = λ k lt. (all k lt).0;
      other = λ k lt. (all k lt).1;
    }
