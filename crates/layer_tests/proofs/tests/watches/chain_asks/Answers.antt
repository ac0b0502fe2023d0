use Rattle.std.proofs.Common.{◌≡◌, ◌∙◌, ap, ℕ, ◌*◌, ◌<◌, ◌≤◌, List, [], ◌∷◌, ◌++◌, arith}
use Rattle.clause_base.specs.Clause.{has_literal}
use Rattle.watch_lists.specs.Pending.{WatchesView}
use Rattle.layer_tests.proofs.Free.{still_free}
use Rattle.layer_tests.proofs.tests.watches.chain_asks.Goals as goal

pub loop-j-preserved : goal.loop-j-preserved
loop-j-preserved g c = record {
  many = ap (λ (w : WatchesView). w.variables) c.assign.ensures ∙ c.loop-j.invariant.many;
  free = λ k h.
      let e : c.assign.new.self.trail ≡ c.loop-j.watches.trail ++ 2 * c.loop-j.j ∷ [] = ap (λ (w : WatchesView). w.trail) c.assign.ensures in
      let low : 2 * c.loop-j.j ≤ k = omega arith in
      let less : 2 * c.loop-j.j < k = omega arith in
      ap (λ (t : List ℕ). has_literal t k) e ∙ still_free c.loop-j.watches.trail (2 * c.loop-j.j) k (c.loop-j.invariant.free k low) less;
}
