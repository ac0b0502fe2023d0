use Rattle.std.proofs.Common.{◌≡◌, ◌<◌, ℕ, length}
use Rattle.action_order.specs.own.Graph.{item}
use Rattle.action_order.proofs.publish.places_of.Given as goal

abbrev pub invariant-loop-p : goal.invariant-loop-p
invariant-loop-p l = record {
  long : length l.places.items ≡ l.count;
  placed : (k : ℕ) → k < l.p → item l.places.items (item l.order k) ≡ k;
}
