use Rattle.std.proofs.Common.{◌≡◌, ◌++◌, map, drop}
use Rattle.gt_core.specs.Published.{order_of}
use Rattle.plan_report.specs.Listings.{placed, numbered}
use Rattle.plan_report.proofs.listings.push_places.Given as goal

abbrev pub invariant-loop-place : goal.invariant-loop-place
invariant-loop-place l =
    l.initial.text.items ++ numbered 0 (map (placed l.p l.g l.order) (order_of l.order))
    ≡ l.text.items ++ numbered l.place (map (placed l.p l.g l.order) (drop l.place (order_of l.order)))
