use Rattle.std.proofs.Common.{◌≡◌, ◌++◌, map, drop}
use Rattle.pd_model.specs.Text.{call_text}
use Rattle.plan_report.specs.Listings.{numbered}
use Rattle.plan_report.proofs.listings.push_actions.Given as goal

abbrev pub invariant-loop-a : goal.invariant-loop-a
invariant-loop-a l =
    l.initial.text.items ++ numbered 0 (map (call_text l.p) l.g.calls)
    ≡ l.text.items ++ numbered l.a (map (call_text l.p) (drop l.a l.g.calls))
