use Rattle.std.proofs.Common.{◌≡◌, ◌++◌, map, drop}
use Rattle.pd_model.specs.Text.{atom_text}
use Rattle.plan_report.specs.Listings.{numbered}
use Rattle.plan_report.proofs.listings.push_facts.Given as goal

abbrev pub invariant-loop-f : goal.invariant-loop-f
invariant-loop-f l =
    l.initial.text.items ++ numbered 0 (map (atom_text l.p) l.g.facts)
    ≡ l.text.items ++ numbered l.f (map (atom_text l.p) (drop l.f l.g.facts))
