use Rattle.std.proofs.Common.{◌≡◌, drop}
use Rattle.pd_model.specs.State.{is_in}
use Rattle.search_top.proofs.hopeless.is_fact.Given as goal

abbrev pub invariant-loop-f : goal.invariant-loop-f
invariant-loop-f l = is_in l.atom (drop l.f l.g.facts) ≡ is_in l.atom l.g.facts
