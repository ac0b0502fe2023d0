use Rattle.std.proofs.Common.{◌≡◌, drop}
use Rattle.pd_model.specs.State.{is_in}
use Rattle.search_top.proofs.hopeless.is_initial.Given as goal

abbrev pub invariant-loop-other : goal.invariant-loop-other
invariant-loop-other l = is_in l.atom (drop l.other-index l.p.init) ≡ is_in l.atom l.p.init
