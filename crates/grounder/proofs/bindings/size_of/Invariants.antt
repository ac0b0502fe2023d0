use Rattle.std.proofs.Common.{◌≡◌, ◌*◌, ◌-◌, ◌^◌, ◌≤◌, drop}
use Rattle.grounding_defs.specs.Tuples.{saturated}
use Rattle.grounder.specs.own.Bindings.{size}
use Rattle.grounder.proofs.bindings.size_of.Given as goal

abbrev pub invariant-loop-domain : goal.invariant-loop-domain
invariant-loop-domain l = (saturated (size l.domains) ≡ saturated (l.count * size (drop l.domain-index l.domains))) × (l.count ≤ 2 ^ 64 - 1)
