use Rattle.std.proofs.Common.{◌≡◌, drop}
use Rattle.cdcl_defs.specs.Reduce.{kept_without}
use Rattle.cdcl_core.specs.own.Search.{AreKept}
use Rattle.cdcl_core.proofs.reduce.forget.Given as goal

abbrev pub invariant-loop-number : goal.invariant-loop-number
invariant-loop-number l = record {
  are : AreKept l.propagator.kept (drop l.number-index l.numbers);
  same : l.propagator ≡ record l.initial.propagator { kept = l.propagator.kept };
  rest : kept_without l.initial.propagator.kept l.numbers ≡ kept_without l.propagator.kept (drop l.number-index l.numbers);
}
