use Rattle.std.proofs.Common.{◌≡◌, ◌++◌, drop}
use Rattle.never_form.specs.own.Parts.{moved}
use Rattle.never_form.proofs.adds.push_moved.Given as goal

abbrev pub invariant-loop-lit : goal.invariant-loop-lit
invariant-loop-lit l = l.initial.into.items ++ moved l.base l.lits ≡ l.into.items ++ moved l.base (drop l.lit-index l.lits)
