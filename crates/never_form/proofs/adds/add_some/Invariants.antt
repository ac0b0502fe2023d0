use Rattle.std.proofs.Common.{◌≡◌, ◌++◌, ◌+◌, ◌-◌}
use Rattle.never_form.specs.own.Parts.{some}
use Rattle.never_form.proofs.adds.add_some.Given as goal

abbrev pub invariant-loop-k : goal.invariant-loop-k
invariant-loop-k l = some l.first l.count ≡ l.lits.items ++ some (l.first + l.k) (l.count - l.k)
