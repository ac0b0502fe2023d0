use Rattle.std.proofs.Common.{◌≡◌, ◌++◌, drop}
use Rattle.never_form.proofs.adds.push_view.Given as goal

abbrev pub invariant-loop-place : goal.invariant-loop-place
invariant-loop-place l = l.initial.lits.items ++ l.view ≡ l.lits.items ++ drop l.place l.view
