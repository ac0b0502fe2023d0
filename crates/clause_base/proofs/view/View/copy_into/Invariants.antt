use Rattle.std.proofs.Common.{◌≡◌, take}
use Rattle.clause_base.proofs.view.View.copy_into.Given as goal

abbrev pub invariant-loop-place : goal.invariant-loop-place
invariant-loop-place l = l.lits.items ≡ take l.place l.self
