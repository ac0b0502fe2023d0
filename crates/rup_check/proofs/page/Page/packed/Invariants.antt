use Rattle.std.proofs.Common.{◌≡◌, take}
use Rattle.rup_check.proofs.page.Page.packed.Given as goal

abbrev pub invariant-loop-number : goal.invariant-loop-number
invariant-loop-number l = l.page ≡ take l.number l.self
