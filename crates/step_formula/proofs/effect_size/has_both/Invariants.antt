use Rattle.std.proofs.Common.{◌≡◌, ◌-◌, drop}
use Rattle.step_formula.specs.own.Sizes.{has_both}
use Rattle.step_formula.proofs.effect_size.has_both.Given as goal

abbrev pub invariant-loop-place : goal.invariant-loop-place
invariant-loop-place l = has_both l.lits ≡ has_both (drop (l.place - 1) l.lits)
