use Rattle.std.proofs.Common.{◌≡◌, ◌==◌, length, drop}
use Rattle.std.specs.List.{list_all}
use Rattle.two_invariants.proofs.plain.are_plain.Given as goal

abbrev pub invariant-loop-effect : goal.invariant-loop-effect
invariant-loop-effect l = list_all (λ e. length e.condition == 0) (drop l.effect-index l.effects) ≡ list_all (λ e. length e.condition == 0) l.effects
