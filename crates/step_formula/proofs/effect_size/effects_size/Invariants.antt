use Rattle.std.proofs.Common.{◌≡◌, ◌+◌, ◌*◌, ◌≤◌, take, drop}
use Rattle.std.specs.Prelude.{sum_by}
use Rattle.step_formula.specs.own.Sizes.{effect_size}
use Rattle.step_formula.specs.own.Adds.{IsCount}
use Rattle.step_formula.proofs.effect_size.effects_size.Given as goal

abbrev pub invariant-loop-effect : goal.invariant-loop-effect
invariant-loop-effect l =
    (sum_by (effect_size l.effects) l.effects ≡ l.size + sum_by (effect_size l.effects) (drop l.effect-index l.effects))
    × (l.size ≤ 131072 * l.effect-index)
    × (l.adds.count ≤ l.effect-index)
    × IsCount l.adds (take l.effect-index l.effects)
