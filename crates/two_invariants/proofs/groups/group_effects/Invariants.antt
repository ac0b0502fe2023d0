use Rattle.std.proofs.Common.{◌≡◌, ◌||◌, ℕ, List, Bool, drop}
use Rattle.std.specs.List.{AllByRecursion}
use Rattle.implied_literals.specs.Tested.{EffectFits}
use Rattle.two_invariants.specs.own.Groups.{effect_with, group_with, GroupFits}
use Rattle.two_invariants.proofs.groups.group_effects.Given as goal

abbrev pub invariant-loop-effect : goal.invariant-loop-effect
invariant-loop-effect l = record {
  same : (k : ℕ) (test : List ℕ → Bool) → (group_with l.groups.items k test || effect_with (drop l.effect-index l.effects) k test) ≡ effect_with l.effects k test;
  fit : (size : ℕ) → AllByRecursion (EffectFits size) l.effects → AllByRecursion (GroupFits size) l.groups.items;
}
