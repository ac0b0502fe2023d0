use Rattle.std.proofs.Common.{◌≡◌, drop}
use Rattle.std.specs.List.{list_all}
use Rattle.pd_model.specs.Few.{few_effect}
use Rattle.pd_model.proofs.few.few_effects.Given as goal

abbrev pub invariant-loop-effect : goal.invariant-loop-effect
invariant-loop-effect l = list_all (few_effect l.parameters) (drop l.effect-index l.effects) ≡ list_all (few_effect l.parameters) l.effects
