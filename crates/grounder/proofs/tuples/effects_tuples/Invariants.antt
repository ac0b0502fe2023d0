use Rattle.std.proofs.Common.{◌≡◌, ◌+◌, ◌-◌, ◌^◌, ◌≤◌, drop}
use Rattle.std.specs.Prelude.{sum_by}
use Rattle.grounding_defs.specs.Tuples.{effect_tuples, saturated}
use Rattle.grounder.proofs.tuples.effects_tuples.Given as goal

abbrev pub invariant-loop-effect : goal.invariant-loop-effect
invariant-loop-effect l = record {
  sum : saturated (sum_by (λ e. effect_tuples l.p e.over) l.effects) ≡ saturated (l.sum + sum_by (λ e. effect_tuples l.p e.over) (drop l.effect-index l.effects));
  fits : l.sum ≤ 2 ^ 64 - 1;
}
