use Rattle.std.proofs.Common.{◌≡◌, ◌++◌, map, take}
use Rattle.std.specs.List.{filter}
use Rattle.gt_core.specs.Lawful.{is_conditional}
use Rattle.goal_choice.proofs.gather.add_conditions.Given as goal

abbrev pub invariant-loop-effect : goal.invariant-loop-effect
invariant-loop-effect l = record {
  actions : l.actions.items ≡ l.initial.actions.items ++ map (λ e. l.number) (filter is_conditional (take l.effect-index l.effects));
  conditions : l.conditions ≡ l.initial.conditions ++ map (λ e. e.condition) (filter is_conditional (take l.effect-index l.effects));
}
