use Rattle.std.proofs.Common.{◌∙◌, sym}
use Rattle.step_formula.proofs.Bounds.{conditional_small}
use Rattle.step_formula.proofs.numbers.effect_variable.Goals as goal

pub returns-then-is_conditional-clause-small : goal.returns-then-is_conditional-clause-small
returns-then-is_conditional-clause-small c =
    conditional_small c.args.layout.now c.args.place.number _ c.variables-all.ensures.lawful c.requires.horizon (c.requires.number (sym c.is_conditional.ensures ∙ c.if-is_conditional.true)) c.conditional.ensures
