use Rattle.std.proofs.Common.{◌≡◌, ◌+◌, ◌≤◌, ◌++◌, take, drop, count_by}
use Rattle.gt_core.specs.Lawful.{is_conditional}
use Rattle.formula_defs.specs.Coded.{coded}
use Rattle.step_formula.specs.Rows.{rows_of, effects_of}
use Rattle.step_formula.specs.own.Adders.{IsAdders}
use Rattle.step_formula.proofs.effects.add_effects_of.Given as goal

abbrev pub invariant-loop-effect : goal.invariant-loop-effect
invariant-loop-effect l =
    (l.number + count_by is_conditional (drop l.effect-index l.effects) ≤ l.layout.conditional)
    × (l.initial.clauses ++ coded (effects_of l.layout (rows_of l.action l.first l.effects) (rows_of l.action l.first l.effects))
    ≡ l.clauses ++ coded (effects_of l.layout (rows_of l.action l.first l.effects) (rows_of l.action l.number (drop l.effect-index l.effects))))
    × (l.number ≡ l.first + count_by is_conditional (take l.effect-index l.effects))
    × IsAdders l.layout l.action l.first (take l.effect-index l.effects) l.adders.lit l.adders.vars.items
