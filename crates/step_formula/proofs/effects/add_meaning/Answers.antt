use Rattle.std.proofs.Common.{◌≡◌, ℕ, ◌+◌, ◌*◌, List, [], ◌∷◌, ◌++◌, map, true, refl, sym, ap, ◌∙◌}
use Rattle.std.specs.List.{cons_option}
use Rattle.gt_core.specs.Literal.{opposite}
use Rattle.gt_core.specs.Lawful.{is_conditional}
use Rattle.formula_defs.specs.Layout.{action_at, fact_at}
use Rattle.clause_base.specs.Clause.{clause_of}
use Rattle.formula_defs.specs.Clause.{Is, Not}
use Rattle.formula_defs.specs.Formula.{literal_over}
use Rattle.formula_defs.specs.Coded.{coded}
use Rattle.step_formula.proofs.EffectLaw.{meaning_parts}
use Rattle.step_formula.proofs.effects.add_meaning.Goals as goal

pub returns : goal.returns
returns c =
    let z = c.args.layout.now in
    let v = c.effect_variable-variable.result in
    let t : is_conditional c.args.effect.now ≡ true = sym c.is_conditional.ensures ∙ c.if-not-is_conditional.false in
    meaning_parts z c.args.place.action c.args.place.number c.args.effect.now v c.args.effect.now.condition c.args.clauses.now c.add_clause.new.clauses c.add_conditions.new.clauses c.add_reason.new.clauses t c.effect_variable-variable.ensures.value refl
    (c.in_ok-add_clause.ensures
    ∙ ap (λ (k : ℕ). c.args.clauses.now ++ cons_option (clause_of (k ∷ c.of-in_step.result ∷ [])) []) c.of.ensures
    ∙ ap (λ (k : ℕ). c.args.clauses.now ++ cons_option (clause_of ((2 * v + 1) ∷ k ∷ [])) []) c.of-in_step.ensures
    ∙ ap (λ (k : ℕ). c.args.clauses.now ++ cons_option (clause_of ((2 * v + 1) ∷ (2 * k) ∷ [])) []) c.action_variable.ensures.value)
    (c.in_ok-add_conditions.ensures
    ∙ ap (λ (ls : List ℕ). c.add_clause.new.clauses ++ coded (map (λ m. Not v ∷ literal_over (fact_at z 0) m ∷ []) ls)) c.cond.ensures)
    (c.in_ok-add_reason.ensures
    ∙ ap (λ (ls : List ℕ). c.add_conditions.new.clauses ++ coded ((Is v ∷ Not (action_at z 0 c.args.place.action) ∷ map (λ m. literal_over (fact_at z 0) (opposite m)) ls) ∷ [])) c.cond-2.ensures)
