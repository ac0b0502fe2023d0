use Rattle.std.proofs.Common.{◌≡◌, ◌==◌, ◌%◌, ℕ, List, [], ◌∷◌, ◌++◌, Bool, true, false, if◌then◌else◌, refl, sym, ap, ◌∙◌}
use Rattle.gt_core.specs.Literal.{opposite}
use Rattle.formula_defs.specs.Layout.{fact_at}
use Rattle.formula_defs.specs.Clause.{code}
use Rattle.formula_defs.specs.Formula.{literal_over}
use Rattle.step_formula.specs.Rows.{row_of, meaning_of, result_of, made_by}
use Rattle.step_formula.proofs.EffectLaw.{result_codes, one_clause, two_parts}
use Rattle.step_formula.proofs.effects.add_effect.Goals as goal

same_unless : (b : Bool) (xs ys : List ℕ) → (b ≡ false → ys ≡ xs) → (if b then [] else xs) ≡ (if b then [] else ys)
same_unless true xs ys h = refl
same_unless false xs ys h = sym (h refl)

pub returns : goal.returns
returns c all over =
    let z = c.args.layout.now in
    let a = c.args.place.action in
    let e = c.args.effect.now in
    let r = row_of a c.args.place.number e in
    let lit = c.args.adders.now.lit in
    let vars = c.args.adders.now.vars.items in
    let noted : ℕ → List ℕ = λ k. if k % 2 == 0 then [] else (if lit == opposite k then vars else []) in
    let own : List ℕ = if e.literal % 2 == 0 then [] else made_by z a (opposite e.literal) all in
    two_parts (meaning_of z r) (result_of z all r ∷ []) c.args.clauses.now c.add_meaning.new.clauses c.add_clause.new.clauses c.in_ok-add_meaning.ensures
    (one_clause (result_of z all r) c.as_slice.result.now c.add_meaning.new.clauses c.add_clause.new.clauses
    (result_codes z a c.args.place.number c.effect_variable.result c.literal_at.result all e c.as_slice.result.now c.effect_variable.ensures.value
    (c.literal_at.ensures ∙ ap (λ (k : ℕ). code (literal_over (fact_at z 1) k)) c.lit.ensures)
    (c.as_slice.ensures.value ∙ c.in_ok-push_overruling.ensures
    ∙ ap (λ (k : ℕ). c.in_ok-lits.lits.items ++ noted k) c.lit-2.ensures
    ∙ ap (λ (xs : List ℕ). c.in_ok-lits.lits.items ++ xs) (same_unless (e.literal % 2 == 0) (if lit == opposite e.literal then vars else []) (made_by z a (opposite e.literal) all) over)
    ∙ ap (λ (xs : List ℕ). xs ++ own) c.in_ok-lits.ensures.items
    ∙ ap (λ (k : ℕ). k ∷ c.literal_at.result ∷ own) c.of.ensures))
    c.in_ok-add_clause.ensures)
