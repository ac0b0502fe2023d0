use Rattle.std.proofs.Common.{arith, ℕ, ◌+◌, ◌/◌, ◌<◌, List, [], ◌∷◌, ◌++◌, map, drop, get_or, sym, ap, ◌∙◌}
use Rattle.std.proofs.lemmas.List.{drop_more, drop_all, append-nil}
use Rattle.gt_core.specs.Literal.{opposite}
use Rattle.formula_defs.specs.Layout.{fact_at}
use Rattle.gt_core.proofs.published.Literals.{half_opposite}
use Rattle.formula_defs.specs.Clause.{code}
use Rattle.formula_defs.specs.Formula.{literal_over}
use Rattle.step_formula.proofs.Bounds.{each_place}
use Rattle.step_formula.proofs.Groups.{rest}
use Rattle.step_formula.proofs.effects.push_opposites.Goals as goal

pub literal_at-requires-clause-fact : goal.literal_at-requires-clause-fact
literal_at-requires-clause-fact c =
    let lit = get_or c.args.condition.now c.loop-lit.lit-index 0 in
    let h = half_opposite lit in
    let o = ap (λ (k : ℕ). k / 2) c.opposite.ensures in
    let w = each_place (λ (l : ℕ). l / 2 < c.args.layout.now.facts) c.args.condition.now c.loop-lit.lit-index 0 c.requires.within c.loop-lit-test.true in
    omega (arith, h, o, w)

pub loop-lit-preserved : goal.loop-lit-preserved
loop-lit-preserved c =
    let f = fact_at c.args.layout.now 0 in
    let lits = c.args.condition.now in
    let i = c.loop-lit.lit-index in
    rest _ c.loop-lit.lits.items c.push.new.self.items (code (literal_over f (opposite (get_or lits i 0))) ∷ []) (map code (map (λ m. literal_over f (opposite m)) (drop (i + 1) lits)))
    (c.loop-lit.invariant ∙ ap (λ (ls : List ℕ). c.loop-lit.lits.items ++ map code (map (λ m. literal_over f (opposite m)) ls)) (drop_more lits i 0 c.loop-lit-test.true))
    (c.in_ok-push.ensures.items ∙ ap (λ (k : ℕ). c.loop-lit.lits.items ++ k ∷ []) (c.literal_at.ensures ∙ ap (λ (k : ℕ). code (literal_over f k)) c.opposite.ensures))

pub returns : goal.returns
returns c =
    let f = fact_at c.args.layout.now 0 in
    sym (c.loop-lit.invariant
    ∙ ap (λ (ls : List ℕ). c.loop-lit.lits.items ++ map code (map (λ m. literal_over f (opposite m)) ls)) (drop_all c.loop-lit.lit-index c.args.condition.now c.loop-lit-test.false)
    ∙ append-nil c.loop-lit.lits.items)
