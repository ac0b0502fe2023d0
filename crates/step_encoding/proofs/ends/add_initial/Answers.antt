use Rattle.std.proofs.Common.{arith, ◌≡◌, ℕ, Bool, List, [], ◌∷◌, if◌then◌else◌, ap, ◌∙◌}
use Rattle.std.specs.List.{flat_map}
use Rattle.gt_core.specs.Literal.{range}
use Rattle.formula_defs.specs.Layout.{fact_at}
use Rattle.formula_defs.specs.Clause.{Is, Not, code}
use Rattle.step_encoding.specs.own.Parts.{added}
use Rattle.step_encoding.proofs.Parts.{added_more, one_longer, initial_part, initial_parts}
use Rattle.step_encoding.proofs.ends.add_initial.Goals as goal

pub loop-f-preserved : goal.loop-f-preserved
loop-f-preserved c =
    let z = c.args.layout.now in
    let one = one_longer c.loop-f.formula c.add_single.new.formula _ c.in_ok-add_single.ensures in (
      added_more c.args.formula.now (initial_part z c.args.task.now) c.loop-f.f c.loop-f.formula c.add_single.new.formula c.loop-f.invariant.0
          (c.in_ok-add_single.ensures ∙ ap (λ (l : ℕ). added c.loop-f.formula ((l ∷ []) ∷ []))
          (c.fact_lit.ensures.code ∙ ap (λ (b : Bool). code (if b then Is (fact_at z 0 c.loop-f.f) else Not (fact_at z 0 c.loop-f.f))) c.initial_value.ensures)),
      let more = c.loop-f.invariant.1 in omega (arith, one, more),
    )

pub returns-clause-added : goal.returns-clause-added
returns-clause-added c =
    let t = c.args.task.now in
    let e : c.loop-f.f ≡ t.facts = let a = c.loop-f-test.false in let b = c.loop-f.auto.f-end in let f = c.facts-f-end.ensures.facts in omega (arith, a, b, f) in
    c.loop-f.invariant.0
    ∙ ap (λ (k : ℕ). added c.args.formula.now (flat_map (initial_part c.args.layout.now t) (range k))) e
    ∙ ap (λ (cs : List (List ℕ)). added c.args.formula.now cs) (initial_parts c.args.layout.now t)
