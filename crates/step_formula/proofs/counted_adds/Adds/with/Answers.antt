use Rattle.std.proofs.Common.{◌==◌, ap, sym, refl}
use Rattle.step_formula.proofs.CountLaw.{counted_again, counted_first}
use Rattle.step_formula.proofs.counted_adds.Adds.with.Goals as goal

pub returns-then-lit-self-clause-count : goal.returns-then-lit-self-clause-count
returns-then-lit-self-clause-count c before sorted is =
    counted_again c.args.self _ c.args.effect.now c.one_if-count.result (c.lit.result == c.add_of_fact-lit.result) c.is_sure-sure.result c.add_of_fact-lit.ensures
    (ap (λ k. k == c.add_of_fact-lit.result) c.lit.ensures) c.is_sure-sure.ensures c.one_if-count.ensures.value before sorted is (sym c.if-lit-self.true) refl refl

pub returns-clause-count : goal.returns-clause-count
returns-clause-count c before sorted is =
    counted_first c.args.self _ c.args.effect.now c.one_if-count.result (c.lit.result == c.add_of_fact-lit.result) c.is_sure-sure.result c.add_of_fact-lit.ensures
    (ap (λ k. k == c.add_of_fact-lit.result) c.lit.ensures) c.is_sure-sure.ensures c.one_if-count.ensures.value before sorted is (λ q. c.if-lit-self.false (sym q)) refl refl
