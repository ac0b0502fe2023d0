use Rattle.std.proofs.Common.{arith, ◌∙◌, Some, List, ℕ, sym, ap}
use Rattle.clause_base.proofs.JoinedLemmas.{after_at, below_at}
use Rattle.clause_base.proofs.formula.Formula.clause.Goals as goal

pub returns-clause-below : goal.returns-clause-below
returns-clause-below c =
    below_at _ _ _ _ c.args.number _ c.self.view_is c.self.invariant.below
    (after_at _ _ _ c.args.number c.count-told.result c.count-repeated.result _ c.count-told.ensures.value c.count-repeated.ensures.value (omega arith) (omega arith) (c.clause-2.ensures.value ∙ ap (λ (x : List ℕ). Some x) (sym c.of-2.ensures)))
