use Rattle.std.proofs.Common.{arith, ◌+◌, ◌≤◌, length, sym, subst}
use Rattle.clause_base.specs.Repeats.{Repeats, repeated, variables_of}
use Rattle.clause_base.proofs.JoinedLemmas.{joined_part}
use Rattle.clause_base.proofs.formula.Formula.repeat.Goals as goal

pub invariant_of-result : goal.invariant_of-result
invariant_of-result c =
    let e = c.in_ok-part.ensures in
    let fits = subst (λ (r : Repeats). variables_of r ≤ c.args.self.variables) (sym e) c.requires.fits in
    let room = subst (λ (r : Repeats). length c.args.self.clauses + length (repeated r) ≤ 1073741824) (sym e) c.requires.room in
    joined_part _ _ _ _ _ c.in_ok-part.part c.args.self c.new.result c.count-told.result c.count-repeated.result c.self.view_is c.self.invariant c.count-told.ensures.value (omega arith) c.count-repeated.ensures.value (omega arith) c.new.ensures fits room c.count-below.ensures.below
