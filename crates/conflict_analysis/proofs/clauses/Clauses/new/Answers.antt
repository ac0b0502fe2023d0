use Rattle.std.proofs.Common.{arith, ◌≤◌, ◌∙◌, ◌++◌, List, ap, sym, subst, length, replicate, true}
use Rattle.clause_base.specs.Derivation.{clauses_of}
use Rattle.clause_base.specs.declared.log.Entry.{Entry}
use Rattle.conflict_analysis.specs.Clauses.{kept_of}
use Rattle.conflict_analysis.specs.Longs.{long_ones}
use Rattle.conflict_analysis.proofs.Kept.{logged}
use Rattle.conflict_analysis.proofs.published.Longs.{long_none}
use Rattle.conflict_analysis.proofs.clauses.Clauses.new.Goals as goal

pub invariant_of-result : goal.invariant_of-result
invariant_of-result c =
    let f = c.args.formula in
    let given = length f.clauses in (
      subst (λ (l : List Entry). length (clauses_of l) ≤ 1073741824) (sym c.new.ensures) (omega arith),
      c.new-2.ensures.items ∙ sym (long_none given f.clauses (replicate given true) (omega arith)) ∙ ap (λ (l : List Entry). long_ones given (f.clauses ++ clauses_of l) (kept_of given l)) (sym c.new.ensures),
    )

pub returns : goal.returns
returns c = ap (logged c.args.formula) c.new.ensures
