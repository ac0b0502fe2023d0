use Rattle.std.proofs.Common.{ℕ, subst}
use Rattle.conflict_analysis.specs.Analysis.{IsReady}
use Rattle.cdcl_core.proofs.Keeps.{kept_start}
use Rattle.cdcl_core.proofs.search.Search.over.Goals as goal

pub invariant_of-result : goal.invariant_of-result
invariant_of-result c =
    let ready = subst (λ (n : ℕ). IsReady n c.in_ok-new.field-0) c.variables-variables.ensures.value c.in_ok-new.ensures in
    kept_start c.args.formula c.new-2.result c.args.propagator c.in_ok-new.field-0 c.new-2.ensures c.requires ready c.count-lawful.ensures.lawful c.variables-variables.ensures.below
