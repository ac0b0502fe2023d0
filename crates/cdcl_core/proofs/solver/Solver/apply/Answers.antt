use Rattle.std.proofs.Common.{arith, ◌≡◌, ◌∙◌, List, true, length, ap, sym, subst}
use Rattle.clause_base.specs.Formula.{Cnf}
use Rattle.cdcl_defs.specs.declared.trail.Assigned.{Assigned}
use Rattle.cdcl_defs.specs.Run.{is_conflict}
use Rattle.cdcl_core.proofs.Told.{told_on}
use Rattle.cdcl_core.proofs.solver.Solver.apply.Goals as goal

pub invariant_of-self : goal.invariant_of-self
invariant_of-self g c =
    let long = ap (λ (ts : List Assigned). length ts) c.entries-length.ensures.value in
    let back : is_conflict c.args.event ≡ true = sym c.is_conflict-takes_back.ensures ∙ c.if-takes_back.true in (
      subst (λ (f : Cnf). g.C.Chooser.fits c.self.inside.chooser f.variables) (sym c.apply-done.ensures.formula) c.self.invariant.0,
      told_on (g.C.Chooser.knows c.self.inside.chooser c.self.inside.told) c.self.inside.kept _ c.args.event c.self.inside.search c.apply-done.new.self c.apply-done.result c.apply-done.ensures.ok c.apply-done.ensures.spoilt (rw back (omega (arith, long))) c.self.invariant.1,
    )
