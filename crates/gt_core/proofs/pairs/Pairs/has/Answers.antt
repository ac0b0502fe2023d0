use Rattle.std.proofs.Common.{sym, inl, inr, ◌⊎◌, ◌*◌, ◌≤◌}
use Rattle.gt_core.proofs.ClausesLaw.{no_clause_past}
use Rattle.gt_core.proofs.pairs.Pairs.has.Goals as goal
use Rattle.gt_core.proofs.pairs.Pairs.has.Goals.{then-l-side-via-then-l-side, then-l-side-via-else-l-side+then-m-side}

pub returns-then-l-side : goal.returns-then-l-side
returns-then-l-side c =
    let past : (2 * c.self.inside.facts ≤ c.args.l) ⊎ (2 * c.self.inside.facts ≤ c.args.m) = elim c.then-l-side.branch [
      | then-l-side-via-then-l-side w ↦ inl w.if-l-side.true
      | then-l-side-via-else-l-side+then-m-side w ↦ inr w.if-m-side.true
    ] in
    rw (← c.self.view_is) (sym (no_clause_past _ c.args.l c.args.m c.self.invariant.0 past))
