use Rattle.std.proofs.Common.{◌≡◌, ℕ, List, ap, ◌∙◌}
use Rattle.cdcl_defs.specs.declared.trail.Assigned.{Assigned}
use Rattle.cdcl_tables.specs.Mirrored.{TrailView}
use Rattle.propagation.specs.Pending.{PropagatorView}
use Rattle.propagation.proofs.propagator.Propagator.trail.Goals as goal

same_view : (n m : ℕ) (es fs : List Assigned) → n ≡ m → es ≡ fs
    → (let x : TrailView = record { variables = n; entries = es } in x) ≡ (let y : TrailView = record { variables = m; entries = fs } in y)
same_view n m es fs e f = cc

pub returns : goal.returns
returns c =
    let w = c.self.inside in
    same_view w.trail.variables c.args.self.now.variables w.trail.entries c.args.self.now.entries
    (c.self.invariant.2 ∙ ap (λ (v : PropagatorView). v.variables) c.self.view_is) (ap (λ (v : PropagatorView). v.entries) c.self.view_is)
