use Rattle.std.proofs.Common.{arith, refl}
use Rattle.cdcl_tables.specs.Assignment.{literals}
use Rattle.propagation.proofs.published.Removes.{removed_sound, fewer_read}
use Rattle.propagation.proofs.propagator.Propagator.remove.Goals as goal

pub invariant_of-self : goal.invariant_of-self
invariant_of-self c =
    let w = c.self.inside in
    (removed_sound w.variables w.tables _ w.lists (literals w.trail.entries) w.quiet.items c.args.number c.self.invariant.0 refl refl refl refl (omega (arith, c.min-self-inside.ensures)) (omega (arith, c.min-self-inside.ensures)) (fewer_read w.tables.kept.items w.tables.store c.args.number c.self.invariant.0.tables.read) c.self.invariant.0.tables.packed, c.self.invariant.1, c.self.invariant.2)
