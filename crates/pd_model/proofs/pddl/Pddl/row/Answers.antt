use Rattle.pd_model.proofs.LineLaw.{ordered, row_is, row_length}
use Rattle.pd_model.proofs.pddl.Pddl.row.Goals as goal

pub between-requires-clause-ordered : goal.between-requires-clause-ordered
between-requires-clause-ordered c =
    let i = c.self.invariant in
    rw (c.entry.ensures, c.exit.ensures) (ordered c.self.inside.parts _ _ c.self.inside.line.items (i.0) (i.1) (i.2) c.args.kind)

pub returns-clause-length : goal.returns-clause-length
returns-clause-length c =
    let i = c.self.invariant in
    rw (c.between.ensures, c.entry.ensures, c.exit.ensures, c.deref.ensures.value, ← c.self.view_is) (row_length c.self.inside.parts _ _ c.self.inside.line.items (i.0) (i.1) (i.2) c.args.kind)

pub returns-clause-same : goal.returns-clause-same
returns-clause-same c q =
    let i = c.self.invariant in
    rw (c.between.ensures, c.entry.ensures, c.exit.ensures, c.deref.ensures.value, ← c.self.view_is) (row_is c.self.inside.parts _ _ c.self.inside.line.items (i.0) (i.1) (i.2) c.args.kind q)
