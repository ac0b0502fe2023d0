use Rattle.std.proofs.Common.{arith}
use Rattle.formula_defs.proofs.published.LayoutLaw.{start_within, step_within}
use Rattle.formula_defs.proofs.layout.Layout.step_start.Goals as goal

pub overflow_mul-result : goal.overflow_mul-result
overflow_mul-result c =
    let below = rw (← c.self.view_is) at c.requires in
    rw (c.from-4.ensures, c.from.ensures, c.from-2.ensures, c.from-3.ensures) (omega (arith, start_within _ c.args.step c.self.invariant below))

pub overflow_cast-result : goal.overflow_cast-result
overflow_cast-result c =
    let below = rw (← c.self.view_is) at c.requires in
    rw (c.from-4.ensures, c.from.ensures, c.from-2.ensures, c.from-3.ensures) (omega (arith, start_within _ c.args.step c.self.invariant below))

pub returns-clause-room : goal.returns-clause-room
returns-clause-room c =
    rw (c.from-4.ensures, c.from.ensures, c.from-2.ensures, c.from-3.ensures, ← c.self.view_is) (λ lt. step_within _ c.args.step c.self.invariant lt)
