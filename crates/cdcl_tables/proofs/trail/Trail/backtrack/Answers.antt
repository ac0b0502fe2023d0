use Rattle.std.proofs.Common.{arith, refl, sym, ap, ◌∙◌, take}
use Rattle.cdcl_defs.specs.State.{decision_count}
use Rattle.cdcl_defs.specs.Learn.{backtracked}
use Rattle.cdcl_tables.specs.Mirrored.{TrailView}
use Rattle.cdcl_tables.proofs.published.Mirrors.{starts_fit, back_view, backtracked_all, same_view}
use Rattle.cdcl_tables.proofs.trail.Trail.backtrack.Goals as goal

pub index-requires : goal.index-requires
index-requires c =
    let t = c.self.inside in
    let fit = starts_fit t.variables t.entries.items t.values t.starts.items c.self.invariant.0 in
    omega (arith, fit.0, ap (λ (w : TrailView). decision_count w.entries) c.self.view_is, c.level.ensures, c.if-level.true, t.starts.ok)

pub keep-requires-clause-within : goal.keep-requires-clause-within
keep-requires-clause-within c =
    let t = c.self.inside in
    (back_view t.variables c.args.level c.index.result.now c.level.result t.entries.items t.values t.starts.items c.args.self.now c.self.invariant.0 c.self.view_is c.level.ensures c.if-level.true
    c.index.ensures).0

pub keep-requires-clause-level : goal.keep-requires-clause-level
keep-requires-clause-level c =
    let t = c.self.inside in
    (back_view t.variables c.args.level c.index.result.now c.level.result t.entries.items t.values t.starts.items c.args.self.now c.self.invariant.0 c.self.view_is c.level.ensures c.if-level.true
    c.index.ensures).1

pub returns-then-level : goal.returns-then-level
returns-then-level c =
    let w = c.args.self.now in
    let t = c.self.inside in
    let back =
    (back_view t.variables c.args.level c.index.result.now c.level.result t.entries.items t.values t.starts.items c.args.self.now c.self.invariant.0 c.self.view_is c.level.ensures
    c.if-level.true c.index.ensures).2 in
    c.keep.ensures ∙ same_view w.variables w.variables (take c.index.result.now w.entries) (backtracked c.args.level w.entries) refl (sym back)

pub returns-else-level : goal.returns-else-level
returns-else-level c =
    let w = c.args.self.now in
    same_view w.variables w.variables w.entries (backtracked c.args.level w.entries) refl (sym (backtracked_all c.args.level w.entries (omega (arith, c.level.ensures, c.if-level.false))))
