use Rattle.std.proofs.Common.{◌∙◌, ℕ, max, take, refl, sym, ap}
use Rattle.cdcl_defs.specs.State.{decision_count}
use Rattle.cdcl_tables.proofs.published.Levels.{decisions_max}
use Rattle.conflict_analysis.proofs.backjump.further.Goals as goal

pub returns-then-is_current : goal.returns-then-is_current
returns-then-is_current c = rw (sym c.is_current.ensures.current ∙ c.if-is_current.true) refl

pub returns : goal.returns
returns c =
    let es = c.args.trail.now.entries in
    rw (sym c.is_current.ensures.current ∙ c.if-is_current.false)
    (ap (λ (k : ℕ). decision_count (take k es)) c.max.ensures
    ∙ decisions_max c.args.length c.length_with.result es
    ∙ ap (λ (x : ℕ). max (decision_count (take c.args.length es)) x) c.length_with.ensures.level)
