use Rattle.std.proofs.Common.{arith, ◌<◌, ◌∙◌, ◌∷◌, ◌+◌, ℕ, length, take, drop, sym, ap}
use Rattle.std.proofs.lemmas.List.{drop_more, drop_all}
use Rattle.cdcl_defs.specs.State.{decision_count}
use Rattle.conflict_analysis.proofs.Levels.{greatest_from, greatest_next}
use Rattle.conflict_analysis.proofs.backjump.backjump_level.Goals as goal

pub loop-lit-preserved : goal.loop-lit-preserved
loop-lit-preserved c =
    let es = c.args.trail.now.entries in
    let lits = c.args.lits.now in
    let index = c.loop-lit.lit-index in
    let greatest = decision_count (take c.loop-lit.length es) in
    let within : index < length lits = c.loop-lit-test.true in
    let rest = drop (index + 1) lits in
    let next = decision_count (take c.further-length.result es) in
    c.loop-lit.invariant
    ∙ ap (greatest_from es greatest) (drop_more lits index c.lit-item.result within)
    ∙ ap (λ (l : ℕ). greatest_from es greatest (l ∷ rest)) (sym c.lit-item.is)
    ∙ greatest_next es greatest next c.lit-item.result rest c.further-length.ensures

pub returns : goal.returns
returns c =
    let es = c.args.trail.now.entries in
    let greatest = decision_count (take c.loop-lit.length es) in
    c.level_within.ensures
    ∙ sym (c.loop-lit.invariant ∙ ap (greatest_from es greatest) (drop_all c.loop-lit.lit-index c.args.lits.now (omega (arith, c.loop-lit-test.false))))
