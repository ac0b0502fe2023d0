use Rattle.std.proofs.Common.{arith, ◌<◌, ◌==◌, ℕ, ◌+◌, ◌*◌, ◌/◌, false, length, refl, get_or, ◌∙◌}
use Rattle.gt_core.proofs.published.Lists.{each_number}
use Rattle.step_chains.proofs.IndexLaw.{reads_next, none_left, marks_none}
use Rattle.step_chains.proofs.index.LinkIndex.add_condition.Goals as goal

pub loop-lit-preserved : goal.loop-lit-preserved
loop-lit-preserved c =
    let lit = get_or c.args.lits.now c.loop-lit.lit-index 0 in (
      c.mark_fact.ensures.long ∙ c.loop-lit.invariant.0,
      λ new rest. c.loop-lit.invariant.1 new
          (reads_next c.args.a (λ (l m : ℕ). l / 2 == m / 2) c.args.lits.now c.loop-lit.lit-index 0 lit c.loop-lit.self c.mark_fact.new.self new
          c.loop-lit-test.true refl c.in_ok-mark_fact.ensures.marks rest),
    )

pub returns-clause-marks : goal.returns-clause-marks
returns-clause-marks c =
    c.loop-lit.invariant.1 c.loop-lit.self
    (marks_none c.args.a (λ m. false) _ c.loop-lit.self (λ m. refl) (λ m. none_left (λ (l : ℕ). l / 2 == m / 2) c.args.lits.now c.loop-lit.lit-index c.loop-lit-test.false))

pub mark_fact-requires : goal.mark_fact-requires
mark_fact-requires c =
    let w = each_number (λ (l : ℕ). 2 * (l / 2) + 1 < length c.args.self.now) c.args.lits.now c.loop-lit.lit-index 0 c.requires c.loop-lit-test.true in
    let e = c.loop-lit.invariant.0 in
    omega (arith, w, e)
