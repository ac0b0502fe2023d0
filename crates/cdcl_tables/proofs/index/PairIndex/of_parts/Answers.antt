use Rattle.std.proofs.Common.{ℕ, ◌*◌, ◌<◌, ◌≤◌, ◌++◌, length, All, arith}
use Rattle.std.specs.Arc.{arc_value}
use Rattle.clause_base.specs.Repeats.{repeated}
use Rattle.cdcl_tables.proofs.Exacts.{within_of}
use Rattle.cdcl_tables.proofs.Whole.{all_left, all_right, index_is}
use Rattle.cdcl_tables.proofs.index.PairIndex.of_parts.Goals as goal

pub invariant_of-result : goal.invariant_of-result
invariant_of-result c =
    let rest = repeated (record { horizon = c.args.shape.horizon; width = c.args.shape.width; facts = c.args.shape.facts; step = c.args.step.now; time = c.args.time.now }) in
    let tolds : length c.args.told.now ≤ c.args.shape.tolds = omega arith in
    let times : length c.args.time.now ≤ c.args.shape.times = omega arith in
    let afters : length c.args.after.now ≤ c.args.shape.afters = omega arith in (
      c.requires.shape,
      record {
        told_within = within_of (2 * c.args.shape.variables) c.args.shape.tolds c.args.told.now c.in_ok-told.told tolds (all_left (All (λ (l : ℕ). l < 2 * c.args.shape.variables)) c.args.told.now (rest ++ c.args.after.now) c.requires.parts.below) c.in_ok-told.ensures;
        step_within = c.in_ok-step.ensures.within;
        time_within = within_of (2 * c.args.shape.facts) c.args.shape.times c.args.time.now (arc_value c.in_ok-time.time) times c.requires.parts.time_below c.in_ok-time.ensures;
        after_within = within_of (2 * c.args.shape.variables) c.args.shape.afters c.args.after.now c.in_ok-after.after afters (all_right (All (λ (l : ℕ). l < 2 * c.args.shape.variables)) rest c.args.after.now (all_right (All (λ (l : ℕ). l < 2 * c.args.shape.variables)) c.args.told.now (rest ++ c.args.after.now) c.requires.parts.below)) c.in_ok-after.ensures;
      },
      c.are_plain-plain.ensures,
    )

pub returns : goal.returns
returns c = index_is c.args.shape c.args.told.now c.args.step.now c.args.time.now c.args.after.now c.in_ok-told.told (arc_value c.in_ok-step.step) (arc_value c.in_ok-time.time) c.in_ok-after.after c.requires.shape c.requires.parts c.in_ok-told.ensures c.in_ok-step.ensures.some c.in_ok-time.ensures c.in_ok-after.ensures
