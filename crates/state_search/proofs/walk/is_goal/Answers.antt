use Rattle.std.proofs.Common.{arith, ◌≡◌, ◌*◌, ◌/◌, ◌<◌, ℕ, List, length, sym, ap, subst}
use Rattle.std.specs.Prelude.{slice_index_or}
use Rattle.gt_core.proofs.published.Basics.{each_at}
use Rattle.gt_core.proofs.published.Within.{lawful, literals_within, among_at}
use Rattle.state_search.proofs.walk.is_goal.Goals as goal

pub holds-requires-clause-lit : goal.holds-requires-clause-lit
holds-requires-clause-lit c =
    let all = literals_within c.args.task.now.facts c.args.task.now.goal (lawful c.args.task.now c.facts.ensures.lawful).goal in
    let lt : c.loop-lit.lit-index < length c.args.task.now.goal = let e : length c.goal-lit-items.result.now ≡ length c.args.task.now.goal = ap length c.goal-lit-items.ensures in omega (arith, e, c.loop-lit-test.true) in
    let half : slice_index_or c.args.task.now.goal c.loop-lit.lit-index 0 / 2 < c.args.task.now.facts = each_at (λ n. n / 2 < c.args.task.now.facts) c.args.task.now.goal (slice_index_or c.args.task.now.goal c.loop-lit.lit-index 0) all (among_at c.args.task.now.goal c.loop-lit.lit-index 0 lt) in
    let whole : slice_index_or c.args.task.now.goal c.loop-lit.lit-index 0 < 2 * c.args.task.now.facts = omega (arith, half) in
    subst (λ (ls : List ℕ). slice_index_or ls c.loop-lit.lit-index 0 < 2 * c.args.task.now.facts) (sym c.goal-lit-items.ensures) whole
