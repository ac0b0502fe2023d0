use Rattle.std.proofs.Common.{arith, sym}
use Rattle.goal_choice.proofs.Kept.{walk_ends}
use Rattle.goal_choice.proofs.descent.walk_down.Goals as goal

pub returns-clause-choice : goal.returns-clause-choice
returns-clause-choice c =
    let zero = c.walking-test.false in
    sym (walk_ends (record { means = c.args.means.now; seen = c.args.values.now; wanted = c.walking.wanted.items; low = c.walking.low }) c.walking.invariant.walk (omega (arith, zero)))
