use Rattle.std.proofs.Common.{◌≡◌, drop}
use Rattle.gt_core.specs.Literal.{state_of, all_hold}
use Rattle.state_search.proofs.walk.is_goal.Given as goal

-- the goal holds where the literals that are left hold
abbrev pub invariant-loop-lit : goal.invariant-loop-lit
invariant-loop-lit l = all_hold (state_of l.state) (drop l.lit-index l.lit-items) ≡ all_hold (state_of l.state) l.task.goal
