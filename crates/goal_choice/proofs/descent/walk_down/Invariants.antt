use Rattle.std.proofs.Common.{◌≡◌, ◌≤◌}
use Rattle.goal_choice.specs.own.Kept.{IsWalk}
use Rattle.goal_choice.proofs.descent.walk_down.Given as goal

abbrev pub invariant-walking : goal.invariant-walking
invariant-walking l = record {
  walk : IsWalk (record { means = l.means; seen = l.values; wanted = l.wanted.items; low = l.low });
  before : l.before.facts ≡ l.means.layout.facts;
  lower : l.low ≤ l.from;
}

abbrev pub decreases-walking : goal.decreases-walking
decreases-walking l = l.low
