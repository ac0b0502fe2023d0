use Rattle.std.proofs.Common.{◌≡◌, ◌≤◌}
use Rattle.goal_choice.specs.Walk.{support_of, walk}
use Rattle.goal_choice.specs.own.Kept.{walked}
use Rattle.goal_choice.proofs.descent.whole_walk.Given as goal

abbrev pub invariant-walking : goal.invariant-walking
invariant-walking l = record {
  reached : walked l.means l.values ≡ walk (support_of l.means l.values) l.time l.wanted.members;
  wanted : l.wanted.facts ≡ l.means.layout.facts;
  before : l.before.facts ≡ l.means.layout.facts;
  top : l.time ≤ l.means.layout.horizon;
}

abbrev pub decreases-walking : goal.decreases-walking
decreases-walking l = l.time
