use Rattle.std.proofs.Common.{◌≡◌, length, take}
use Rattle.goal_choice.proofs.told_walk.ToldWalk.untell.Given as goal

abbrev pub invariant-taking : goal.invariant-taking
invariant-taking l = record {
  told : take l.length l.self.told ≡ take l.length l.initial.self.told;
  means : l.self.means ≡ l.initial.self.means;
}

abbrev pub decreases-taking : goal.decreases-taking
decreases-taking l = length l.self.told
