use Rattle.std.proofs.Common.{◌≡◌, length}
use Rattle.race.specs.Clears.{cleared}
use Rattle.race.specs.Runs.{AreUnfound}
use Rattle.race.specs.Tied.{race_state, IsTied}
use Rattle.race.proofs.racing.Racing.close.Given as goal

abbrev pub ghost-close_first : goal.ghost-close_first
ghost-close_first g a = g.input

abbrev pub invariant-closing : goal.invariant-closing
invariant-closing g l = record {
  tied : IsTied g.input l.self;
  unfound : AreUnfound l.self.runs.items;
  cleared : cleared (race_state l.self) ≡ cleared (race_state l.initial.self);
  rounds : l.self.rounds ≡ l.initial.self.rounds;
}

abbrev pub decreases-closing : goal.decreases-closing
decreases-closing g l = length l.self.runs.items
