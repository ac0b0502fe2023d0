use Rattle.std.proofs.Common.{◌≡◌, ◌-◌, length}
use Rattle.race.specs.own.Filling.{racing_of}
use Rattle.race.specs.Runs.{AreLow}
use Rattle.race.specs.Starts.{filled}
use Rattle.race.specs.Tied.{race_state, IsTied, KeepsBooks}
use Rattle.race.proofs.filling.Filling.fill.Given as goal

abbrev pub ghost-startable : goal.ghost-startable
ghost-startable g a = g.input

abbrev pub ghost-start : goal.ghost-start
ghost-start g a = g.input

abbrev pub invariant-loop-horizon : goal.invariant-loop-horizon
invariant-loop-horizon g l = record {
  tied : IsTied g.input (racing_of l.self);
  low : AreLow l.self.runs.items;
  filled : filled g.input (race_state (racing_of l.self)) ≡ filled g.input (race_state (racing_of l.initial.self));
  books : KeepsBooks (racing_of l.initial.self) (racing_of l.self);
}

abbrev pub decreases-loop-horizon : goal.decreases-loop-horizon
decreases-loop-horizon g l = g.input.rates.width - length l.self.runs.items
