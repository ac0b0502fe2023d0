-- A race between two rounds in which horizons start.
use Rattle.std.specs.Prelude.{◌≡◌}
use Rattle.race.specs.declared.filling.Filling.{Filling}
use Rattle.race.specs.declared.racing.Racing.{Racing}

-- the same race, by the views of its runs: whether they are made is no part of it
abbrev pub racing_of : Filling → Racing
racing_of f = record { window = f.window; ledger = f.ledger; last = f.last; runs = f.runs; lines = f.lines; rounds = f.rounds; ended = f.ended }

-- two races are the same, wherever their lists of runs lie
pub record IsSame (old new : Racing) : Type 0 where
  pub window : new.window ≡ old.window
  pub ledger : new.ledger ≡ old.ledger
  pub last : new.last ≡ old.last
  pub runs : new.runs.items ≡ old.runs.items
  pub lines : new.lines ≡ old.lines
  pub rounds : new.rounds ≡ old.rounds
