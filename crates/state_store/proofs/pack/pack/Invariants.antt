use Rattle.std.proofs.Common.{◌≡◌, ◌++◌, ◌-◌, ◌≤◌, length}
use Rattle.std.specs.Prelude.{vec_capacity}
use Rattle.state_store.specs.Packed.{packed}
use Rattle.state_store.proofs.pack.pack.Given as goal

-- the words that were made and those of what is left are the row
abbrev pub invariant-loop-done : goal.invariant-loop-done
invariant-loop-done l = record {
  row : l.row.items ++ packed (l.width - l._done) l.rest ≡ packed l.width l.state;
  long : length l.row.items ≡ l._done;
  room : l.width ≤ vec_capacity l.row;
}
