use Rattle.std.proofs.Common.{◌≡◌, ◌≤◌, length, take}
use Rattle.cdcl_defs.specs.State.{values_of}
use Rattle.cdcl_tables.proofs.trail.take_back.Given as goal

-- the values are those of the entries that are left
abbrev pub invariant-loop-place : goal.invariant-loop-place
invariant-loop-place l = record {
  within : l.kept ≤ l.place × (l.place ≤ length l.entries);
  values_are : l.values ≡ values_of (length l.initial.values) (take l.place l.entries);
}

abbrev pub decreases-loop-place : goal.decreases-loop-place
decreases-loop-place l = l.place
