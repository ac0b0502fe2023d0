-- Which clauses were pending at the lengths of the trail below the whole one.
use Rattle.std.specs.Prelude.{◌≡◌, ℕ, ◌+◌, ◌<◌, ◌≤◌, List, [], take, length, slice_index_or}
use Rattle.clause_base.specs.Clause.{has_literal}
use Rattle.cdcl_defs.specs.Pending.{is_pending_in}
use Rattle.cdcl_tables.specs.Assignment.{literals}
use Rattle.propagation.specs.Known.{AreListed}
use Rattle.propagation.specs.Pending.{PropagatorView}
use Rattle.propagation.specs.declared.known.PendingUpTo.{PendingUpTo}

-- what is known of a length
abbrev pub known_at : List PendingUpTo → ℕ → PendingUpTo
known_at known n = slice_index_or known n (record { numbers = []; from = 0 })

-- which clauses are pending where the trail has a length, of those that there were when it had
pub record IsKnown (p : PropagatorView) (n : ℕ) (known : PendingUpTo) : Type 0 where
  pub below : known.from ≤ length p.clauses
  pub listed : AreListed (is_pending_in p.clauses p.kept (has_literal (literals (take n p.entries)))) known.numbers known.from

-- so much is known of each length below that of the trail
pub record AreKnown (p : PropagatorView) (known : List PendingUpTo) : Type 0 where
  pub kept : length p.kept ≡ length p.clauses
  pub size : length known ≡ p.variables + 1
  pub each : (n : ℕ) → n < length p.entries → IsKnown p n (known_at known n)
