-- Clauses on a trail as their clients see them.
use Rattle.std.specs.Prelude.{ℕ, List, Bool}
use Rattle.cdcl_tables.specs.Assignment.{literals}
use Rattle.propagation.specs.Pending.{PropagatorView}

-- the clauses by number, which of them are kept, and the literals that are true, oldest first
pub record WatchesView : Type 0 where
  pub variables : ℕ
  pub clauses : List (List ℕ)
  pub kept : List Bool
  pub trail : List ℕ

-- what is watched, where reasons do not matter
abbrev pub without_reasons : PropagatorView → WatchesView
without_reasons p = record { variables = p.variables; clauses = p.clauses; kept = p.kept; trail = literals p.entries }
