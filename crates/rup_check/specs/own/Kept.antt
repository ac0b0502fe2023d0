-- What the checker knows after some entries: a table of the clauses of the formula that were dropped, and the clauses that the
-- entries learned, but for those that were dropped.
use Rattle.std.specs.Prelude.{◌≡◌, ℕ, ◌+◌, ◌-◌, ◌≤◌, ◌&&◌, List, Bool, false, Option, None, length, nat_lt, slice_get, slice_index_or, if◌then◌else◌}
use Rattle.std.specs.List.{list_any}
use Rattle.std.specs.Option.{is_some}
use Rattle.clause_base.specs.Clause.{has_variables_below}
use Rattle.clause_base.specs.Derivation.{leads_to_conflict, clauses_of, drops, clause_kept}
use Rattle.clause_base.specs.declared.log.Entry.{Entry}
use Rattle.clause_base.specs.declared.log.Entry.TheVariants.{Learn, Drop}

-- whether the table says that a clause of the formula was dropped
abbrev pub is_dropped : List Bool → ℕ → Bool
is_dropped dropped number = slice_index_or dropped number false

-- the kept clause that a number names: the formula's come first, then those that were learned
abbrev pub kept_named : List (List ℕ) → List Bool → List (Option (List ℕ)) → ℕ → Option (List ℕ)
kept_named clauses dropped learned number =
    if nat_lt number (length clauses) then (if is_dropped dropped number then None else slice_get clauses number)
    else slice_index_or learned (number - length clauses) None

-- whether an entry is derived, by what is known
abbrev pub is_derived_by : ℕ → List (List ℕ) → List Bool → List (Option (List ℕ)) → Entry → Bool
is_derived_by variables clauses dropped learned (Learn clause hints) = has_variables_below variables clause && leads_to_conflict (kept_named clauses dropped learned) clause hints
is_derived_by variables clauses dropped learned (Drop number) = is_some (kept_named clauses dropped learned number)

-- this is what is known after these entries: each number names the clause that it names after them, and no number to come was dropped
pub record IsKnownAfter (clauses : List (List ℕ)) (earlier : List Entry) (dropped : List Bool) (learned : List (Option (List ℕ))) : Type 0 where
  pub named : (number : ℕ) → kept_named clauses dropped learned number ≡ clause_kept clauses earlier number
  pub count : length learned ≡ length (clauses_of earlier)
  pub later : (number : ℕ) → length clauses + length learned ≤ number → list_any (drops number) earlier ≡ false
