-- How values of variables are kept: for each literal by its code whether it is true.
use Rattle.std.specs.Prelude.{◌≡◌, ◌==◌, ℕ, ◌+◌, ◌*◌, ◌/◌, ◌%◌, ◌<◌, ◌≤◌, List, Bool, true, false, Option, Some, None, length, map, slice_index_or, if◌then◌else◌}
use Rattle.std.specs.List.{range_with_len}
use Rattle.clause_base.specs.Choice.{Known, same_value}

-- whether values make a literal true
abbrev pub says : Known → ℕ → Bool
says values l = same_value (slice_index_or values (l / 2) None) (Some (l % 2 == 0))

-- the value of a variable by the truths of its two literals
abbrev pub value_at : List Bool → ℕ → Option Bool
value_at on v = if slice_index_or on (2 * v) false then Some true else if slice_index_or on (2 * v + 1) false then Some false else None

-- the values of so many variables
abbrev pub values_of : ℕ → List Bool → Known
values_of n on = map (value_at on) (range_with_len 0 n)

-- the variables below this one have values
abbrev pub AreGivenBelow : ℕ → List Bool → Type 0
AreGivenBelow low on = (v : ℕ) → v < low → value_at on v ≡ None → ⊥

-- each of so many variables has two literals, which are never both true (so that a table can be read off the values), and those
-- below a place have values (so that a search for one without may begin there)
pub record AreTruths (n low : ℕ) (on : List Bool) : Type 0 where
  pub few : n ≤ 2147483647
  pub size : length on ≡ 2 * n
  pub one : (v : ℕ) → slice_index_or on (2 * v) false ≡ true → slice_index_or on (2 * v + 1) false ≡ false
  pub begins : low ≤ n
  pub passed : AreGivenBelow low on
