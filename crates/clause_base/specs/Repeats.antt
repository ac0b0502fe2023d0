-- Clauses of one step and of one time, seen once for each step and for each time of a horizon.
use Rattle.std.specs.Prelude.{ℕ, ◌+◌, ◌-◌, ◌*◌, ◌≤◌, nat_lt, if◌then◌else◌, List, ◌++◌, map, length, All}
use Rattle.std.specs.List.{flat_map, range_with_len}
use Rattle.clause_base.specs.Clause.{HasVariablesBelow}

-- the code of a literal with its variable moved: `width` of them begin at `step`, and those after them at `facts`
abbrev pub moved_code : (width step facts : ℕ) → ℕ → ℕ
moved_code width step facts l = if nat_lt l (2 * width) then 2 * step + l else 2 * facts + (l - 2 * width)

-- how many steps there are, how many variables a step has of its own, how many facts there are, and the clauses of one step
-- and of one time: in those of a step its own variables come first, then the facts before and after it; in those of a time
-- fact f is variable f
pub record Repeats : Type 0 where
  pub horizon : ℕ
  pub width : ℕ
  pub facts : ℕ
  pub step : List (List ℕ)
  pub time : List (List ℕ)

-- the clauses of one step, moved to step t
abbrev pub step_part : Repeats → ℕ → List (List ℕ)
step_part r t = map (map (moved_code r.width (t * r.width) (r.horizon * r.width + t * r.facts))) r.step

-- the clauses of one time, moved to time t
abbrev pub time_part : Repeats → ℕ → List (List ℕ)
time_part r t = map (map (moved_code 0 0 (r.horizon * r.width + t * r.facts))) r.time

-- the clauses of all steps
abbrev pub all_steps : Repeats → List (List ℕ)
all_steps r = flat_map (step_part r) (range_with_len 0 r.horizon)

-- the clauses of all times
abbrev pub all_times : Repeats → List (List ℕ)
all_times r = flat_map (time_part r) (range_with_len 0 (r.horizon + 1))

-- the clauses of all steps, then those of all times
abbrev pub repeated : Repeats → List (List ℕ)
repeated r = all_steps r ++ all_times r

-- how many variables the steps and the times have
abbrev pub variables_of : Repeats → ℕ
variables_of r = r.horizon * r.width + (r.horizon + 1) * r.facts

-- the code of the first fact at a time
abbrev pub facts_at : Repeats → ℕ → ℕ
facts_at r t = 2 * (r.horizon * r.width + t * r.facts)

-- there are not too many clauses and variables, and the literals of one step and of one time are among theirs
pub record IsRepeatable (r : Repeats) : Type 0 where
  pub few : r.horizon * length r.step + (r.horizon + 1) * length r.time ≤ 1073741824
  pub small : variables_of r ≤ 2147483647
  pub step_below : All (HasVariablesBelow (r.width + 2 * r.facts)) r.step
  pub time_below : All (HasVariablesBelow r.facts) r.time
