-- What is worked out once of clauses that are seen for each step and for each time.
use Rattle.std.specs.Prelude.{ℕ, ◌≡◌, ◌+◌, ◌*◌, length, All}
use Rattle.clause_base.specs.Clause.{IsClause}
use Rattle.clause_base.specs.Repeats.{Repeats, IsRepeatable}

-- how many variables all steps have of their own, how many clauses one step, one time, all steps, and all steps and times have: worked
-- out once, so that a clause is found by its number with no count; what is repeated are clauses, so that none is tested as it is read
pub record IsSized (r : Repeats) (first per_step per_time steps all : ℕ) : Type 0 where
  pub is : IsRepeatable r
  pub step_lawful : All IsClause r.step
  pub time_lawful : All IsClause r.time
  pub first_is : first ≡ r.horizon * r.width
  pub per_step_is : per_step ≡ length r.step
  pub per_time_is : per_time ≡ length r.time
  pub steps_are : steps ≡ r.horizon * length r.step
  pub all_are : all ≡ r.horizon * length r.step + (r.horizon + 1) * length r.time
