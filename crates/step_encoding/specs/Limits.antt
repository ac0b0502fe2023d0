-- How many literals a formula may have.
use Rattle.std.specs.Prelude.{ℕ}

-- how many literals a formula has at most that is made
abbrev pub most_literals : ℕ
most_literals = 16000000

-- how many literals a formula has at most that the planner searches, or that a certificate is checked over
abbrev pub planner_literals : ℕ
planner_literals = 4000000
