use Rattle.std.specs.Prelude.{ℕ, ◌+◌, ◌*◌, ◌≤◌}

-- how many steps, actions, conditional effects, chain variables and facts a horizon's formula has
pub record Layout : Type 0 where
  pub horizon : ℕ
  pub actions : ℕ
  pub conditional : ℕ
  pub chains : ℕ
  pub facts : ℕ

-- the variables of one step
abbrev pub width : Layout → ℕ
width z = z.actions + z.conditional + z.chains

-- the variable of an action in a step, from 0 to the horizon less one
abbrev pub action_at : Layout → ℕ → ℕ → ℕ
action_at z step a = step * width z + a

-- the variable of a conditional effect in a step
abbrev pub conditional_at : Layout → ℕ → ℕ → ℕ
conditional_at z step j = step * width z + z.actions + j

-- a chain variable in a step
abbrev pub chain_at : Layout → ℕ → ℕ → ℕ
chain_at z step c = step * width z + z.actions + z.conditional + c

-- the variable of a fact at a time, from 0 to the horizon
abbrev pub fact_at : Layout → ℕ → ℕ → ℕ
fact_at z time f = z.horizon * width z + time * z.facts + f

-- how many variables there are
abbrev pub variables : Layout → ℕ
variables z = z.horizon * width z + (z.horizon + 1) * z.facts

-- what each layout keeps: its variables have codes in 32 bits
abbrev pub IsLayout : Layout → Type 0
IsLayout z = variables z ≤ 2147483647
