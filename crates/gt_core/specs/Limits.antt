-- How large a task may be.
use Rattle.std.specs.Prelude.{ℕ}
use Rattle.gt_core.specs.declared.limits.Limits.{Limits}

-- how many facts a task may have
abbrev pub most_facts : ℕ
most_facts = 2048

-- how many actions a task may have
abbrev pub most_actions : ℕ
most_actions = 16384

-- how many effects with a condition a task may have
abbrev pub most_conditional : ℕ
most_conditional = 65536

-- how many facts a task may have from which states are searched
abbrev pub most_wide_facts : ℕ
most_wide_facts = 65536

-- how many actions such a task may have
abbrev pub most_wide_actions : ℕ
most_wide_actions = 1048576

-- how many effects with a condition such a task may have
abbrev pub most_wide_conditional : ℕ
most_wide_conditional = 4194304

-- the limits of what is encoded: tables of pairs of facts are made of it
abbrev pub race_limits : Limits
race_limits = record { facts = most_facts; actions = most_actions; conditional = most_conditional }

-- the limits of what is searched state by state
abbrev pub wide_limits : Limits
wide_limits = record { facts = most_wide_facts; actions = most_wide_actions; conditional = most_wide_conditional }
