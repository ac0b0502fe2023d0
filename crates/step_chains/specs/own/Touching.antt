-- The members that touch a fact literal.
use Rattle.std.specs.Prelude.{ℕ, List, Bool, ◌||◌, map}
use Rattle.std.specs.List.{filter}
use Rattle.gt_core.specs.Interference.{takes, reads}
use Rattle.gt_core.specs.Task.{Task}
use Rattle.step_chains.specs.declared.link.Link.{Link}

-- an action beside a fact literal
abbrev pub link_of : Task → ℕ → ℕ → Link
link_of task m a = record { action = a; takes = takes task m a; reads = reads task m a }

-- a member takes the literal or reads it
abbrev pub touches : Link → Bool
touches k = k.takes || k.reads

-- the members that touch a literal
abbrev pub links_of : Task → ℕ → List ℕ → List Link
links_of task m members = filter touches (map (link_of task m) members)
