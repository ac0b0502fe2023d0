-- What the files of a request are, in the order of the words.
use Rattle.std.specs.Prelude.{ℕ}
use Rattle.plan_endings.specs.declared.ending.File.{File}
use Rattle.plan_endings.specs.declared.ending.File.TheVariants.{Problem, Plan, Proof}
use Rattle.requests.specs.Seen.{Seen, verifies, batches, generates}
use Rattle.plan_tasks.specs.Limits.{file_in}

-- what the files after the first two of a request are
abbrev pub third_of : Seen → File
third_of (verifies d p c) = Proof
third_of (batches d ps n t) = Problem
third_of request = Plan

-- what the file at a place among those of a request is
abbrev pub file_at : Seen → ℕ → File
file_at request = file_in (third_of request)

-- a domain, a problem and at most one file beside them
abbrev pub HasFiles : Seen → Type 0
HasFiles (generates k n s w) = ⊥
HasFiles (batches d ps n t) = ⊥
HasFiles request = Unit {0}
