-- The names of the files that a command takes, and their bytes, in the order of the words.
use Rattle.std.specs.Prelude.{ℕ, List, [], ◌∷◌, Option, Some, None}
use Rattle.std.specs.Borrow.{Bor}
use Rattle.plan_tasks.specs.declared.take.Names.{Names}
use Rattle.plan_tasks.specs.declared.take.Files.{Files}

-- the name of a third file, where there is one
abbrev pub third_name : Option (Bor (List ℕ)) → List (List ℕ)
third_name None = []
third_name (Some name) = name.now ∷ []

-- the names
abbrev pub names_of : Names → List (List ℕ)
names_of names = names.domain.now ∷ names.problem.now ∷ third_name names.third

-- the bytes of a third file, where there is one
abbrev pub third_bytes : Option (List ℕ) → List (List ℕ)
third_bytes None = []
third_bytes (Some bytes) = bytes ∷ []

-- the bytes
abbrev pub bytes_of : Files → List (List ℕ)
bytes_of files = files.domain ∷ files.problem ∷ third_bytes files.third
