-- A shelf in memory.
use Rattle.std.specs.Prelude.{ℕ, List, [], ◌∷◌, Option, None, Some, Bool, is_none, if◌then◌else◌}
use Rattle.std.specs.Str.{bytes_eq}
use Rattle.pl_io.specs.Outside.{Heard}
use Rattle.pl_io.specs.declared.lists.NamedFile.{NamedFile}

-- the files, the numbers of the calls that fail, how many calls there were, the names at which the shelf failed, and
-- what it handed over
pub record ShelfInMemory : Type 0 where
  pub files : List NamedFile
  pub failing : List ℕ
  pub calls : ℕ
  pub failed : List (List ℕ)
  pub heard : List Heard

-- the bytes of the first file of this name
abbrev pub bytes_at : List NamedFile → List ℕ → Option (List ℕ)
bytes_at [] name = None
bytes_at (file ∷ files) name = if bytes_eq file.name name then Some file.bytes else bytes_at files name

-- no file has this name
abbrev pub has_none : List NamedFile → List ℕ → Bool
has_none files name = is_none (bytes_at files name)
