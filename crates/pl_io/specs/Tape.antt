-- What a tape handed over, and a tape in memory.
use Rattle.std.specs.Prelude.{◌≡◌, ◌≢◌, ℕ, List, [], ◌∷◌, ◌++◌, Option, None, Some, if◌then◌else◌}
use Rattle.std.specs.Str.{bytes_eq}
use Rattle.pl_io.specs.declared.lists.NamedFile.{NamedFile}
use Rattle.pl_io.specs.declared.tape.Reading.{Reading}
use Rattle.pl_io.specs.declared.tape.Reading.TheVariants.{Goes, Ended, Lost}

-- the names of the files that were opened, in their order, the bytes that were handed over of the one that was opened last, and how far
-- it was read
pub record Given : Type 0 where
  pub opened : List (List ℕ)
  pub bytes : List ℕ
  pub reading : Reading

-- the same once a file of this name was opened too
abbrev pub given_opened : Given → List ℕ → Given
given_opened given name = record { opened = given.opened ++ name ∷ []; bytes = []; reading = Goes }

-- how far a file was read after a piece more; a piece without bytes is its end, after which none has any
abbrev pub read_after : Reading → List ℕ → Reading
read_after Goes [] = Ended
read_after Goes (b ∷ bytes) = Goes
read_after Ended [] = Ended
read_after Ended (b ∷ bytes) = Lost
read_after Lost bytes = Lost

-- what was given with a piece more
abbrev pub given_more : Given → List ℕ → Given
given_more given bytes = record { opened = given.opened; bytes = given.bytes ++ bytes; reading = read_after given.reading bytes }

-- the same after a call that failed
abbrev pub given_lost : Given → Given
given_lost given = record { opened = given.opened; bytes = given.bytes; reading = Lost }

-- a file was opened, of this name and no other, and each call that read it since handed over what came next, or told its end
pub record IsReadOnce (old new : Given) (name : List ℕ) : Type 0 where
  pub opened : new.opened ≡ old.opened ++ name ∷ []
  pub sound : new.reading ≢ Lost

-- a file was opened, and nothing was read of it yet
pub record IsAtFront (given : Given) : Type 0 where
  pub none : given.bytes ≡ []
  pub goes : given.reading ≡ Goes

-- these may be the bytes of the whole file: those that were given are its first ones, and all where its end was told
pub record IsFileOf (given : Given) (file : List ℕ) : Type 0 where
  pub rest : List ℕ
  pub front : file ≡ given.bytes ++ rest
  pub all : given.reading ≡ Ended → rest ≡ []

-- the bytes of its one file, by its name
abbrev pub file_told : NamedFile → List ℕ → Option (List ℕ)
file_told file name = if bytes_eq file.name name then Some file.bytes else None
