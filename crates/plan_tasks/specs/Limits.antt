-- What the files of a request are, in the order of the words, and how many bytes each may have.
use Rattle.std.specs.Prelude.{◌≤◌, ℕ, ◌+◌, ◌==◌, List, [], ◌∷◌, length, if◌then◌else◌}
use Rattle.plan_endings.specs.declared.ending.File.{File}
use Rattle.plan_endings.specs.declared.ending.File.TheVariants.{Domain, Problem, Proof}
use Rattle.containers.specs.Limits.{certificate_bytes, most_bytes}

-- how many bytes a file may have
abbrev pub most_of : File → ℕ
most_of Proof = certificate_bytes
most_of file = most_bytes

-- what the file at a place among those of a command is, by what the files after the first two are
abbrev pub file_in : File → ℕ → File
file_in third place = if place == 0 then Domain else if place == 1 then Problem else third

-- files from a place on have no more bytes than they may have
abbrev pub AreShort : (ℕ → File) → ℕ → List (List ℕ) → Type 0
AreShort file place [] = Unit {0}
AreShort file place (bytes ∷ others) = (length bytes ≤ most_of (file place)) × AreShort file (place + 1) others
