-- Taking the files of a request from a shelf.
use Rattle.std.specs.Prelude.{◌≡◌, ◌⊎◌, ◌≤◌, ℕ, ◌+◌, List, [], ◌∷◌, ◌++◌, length, false, Option, Some, None}
use Rattle.pl_io.specs.Outside.{Heard, whole, IsSo, FaultRose, fault_count}
use Rattle.requests.specs.Among.{AreAmong}
use Rattle.plan_tasks.specs.Limits.{most_of}
use Rattle.plan_endings.specs.declared.ending.File.{File}
use Rattle.plan_endings.specs.declared.ending.Ending.{Ending}
use Rattle.plan_endings.specs.declared.ending.Ending.TheVariants.{TooLong, ReadFault}

-- The names at which a shelf failed are the old ones, followed by names among these, at most one for each.
abbrev pub NotesAmong : List (List ℕ) → List (List ℕ) → List (List ℕ) → Type 0
NotesAmong names old new = (noted : List (List ℕ)) × (new ≡ old ++ noted) × AreAmong names noted

-- the count of faults of one of these names rose
abbrev pub RoseAmong : List (List ℕ) → List (List ℕ) → List (List ℕ) → Type 0
RoseAmong [] old new = ⊥
RoseAmong (name ∷ names) old new = FaultRose name old new ⊎ RoseAmong names old new

-- no count of faults falls
abbrev pub Rises : List (List ℕ) → List (List ℕ) → Type 0
Rises old now = (name : List ℕ) → fault_count name old ≤ fault_count name now

-- ---- what was handed over of a file

-- all of the file, which are these bytes, and no more than it may have
abbrev pub IsWhole : File → List ℕ → Heard → List ℕ → Type 0
IsWhole file name heard bytes = (heard ≡ whole name bytes) × (length bytes ≤ most_of file)

-- as many bytes as it may have, and the file has more
abbrev pub IsFront : File → List ℕ → Heard → Type 0
IsFront file name heard = (front : List ℕ) × (heard ≡ (name, (false, front))) × (length front ≡ most_of file)

-- all of it, or a front
abbrev pub IsWholeOrFront : File → List ℕ → Heard → Option (List ℕ) → Type 0
IsWholeOrFront file name heard (Some bytes) = IsWhole file name heard bytes
IsWholeOrFront file name heard None = IsFront file name heard

-- something such was kept of it
abbrev pub IsKept : {X : Type 0} → (File → List ℕ → Heard → X → Type 0) → File → List ℕ → Heard → Type 0
IsKept {X = X} is file name heard = (x : X) × is file name heard x

-- ---- what was handed over of files, in the order of their names

-- of each of the files of these names from a place on this was handed over, and such was kept of it
abbrev pub AreKept : {X : Type 0} → (File → List ℕ → Heard → X → Type 0) → (ℕ → File) → ℕ → List (List ℕ) → List Heard → List X → Type 0
AreKept is file place [] [] [] = Unit {0}
AreKept is file place (name ∷ names) (heard ∷ took) (x ∷ others) = is (file place) name heard x × AreKept is file (place + 1) names took others
AreKept is file place _ _ _ = ⊥

-- all of each
abbrev pub AreTaken : (ℕ → File) → ℕ → List (List ℕ) → List Heard → List (List ℕ) → Type 0
AreTaken file place names took files = AreKept IsWhole file place names took files

-- of each all, or a front
abbrev pub AreTakenOrLong : (ℕ → File) → ℕ → List (List ℕ) → List Heard → List (Option (List ℕ)) → Type 0
AreTakenOrLong file place names took files = AreKept IsWholeOrFront file place names took files

-- One of the files of these names from a place on, which are taken in order, ends the run so, and those before it let it go on. Of
-- the files after it nothing was handed over.
abbrev pub OneEnds : (File → List ℕ → List Heard → Ending → Type 0) → (File → List ℕ → Heard → Type 0) → (ℕ → File) → ℕ → List (List ℕ) → List Heard → Ending → Type 0
OneEnds ends goes file place [] took end = ⊥
OneEnds ends goes file place (name ∷ names) [] end = ends (file place) name [] end
OneEnds ends goes file place (name ∷ names) (heard ∷ took) end =
    ends (file place) name (heard ∷ took) end ⊎ (goes (file place) name heard × OneEnds ends goes file (place + 1) names took end)

-- what was handed over is of these files, in their order
abbrev pub AreOf : List (List ℕ) → List Heard → Type 0
AreOf files [] = Unit {0}
AreOf [] (heard ∷ took) = ⊥
AreOf (file ∷ files) (heard ∷ took) = IsSo file heard.1.0 heard.1.1 × AreOf files took

-- ---- why a file ends a run

-- the faults of a shelf before and after
module _ (old new : List (List ℕ)) where
  -- the file could not be read, and nothing was handed over of it
  abbrev pub IsFault : File → List ℕ → List Heard → Ending → Type 0
  IsFault file name took end = (end ≡ ReadFault file) × FaultRose name old new × (took ≡ [])

  -- that, or it has more bytes than it may have
  abbrev pub Stops : File → List ℕ → List Heard → Ending → Type 0
  Stops file name took end = IsFault file name took end ⊎ ((end ≡ TooLong file) × ((heard : Heard) × (took ≡ heard ∷ []) × IsFront file name heard))

  -- one of the files from a place on, which are taken in order, was not taken whole, and those before it were
  abbrev pub StopsFrom : (ℕ → File) → ℕ → List (List ℕ) → List Heard → Ending → Type 0
  StopsFrom file place names took end = OneEnds Stops (IsKept IsWhole) file place names took end

  -- one of the files from a place on, which are taken in order, could not be read; those before it were, all of each or a front
  abbrev pub FaultsFrom : (ℕ → File) → ℕ → List (List ℕ) → List Heard → Ending → Type 0
  FaultsFrom file place names took end = OneEnds IsFault (IsKept IsWholeOrFront) file place names took end
