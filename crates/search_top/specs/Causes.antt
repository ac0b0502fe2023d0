-- When each ending of a run comes.
use Rattle.std.specs.Prelude.{◌≡◌, ◌⊎◌, ℕ, List, [], ◌++◌, Some, None}
use Rattle.pl_io.specs.Outside.{Heard, Rose}
use Rattle.plan_tasks.specs.Limits.{file_in}
use Rattle.plan_tasks.specs.Files.{AreTaken, StopsFrom, RoseAmong}
use Rattle.plan_endings.specs.declared.ending.Ending.{Ending}
use Rattle.plan_endings.specs.declared.ending.File.TheVariants.{Proof}
use Rattle.proof_verdict.specs.Verdict.{TapeRun}
use Rattle.search_top.specs.Seen.{Seen, names_of}
use Rattle.search_top.specs.Requested.{requested}
use Rattle.search_top.specs.declared.ended.Ended.{Ended}
use Rattle.search_top.specs.declared.ended.Ended.TheVariants.{Plain, Usage}
use Rattle.search_top.specs.Answers.{Answers}

-- the names of the files that words have taken from the shelf
abbrev pub names_in : List (List ℕ) → List (List ℕ)
names_in words = elim (requested words) [ None ↦ [] | Some request ↦ names_of request ]

-- What the shelf handed over before a run and after it, the names at which it failed, and what the tape did.
module _ (heard hears : List Heard) (failed fails : List (List ℕ)) (tape : TapeRun) where
  -- When an ending comes for a request: a file of it was not taken whole, or all were, and their bytes come to it.
  pub data ComesFor (request : Seen) (end : Ended) : Type 0 where
    stopped : (plain : Ending) (took : List Heard) → hears ≡ heard ++ took → StopsFrom failed fails (file_in Proof) 0 (names_of request) took plain → end ≡ Plain plain → ComesFor request end
    decided : (files : List (List ℕ)) (took : List Heard) → hears ≡ heard ++ took → AreTaken (file_in Proof) 0 (names_of request) took files → Answers tape request files end → ComesFor request end

  -- When an ending comes for the words of a command line: they ask for nothing, or it comes for what they ask for.
  pub data Comes (words : List (List ℕ)) (end : Ended) : Type 0 where
    no_request : requested words ≡ None → end ≡ Usage → Comes words end
    asked : (request : Seen) → requested words ≡ Some request → ComesFor request end → Comes words end

-- the count of faults of a file that the words name rose, or that of the tape
abbrev pub HasFault : List (List ℕ) → List (List ℕ) → ℕ → ℕ → List (List ℕ) → Type 0
HasFault failed fails faults rises words = RoseAmong (names_in words) failed fails ⊎ Rose faults rises
