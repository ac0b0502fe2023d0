-- When each ending of a run comes.
use Rattle.std.specs.Prelude.{◌≡◌, ◌≤◌, ℕ, List, [], ◌∷◌, ◌++◌, Bool, true, false, IsTrue, Some, None}
use Rattle.pl_io.specs.Outside.{Heard}
use Rattle.requests.specs.Seen.{Seen, Numbers, plans, plans_by, checks, grounds, orders, generates, proves, verifies, batches, files_of}
use Rattle.requests.specs.declared.request.Turns.{Turns}
use Rattle.requests.specs.Requested.{requested}
use Rattle.requests.specs.OneTask.{IsOfOne}
use Rattle.plan_endings.specs.Ending.{batch_of, status_of, text_of}
use Rattle.plan_top.specs.Headline.{PartIsSo}
use Rattle.commands.specs.Files.{file_at}
use Rattle.commands.specs.Answers.{Decides}
use Rattle.plan_tasks.specs.Files.{AreTaken, StopsFrom, FaultsFrom, RoseAmong}
use Rattle.plan_endings.specs.declared.ending.File.TheVariants.{Proof}
use Rattle.plan_endings.specs.declared.ending.Ending.{Ending}
use Rattle.plan_endings.specs.declared.ending.Ending.TheVariants.{Report, Listing, Reaches, Blocked, Short, Refused, TooLong, TooMany, TooLarge, ReadFault, Usage, Found, Open, Accepted, Rejected, NotEmpty}

-- The endings that the files' contents give for a request: what is known of an ending where no bytes are told.
abbrev pub is_answer : Seen → Ending → Bool
is_answer request (Refused kind file at) = true
is_answer (checks d p l) (TooMany what count) = false
is_answer request (TooMany what count) = true
is_answer (plans_by steps d p n) (TooLarge horizon count) = true
is_answer (plans_by steps d p n) (Report outcome text) = true
is_answer (generates kind number n show) (TooLarge horizon count) = true
is_answer (generates kind number n show) (Report outcome text) = true
is_answer (generates kind number n show) (Listing text) = true
is_answer (grounds d p) (Listing text) = true
is_answer (orders d p) (Listing text) = true
is_answer (checks d p l) Reaches = true
is_answer (checks d p l) (Blocked index) = true
is_answer (checks d p l) Short = true
is_answer (proves d p h b) (TooLarge horizon count) = true
is_answer (proves d p h b) (Listing text) = true
is_answer (proves d p h b) (TooLong Proof) = true
is_answer (proves d p h b) (Found horizon conflicts) = true
is_answer (proves d p h b) (Open horizon conflicts) = true
is_answer (verifies d p c) (TooLarge horizon count) = true
is_answer (verifies d p c) (Accepted horizon entries) = true
is_answer (verifies d p c) (Rejected entry) = true
is_answer (verifies d p c) NotEmpty = true
is_answer request end = false

-- ---- what a run comes to

-- the ending tells of no file that could not be read
abbrev pub HasRead : Ending → Type 0
HasRead (ReadFault file) = ⊥
HasRead end = Unit {0}

-- What a shelf handed over, in order, and its faults before and after.
module _ (took : List Heard) (old new : List (List ℕ)) where
  -- When an ending comes for a request of one task: a file of it stops it, or all files are taken and their bytes decide it.
  pub data ComesFor (request : Seen) (end : Ending) : Type 0 where
    stopped : StopsFrom old new (file_at request) 0 (files_of request) took end → ComesFor request end
    decided : (files : List (List ℕ)) → AreTaken (file_at request) 0 (files_of request) took files → IsTrue (is_answer request end) → Decides request files end → ComesFor request end

-- A part of a batch, of whose domain and problem this was handed over, is what comes for `plan` on them. (Where the domain has more
-- bytes than it may have, `plan` alone does not take the problem.)
pub record IsPartOf (old new : List (List ℕ)) (first other : Heard) (request : Seen) (part : Ending) : Type 0 where
  pub took : List Heard
  pub rest : List Heard
  pub split : first ∷ other ∷ [] ≡ took ++ rest
  pub comes : ComesFor took old new request part
  pub has_read : HasRead part

-- Each problem of a batch, with the domain alone, comes to the part at its place as `plan` comes to its ending.
module _ (old new : List (List ℕ)) (domain : List ℕ) (numbers : Numbers) (first : Heard) where
  -- each problem has its part, which comes as for `plan` on the domain and it
  abbrev pub ArePartsOf : List (List ℕ) → List Heard → List Ending → Type 0
  ArePartsOf [] [] [] = Unit {0}
  ArePartsOf (problem ∷ problems) (other ∷ others) (part ∷ parts) = IsPartOf old new first other (plans domain problem numbers) part × ArePartsOf problems others parts
  ArePartsOf _ _ _ = ⊥

-- the same of all that was handed over: the domain, and then the problems
pub record IsBatchOf (took : List Heard) (old new : List (List ℕ)) (domain : List ℕ) (numbers : Numbers) (problems : List (List ℕ)) (parts : List Ending) : Type 0 where
  pub first : Heard
  pub others : List Heard
  pub all : took ≡ first ∷ others
  pub are : ArePartsOf old new domain numbers first problems others parts

module _ (took : List Heard) (old new : List (List ℕ)) where
  -- When an ending comes for the words of a command line: they ask for nothing; or it comes for the one task that they ask for; or they
  -- ask for a batch, of which a file could not be read, or which has a part for each problem.
  pub data Comes (words : List (List ℕ)) (end : Ending) : Type 0 where
    no_request : requested words ≡ None → took ≡ [] → end ≡ Usage → Comes words end
    of_one : (request : Seen) → requested words ≡ Some request → IsOfOne request → ComesFor took old new request end → Comes words end
    unread : (domain : List ℕ) (problems : List (List ℕ)) (numbers : Numbers) (turns : Turns) → requested words ≡ Some (batches domain problems numbers turns)
        → FaultsFrom old new (file_at (batches domain problems numbers turns)) 0 (domain ∷ problems) took end → Comes words end
    in_parts : (domain : List ℕ) (problems : List (List ℕ)) (numbers : Numbers) (turns : Turns) → requested words ≡ Some (batches domain problems numbers turns)
        → (parts : List Ending) → IsBatchOf took old new domain numbers problems parts → end ≡ batch_of parts → Comes words end

-- words ask for a batch
abbrev pub AskForBatch : List (List ℕ) → Type 0
AskForBatch words = (domain : List ℕ) × (problems : List (List ℕ)) × (numbers : Numbers) × (turns : Turns) × (requested words ≡ Some (batches domain problems numbers turns))

-- the names of the files that words ask for
abbrev pub names_in : List (List ℕ) → List (List ℕ)
names_in words = elim (requested words) [ None ↦ [] | Some request ↦ files_of request ]

-- the count of faults of a file that the words name rose
abbrev pub FaultOf : List (List ℕ) → List (List ℕ) → List (List ℕ) → Type 0
FaultOf old new words = RoseAmong (names_in words) old new

-- Each part of a batch but those that tell why there is no answer keeps what is promised of `plan` on the domain and its problem.
module _ (domain : List ℕ) (numbers : Numbers) (first : Heard) where
  -- of each part with a status up to 2 what is promised of the text of `plan` holds
  abbrev pub ArePartsSo : List (List ℕ) → List Heard → List Ending → Type 0
  ArePartsSo [] [] [] = Unit {0}
  ArePartsSo (problem ∷ problems) (other ∷ others) (part ∷ parts) =
      (status_of part ≤ 2 → PartIsSo domain problem numbers first other (text_of part) (status_of part)) × ArePartsSo problems others parts
  ArePartsSo _ _ _ = ⊥
