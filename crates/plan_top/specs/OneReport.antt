-- One ending for the same files: for every number of workers and every slice, in whatever turns, and whatever the files' names.
use Rattle.std.specs.Prelude.{◌≡◌, ◌≤◌, ℕ, List, [], ◌∷◌, length, Some, slice_get}
use Rattle.pl_io.specs.Outside.{Heard}
use Rattle.plan_tasks.specs.Files.{AreOf}
use Rattle.plan_gen.specs.declared.Kind.{Kind}
use Rattle.requests.specs.Seen.{Seen, Numbers, plans, plans_by, checks, grounds, orders, generates, proves, verifies, batches, files_of}
use Rattle.requests.specs.declared.request.Show.{Show}
use Rattle.requests.specs.declared.request.Stepping.{Stepping}
use Rattle.requests.specs.declared.request.Turns.{Turns}
use Rattle.requests.specs.Requested.{requested}
use Rattle.plan_top.specs.Causes.{Comes, HasRead}
use Rattle.plan_endings.specs.declared.ending.Ending.{Ending}

-- numbers that are the same but for the slice and the workers
abbrev pub AreSameRace : Numbers → Numbers → Type 0
AreSameRace n m = record n { slice = m.slice; workers = m.workers } ≡ m

-- requests of one task that are the same but for the names of their files, the slice and the workers
pub data AreSameAlone (request other : Seen) : Type 0 where
  plans_same : (how : Stepping) (d p e q : List ℕ) (n m : Numbers) → request ≡ plans_by how d p n → other ≡ plans_by how e q m → AreSameRace n m → AreSameAlone request other
  generates_same : (kind : Kind) (number : ℕ) (show : Show) (n m : Numbers) → request ≡ generates kind number n show → other ≡ generates kind number m show → AreSameRace n m → AreSameAlone request other
  checks_same : (d p l e q k : List ℕ) → request ≡ checks d p l → other ≡ checks e q k → AreSameAlone request other
  grounds_same : (d p e q : List ℕ) → request ≡ grounds d p → other ≡ grounds e q → AreSameAlone request other
  orders_same : (d p e q : List ℕ) → request ≡ orders d p → other ≡ orders e q → AreSameAlone request other
  proves_same : (d p e q : List ℕ) (horizon budget : ℕ) → request ≡ proves d p horizon budget → other ≡ proves e q horizon budget → AreSameAlone request other
  verifies_same : (d p c e q k : List ℕ) → request ≡ verifies d p c → other ≡ verifies e q k → AreSameAlone request other

-- such requests, or batches of as many problems that are the same but for that and their turns
pub data AreSame (request other : Seen) : Type 0 where
  alone : AreSameAlone request other → AreSame request other
  batches_same : (d e : List ℕ) (ps qs : List (List ℕ)) (n m : Numbers) (turns also : Turns) → request ≡ batches d ps n turns → other ≡ batches e qs m also → length ps ≡ length qs → AreSameRace n m
      → AreSame request other

-- words and others ask for the same, and what was handed over for both is of the same files
pub record AskForOne (took elsewhere : List Heard) (words others : List (List ℕ)) : Type 0 where
  pub request : Seen
  pub other : Seen
  pub files : List (List ℕ)
  pub asked : requested words ≡ Some request
  pub others_asked : requested others ≡ Some other
  pub same : AreSame request other
  pub count : length files ≡ length (files_of request)
  pub heard : AreOf files took
  pub other_heard : AreOf files elsewhere

-- Words ask for a batch, and others for `plan` on its domain and its problem at a place, counted from 0, by numbers that are the same but
-- for the slice and the workers: what was handed over for both is of the same files.
pub record AskForOnePart (took elsewhere : List Heard) (words : List (List ℕ)) (place : ℕ) (others : List (List ℕ)) : Type 0 where
  pub domain : List ℕ
  pub problems : List (List ℕ)
  pub numbers : Numbers
  pub turns : Turns
  pub other_domain : List ℕ
  pub other_problem : List ℕ
  pub other_numbers : Numbers
  pub first : List ℕ
  pub texts : List (List ℕ)
  pub second : List ℕ
  pub asked : requested words ≡ Some (batches domain problems numbers turns)
  pub others_asked : requested others ≡ Some (plans other_domain other_problem other_numbers)
  pub same : AreSameRace numbers other_numbers
  pub count : length texts ≡ length problems
  pub heard : AreOf (first ∷ texts) took
  pub at_place : slice_get texts place ≡ Some second
  pub other_heard : AreOf (first ∷ second ∷ []) elsewhere

-- Words ask to verify a file, and others for a certificate of a horizon: what was handed over for both is of one domain and one problem, and
-- the file is this text.
pub record AskToVerify (took elsewhere : List Heard) (words others : List (List ℕ)) (text : List ℕ) : Type 0 where
  pub domain : List ℕ
  pub problem : List ℕ
  pub proof : List ℕ
  pub other_domain : List ℕ
  pub other_problem : List ℕ
  pub horizon : ℕ
  pub budget : ℕ
  pub first : List ℕ
  pub second : List ℕ
  pub asked : requested words ≡ Some (verifies domain problem proof)
  pub others_asked : requested others ≡ Some (proves other_domain other_problem horizon budget)
  pub heard : AreOf (first ∷ second ∷ text ∷ []) took
  pub other_heard : AreOf (first ∷ second ∷ []) elsewhere

-- Words ask for a certificate of a horizon with a budget of so many conflicts or more, and others for `plan`: what was handed over for both is
-- of one domain and one problem.
pub record AskToProve (took elsewhere : List Heard) (words others : List (List ℕ)) (horizon conflicts : ℕ) : Type 0 where
  pub domain : List ℕ
  pub problem : List ℕ
  pub budget : ℕ
  pub other_domain : List ℕ
  pub other_problem : List ℕ
  pub numbers : Numbers
  pub first : List ℕ
  pub second : List ℕ
  pub asked : requested words ≡ Some (proves domain problem horizon budget)
  pub others_asked : requested others ≡ Some (plans other_domain other_problem numbers)
  pub enough : conflicts ≤ budget
  pub heard : AreOf (first ∷ second ∷ []) took
  pub other_heard : AreOf (first ∷ second ∷ []) elsewhere

-- Runs on the same files by such words have one ending, but for a file that could not be read.
abbrev pub OneEnding : Type 0
OneEnding =
    (took elsewhere : List Heard) (old new before after : List (List ℕ)) (words others : List (List ℕ)) (end other : Ending)
    → AskForOne took elsewhere words others → Comes took old new words end → Comes elsewhere before after others other
    → HasRead end → HasRead other → end ≡ other
