-- Words and files that are in order, so that they are answered.
use Rattle.std.specs.Prelude.{◌≡◌, ◌⊎◌, Contains, ℕ, List, [], ◌∷◌, length, Some, Ok}
use Rattle.std.specs.List.{AllByRecursion, AllZip}
use Rattle.pl_io.specs.Outside.{Heard}
use Rattle.pd_model.specs.declared.calls.Call.{Call}
use Rattle.pd_model.specs.declared.parts.Parts.{Parts}
use Rattle.pd_plan.specs.PlanFile.{plan_file}
use Rattle.grounding_defs.specs.Grounded.{Grounded, IsGrounded}
use Rattle.grounding_defs.specs.Limits.{IsWithin}
use Rattle.plan_gen.specs.Task.{domain_of, problem_of}
use Rattle.requests.specs.Seen.{Seen, plans, plans_by, checks, grounds, orders, generates, proves, verifies, batches, files_of}
use Rattle.requests.specs.Requested.{requested}
use Rattle.plan_tasks.specs.Limits.{AreShort}
use Rattle.commands.specs.Files.{file_at}
use Rattle.plan_tasks.specs.Files.{AreOf, RoseAmong}
use Rattle.commands.specs.Tasks.{AreTask}
use Rattle.clause_base.specs.declared.log.Entry.{Entry}
use Rattle.commands.specs.Certificate.{IsSpelled}
use Rattle.commands.specs.Answers.{OfTwo, OfThree}
use Rattle.plan_endings.specs.Ending.{status_of, batch_of}
use Rattle.plan_endings.specs.declared.ending.Ending.{Ending}
use Rattle.plan_endings.specs.declared.ending.Ending.TheVariants.{TooLarge, TooLong}
use Rattle.plan_endings.specs.declared.ending.File.TheVariants.{Proof}

-- a task is grounded within the limits
abbrev pub GroundsWithin : Parts → Type 0
GroundsWithin task = (g : Grounded) × IsGrounded task g × IsWithin task g

-- two texts are a task that is grounded within the limits
abbrev pub AreWithin : List ℕ → List ℕ → Type 0
AreWithin domain problem = (task : Parts) × AreTask domain problem task × GroundsWithin task

-- a domain and a problem are a task, and a plan file has calls of it
abbrev pub AreChecked : List ℕ → List ℕ → List ℕ → Type 0
AreChecked domain problem plan = (task : Parts) × AreTask domain problem task × ((calls : List Call) × (plan_file task plan ≡ Ok calls))

-- a domain and a problem are a task within the limits, and a certificate is spelled
abbrev pub AreSpelled : List ℕ → List ℕ → List ℕ → Type 0
AreSpelled domain problem proof = AreWithin domain problem × ((horizon : ℕ) × (log : List Entry) × IsSpelled proof horizon log)

-- the claim holds of the first file with each of the others
abbrev pub OfFirst : List (List ℕ) → (List ℕ → List ℕ → Type 0) → Type 0
OfFirst [] claim = ⊥
OfFirst (first ∷ others) claim = AllByRecursion (claim first) others

-- the files of a request are in order; of a generated task, its texts
abbrev pub AreInOrder : Seen → List (List ℕ) → Type 0
AreInOrder (plans_by steps d p n) files = OfTwo files AreWithin
AreInOrder (grounds d p) files = OfTwo files AreWithin
AreInOrder (orders d p) files = OfTwo files AreWithin
AreInOrder (checks d p l) files = OfThree files AreChecked
AreInOrder (generates kind number n show) files = (files ≡ []) × AreWithin (domain_of kind) (problem_of kind number)
AreInOrder (proves d p horizon budget) files = OfTwo files AreWithin
AreInOrder (verifies d p c) files = OfThree files AreSpelled
AreInOrder (batches d ps n t) files = OfFirst files AreWithin

-- The words ask for a request; what was handed over is of files that are within the limit and in order, one for each name; and no fault
-- of any was noted.
pub record GoesWell (words : List (List ℕ)) (took : List Heard) (old new : List (List ℕ)) : Type 0 where
  pub request : Seen
  pub files : List (List ℕ)
  pub asked : requested words ≡ Some request
  pub are_of : AreOf files took
  pub count : length files ≡ length (files_of request)
  pub fit : AreShort (file_at request) 0 files
  pub in_order : AreInOrder request files
  pub quiet : RoseAmong (files_of request) old new → ⊥

-- a certificate is asked for
abbrev pub IsProve : Seen → Type 0
IsProve (proves d p horizon budget) = Unit {0}
IsProve request = ⊥

-- the exit statuses of words that ask for one task and of files that are in order: 4 for a formula that is too large alone, and for a
-- certificate that is too long where one is asked for
abbrev pub IsGoodAlone : Seen → Ending → Type 0
IsGoodAlone request end =
    Contains (0 ∷ 1 ∷ 2 ∷ []) (status_of end) ⊎ (((horizon : ℕ) × (count : ℕ) × (end ≡ TooLarge horizon count)) ⊎ (IsProve request × (end ≡ TooLong Proof)))

-- the same of all words: each part of a batch has one of these statuses as `plan` has it
abbrev pub IsGood : Seen → Ending → Type 0
IsGood (batches domain problems numbers turns) end =
    (parts : List Ending) × (end ≡ batch_of parts) × AllZip (λ problem part. IsGoodAlone (plans domain problem numbers) part) problems parts
IsGood request end = IsGoodAlone request end
