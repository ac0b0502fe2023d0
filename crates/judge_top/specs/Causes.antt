-- When each ending of a run of the judge comes.
use Rattle.std.specs.Prelude.{◌≡◌, ◌⊎◌, ℕ, List, [], ◌∷◌, ◌++◌, Some, None}
use Rattle.pl_io.specs.Outside.{Heard, whole, Rose}
use Rattle.requests.specs.declared.request.Stepping.{Stepping}
use Rattle.plan_tasks.specs.Limits.{file_in}
use Rattle.plan_tasks.specs.Files.{StopsFrom, RoseAmong}
use Rattle.plan_endings.specs.declared.ending.Ending.{Ending}
use Rattle.plan_endings.specs.declared.ending.File.TheVariants.{Proof}
use Rattle.judge_top.specs.Seen.{Seen, formulas, judges, models, domain_of, problem_of}
use Rattle.judge_top.specs.Requested.{requested}
use Rattle.judge_top.specs.declared.ended.Ended.{Ended}
use Rattle.judge_top.specs.declared.ended.Ended.TheVariants.{Plain, Unread, Usage}
use Rattle.proof_verdict.specs.Verdict.{TapeRun, HasOpened, IsUnread}
use Rattle.judge_top.specs.Answers.{OnceReady, AnswersFormula, AnswersJudge, AnswersModel}

-- the names of the domain and of the problem
abbrev pub two_of : Seen → List (List ℕ)
two_of request = domain_of request ∷ problem_of request ∷ []

-- the names of the files that words have taken from the shelf
abbrev pub names_in : List (List ℕ) → List (List ℕ)
names_in words = elim (requested words) [ None ↦ [] | Some request ↦ two_of request ]

-- what was handed over in between is two files, taken whole, and the claim holds of their bytes
abbrev pub OfTaken : List Heard → List Heard → List ℕ → List ℕ → (List ℕ → List ℕ → Type 0) → Type 0
OfTaken heard hears domain problem claim = (first second : List ℕ) × (hears ≡ heard ++ whole domain first ∷ whole problem second ∷ []) × claim first second

-- What the tape did in a run.
module _ (tape : TapeRun) where
  -- the proof could not be opened
  abbrev pub IsUnopened : Ended → Type 0
  IsUnopened end = (plain : Ending) × IsUnread tape.faults tape.rises plain × (end ≡ Plain plain)

  -- what two files come to with a model of this name: it could not be opened, or they, and it, decide the ending
  abbrev pub OfModel : Stepping → ℕ → List ℕ → Ended → List ℕ → List ℕ → Type 0
  OfModel s h name end first second = ((end ≡ Unread) × Rose tape.faults tape.rises) ⊎ (HasOpened tape name × OnceReady first second (AnswersModel s h tape) end)

  -- What the bytes of the domain and of the problem come to: the proof, or the model, could not be opened, or they, and it, decide the
  -- ending. For a formula no file is opened on the tape, nor read.
  abbrev pub Answers : Seen → Ended → List ℕ → List ℕ → Type 0
  Answers (formulas d p h s) end first second = (tape.given ≡ tape.before) × OnceReady first second (AnswersFormula s h) end
  Answers (judges d p h l s) end first second = IsUnopened end ⊎ (HasOpened tape l × OnceReady first second (AnswersJudge s h tape) end)
  Answers (models d p h m s) end first second = OfModel s h m end first second

-- What the shelf handed over before a run and after it, the names at which it failed, and what the tape did.
module _ (heard hears : List Heard) (failed fails : List (List ℕ)) (tape : TapeRun) where
  -- two files of these names stop a run: one of them was not taken whole
  abbrev pub StopsAt : List ℕ → List ℕ → Ended → Type 0
  StopsAt domain problem end =
      (plain : Ending) × (took : List Heard) × (hears ≡ heard ++ took) × StopsFrom failed fails (file_in Proof) 0 (domain ∷ problem ∷ []) took plain × (end ≡ Plain plain)

  -- When an ending comes for a request: the domain or the problem stops it, or both were taken whole and come to it.
  abbrev pub ComesFor : Seen → Ended → Type 0
  ComesFor request end = StopsAt (domain_of request) (problem_of request) end ⊎ OfTaken heard hears (domain_of request) (problem_of request) (Answers tape request end)

  -- When an ending comes for the words of a command line: they ask for nothing, or it comes for what they ask for.
  pub data Comes (words : List (List ℕ)) (end : Ended) : Type 0 where
    no_request : requested words ≡ None → end ≡ Usage → Comes words end
    asked : (request : Seen) → requested words ≡ Some request → ComesFor request end → Comes words end

-- the count of faults of a file that the words name rose, or that of the tape
abbrev pub HasFault : List (List ℕ) → List (List ℕ) → ℕ → ℕ → List (List ℕ) → Type 0
HasFault failed fails faults rises words = RoseAmong (names_in words) failed fails ⊎ Rose faults rises
