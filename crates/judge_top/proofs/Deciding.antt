-- How the files of a run come to an ending.
use Rattle.std.proofs.Common.{◌≡◌, ◌≤◌, ℕ, List, [], ◌∷◌, ◌++◌, refl, sym, ap, ap₂, subst, ◌∙◌, arith, inl, inr}
use Rattle.pl_io.specs.Outside.{Heard, whole, Rose}
use Rattle.pl_io.specs.Tape.{Given}
use Rattle.step_laws.specs.Form.{OrderedTask}
use Rattle.step_plans.specs.Known.{form_of}
use Rattle.plan_tasks.specs.Stepping.{places_by}
use Rattle.plan_endings.specs.declared.ending.File.{File}
use Rattle.plan_endings.specs.declared.ending.File.TheVariants.{Proof}
use Rattle.plan_tasks.specs.Limits.{file_in}
use Rattle.plan_tasks.specs.Files.{AreTaken, StopsFrom}
use Rattle.plan_endings.specs.declared.ending.Ending.{Ending}
use Rattle.judge_top.specs.Seen.{Seen, domain_of, problem_of}
use Rattle.judge_top.specs.declared.ended.Ended.TheVariants.{Plain}
use Rattle.judge_top.specs.Causes.{Answers, ComesFor, two_of}
use Rattle.plan_tasks.proofs.published.Hearing.{two_taken}
use Rattle.requests.specs.declared.request.Stepping.{Stepping}
use Rattle.judge_top.specs.declared.ended.Ended.{Ended}
use Rattle.proof_verdict.specs.Verdict.{TapeRun, tape_run}
use Rattle.judge_top.specs.Answers.{OnceReady, not_ready, ready, IsTold, AnswersJudge, AnswersModel, too_large, unread, judged, model}
use Rattle.judge_top.specs.declared.model.Told.{Told}
use Rattle.judge_top.specs.declared.model.Told.TheVariants as told

-- all of the first two files, under their names
wholes : List ℕ → List ℕ → List (List ℕ) → List Heard
wholes d p (first ∷ second ∷ others) = whole d first ∷ whole p second ∷ []
wholes d p files = []

-- two files that were taken are these
pub both_taken : (file : ℕ → File) (d p : List ℕ) (heard hears took : List Heard) (first second : List ℕ) (others : List (List ℕ)) → hears ≡ heard ++ took → AreTaken file 0 (d ∷ p ∷ []) took (first ∷ second ∷ others)
    → hears ≡ heard ++ whole d first ∷ whole p second ∷ []
unfolding wholes
both_taken file d p heard hears took first second others is taken =
    let two = two_taken file 0 d p took (first ∷ second ∷ others) taken in
    let same : two.0 ∷ two.1 ∷ [] ≡ first ∷ second ∷ others = sym two.2 in
    is ∙ (ap (λ (t : List Heard). heard ++ t) two.3 ∙ ap (λ (fs : List (List ℕ)). heard ++ wholes d p fs) same)

-- a count that rose since rose from before
pub rose_before : (before middle now : ℕ) → before ≤ middle → Rose middle now → Rose before now
rose_before before middle now le rose = omega (arith, le, rose)

-- what a tape did, from a count of its faults and from what it had given on
abbrev pub since : ℕ → Given → TapeRun → TapeRun
since before was tape = tape_run before tape.rises was tape.given

pub judged_before : (first second : List ℕ) (s : Stepping) (h : ℕ) (before : ℕ) (was : Given) (tape : TapeRun) → before ≤ tape.faults → (end : Ended) → OnceReady first second (AnswersJudge s h tape) end → OnceReady first second (AnswersJudge s h (since before was tape)) end
judged_before first second s h before was tape le end (not_ready plain stops e) = not_ready plain stops e
judged_before first second s h before was tape le end (ready task g are is (too_large plain over e)) = ready task g are is (too_large plain over e)
judged_before first second s h before was tape le end (ready task g are is (unread plain un e)) = ready task g are is (unread plain (un.0, rose_before before tape.faults tape.rises le un.1) e)
judged_before first second s h before was tape le end (ready task g are is (judged verdict e so none)) = ready task g are is (judged verdict e so none)

told_before : (s : Stepping) (h before : ℕ) (was : Given) (tape : TapeRun) → before ≤ tape.faults → (said : Told) (form : OrderedTask) → IsTold (places_by s) h tape said form → IsTold (places_by s) h (since before was tape) said form
told_before s h before was tape le told.Unread form k = rose_before before tape.faults tape.rises le k
told_before s h before was tape le (told.Refused refusal) form k = k
told_before s h before was tape le (told.NoModel clause) form k = k
told_before s h before was tape le (told.Plan steps) form k = k

pub model_before : (first second : List ℕ) (s : Stepping) (h before : ℕ) (was : Given) (tape : TapeRun) → before ≤ tape.faults → (end : Ended) → OnceReady first second (AnswersModel s h tape) end → OnceReady first second (AnswersModel s h (since before was tape)) end
model_before first second s h before was tape le end (not_ready plain stops e) = not_ready plain stops e
model_before first second s h before was tape le end (ready task g are is (too_large plain over e)) = ready task g are is (too_large plain over e)
model_before first second s h before was tape le end (ready task g are is (model said known small e)) =
    ready task g are is
    (model said (record { clauses = known.clauses; components = known.components; ordered = known.ordered; holds = told_before s h before was tape le said (form_of g.task known.clauses known.components) known.holds }) small e)

-- ---- the names of the two files, as a request gives them

abbrev IsStopped : List Heard → List Heard → List (List ℕ) → List (List ℕ) → List ℕ → List ℕ → Ending → Type 0
IsStopped heard hears failed fails d p end = (took : List Heard) × (hears ≡ heard ++ took) × StopsFrom failed fails (file_in Proof) 0 (d ∷ p ∷ []) took end

module _ (request : Seen) (d p : List ℕ) (domain : d ≡ domain_of request) (problem : p ≡ problem_of request) where
  pub two_named : d ∷ p ∷ [] ≡ two_of request
  two_named = ap₂ (λ (x y : List ℕ). x ∷ y ∷ []) domain problem

  module _ (heard hears : List Heard) (failed fails : List (List ℕ)) (tape : TapeRun) where
    pub stops_for : (end : Ending) → IsStopped heard hears failed fails d p end → ComesFor heard hears failed fails tape request (Plain end)
    stops_for end h =
        let k = subst (λ (x : List ℕ). IsStopped heard hears failed fails x (problem_of request) end) domain (subst (λ (y : List ℕ). IsStopped heard hears failed fails d y end) problem h) in
        inl (end, k.0, k.1, k.2, refl)

    pub taken_for : (end : Ended) (first second : List ℕ) → hears ≡ heard ++ whole d first ∷ whole p second ∷ [] → Answers tape request end first second → ComesFor heard hears failed fails tape request end
    taken_for end first second is h = inr (first, second, is ∙ ap₂ (λ (x y : List ℕ). heard ++ whole x first ∷ whole y second ∷ []) domain problem, h)
