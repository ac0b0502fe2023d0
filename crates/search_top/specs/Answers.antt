-- What the bytes of its files come to for a request.
use Rattle.std.specs.Prelude.{◌≡◌, ℕ, List, [], ◌∷◌, Result}
use Rattle.pd_model.specs.declared.parts.Parts.{Parts}
use Rattle.gt_core.specs.Task.{Task}
use Rattle.grounding_defs.specs.Grounded.{Grounded}
use Rattle.state_search.specs.Answer.{IsAnswer, IsLeast}
use Rattle.state_search.specs.declared.answer.Answer.{Answer}
use Rattle.state_search.specs.declared.answer.End.{End}
use Rattle.plan_endings.specs.declared.ending.Ending.{Ending}
use Rattle.plan_endings.specs.Ends as ends
use Rattle.plan_endings.specs.declared.stop.Stop.{Stop}
use Rattle.plan_tasks.specs.Tasks.{AreTask, IsReady, StopsTask}
use Rattle.proof_verdict.specs.Verdict.{TapeRun}
use Rattle.search_top.specs.declared.ended.Ended.{Ended}
use Rattle.search_top.specs.declared.ended.Ended.TheVariants.{Plain, Walked}
use Rattle.search_top.specs.declared.request.How.{How}
use Rattle.search_top.specs.declared.request.How.TheVariants.{Greedy, Least}
use Rattle.search_top.specs.Seen.{Seen, searches, nevers, certifies, explores, systems, formulates, refutes}
use Rattle.search_top.specs.Budget.{budget_of}
use Rattle.search_top.specs.Explored.{AnswersExplore, AnswersSystem}
use Rattle.search_top.specs.Never.{AnswersNever, AnswersCertificate}
use Rattle.search_top.specs.Refuted.{AnswersNeverFormula, AnswersNeverJudge}
use Rattle.search_top.specs.Report.{outcome_of, report_of, IsSmallAnswer}

-- the ending, answered or handed on as one that all programs have, is of this kind; of want of memory nothing is said
abbrev pub EndsWith : (Ended → Type 0) → Result Ended Stop → Type 0
EndsWith claim result = ends.EndsWith Plain claim result

-- What two files come to that are grounded: they are refused or past a limit, or a task and what it is grounded to, of which the
-- answer is this.
pub data OnceReady (domain problem : List ℕ) (answers : Parts → Grounded → Ended → Type 0) (end : Ended) : Type 0 where
  not_ready : (plain : Ending) → StopsTask domain problem plain → end ≡ Plain plain → OnceReady domain problem answers end
  ready : (task : Parts) (g : Grounded) → AreTask domain problem task → IsReady task g → answers task g end → OnceReady domain problem answers end

-- the plan is a least one, where such is asked for
abbrev pub IsLeastBy : How → Task → End → Type 0
IsLeastBy Greedy task end = Unit {0}
IsLeastBy Least task end = IsLeast task end

-- What a walk through the states of a task comes to that may enter as many as the words say: an answer, of which the text tells.
pub record AnswersSearch (how : How) (states memory : ℕ) (task : Parts) (g : Grounded) (end : Ended) : Type 0 where
  pub answer : Answer
  pub is : IsAnswer g.task (budget_of how states memory g.task) answer
  pub least : IsLeastBy how g.task answer.end
  pub small : IsSmallAnswer (budget_of how states memory g.task) answer
  pub told : end ≡ Walked (outcome_of answer.end) (report_of task g how (budget_of how states memory g.task) answer)

-- what the bytes of its files, and what a tape gave, come to for a request
abbrev pub Answers : TapeRun → Seen → List (List ℕ) → Ended → Type 0
Answers tape (searches d p how states memory) (first ∷ second ∷ []) end = OnceReady first second (AnswersSearch how states memory) end
Answers tape (nevers d p) (first ∷ second ∷ []) end = OnceReady first second AnswersNever end
Answers tape (explores d p budget) (first ∷ second ∷ []) end = OnceReady first second (AnswersExplore budget) end
Answers tape (systems d p format) (first ∷ second ∷ []) end = OnceReady first second (AnswersSystem format) end
Answers tape (certifies d p c) (first ∷ second ∷ third ∷ []) end = OnceReady first second (AnswersCertificate third) end
Answers tape (formulates d p c) (first ∷ second ∷ third ∷ []) end = OnceReady first second (AnswersNeverFormula third) end
Answers tape (refutes d p c l) (first ∷ second ∷ third ∷ []) end = OnceReady first second (AnswersNeverJudge tape l third) end
Answers _ _ _ end = ⊥
