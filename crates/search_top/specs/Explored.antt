-- What a search for a certificate comes to, and the task as a transition system.
use Rattle.std.specs.Prelude.{◌≡◌, ◌<◌, ◌^◌, ℕ, List, [], ◌∷◌, length, false, codes}
use Rattle.report_lines.specs.Lines.{joined}
use Rattle.gt_core.specs.Task.{Task}
use Rattle.pd_model.specs.declared.parts.Parts.{Parts}
use Rattle.grounding_defs.specs.Grounded.{Grounded}
use Rattle.two_invariants.specs.Closed.{AreInvariants}
use Rattle.never_search.specs.Answer.{IsAnswer}
use Rattle.never_search.specs.declared.answer.Answer.{Answer}
use Rattle.never_search.specs.declared.answer.End.{End}
use Rattle.never_search.specs.declared.answer.End.TheVariants as found
use Rattle.never_system.specs.Aiger.{aiger}
use Rattle.never_system.specs.Blif.{blif}
use Rattle.never_text.specs.Certificate.{clauses_text}
use Rattle.state_search.specs.declared.answer.End.TheVariants as walks
use Rattle.plan_endings.specs.declared.ending.Ending.TheVariants.{Listing}
use Rattle.search_top.specs.Report.{end_lines, IsSmallEnd}
use Rattle.search_top.specs.declared.request.Format.{Format}
use Rattle.search_top.specs.declared.request.Format.TheVariants.{Blif, Aiger}
use Rattle.search_top.specs.declared.request.How.TheVariants.{Greedy}
use Rattle.search_top.specs.declared.ended.Finding.TheVariants.{NoPlan, Planned, Open}
use Rattle.search_top.specs.declared.ended.Ended.{Ended}
use Rattle.search_top.specs.declared.ended.Ended.TheVariants.{Plain, Shown}

-- an answer of a search under the invariants of a task, which meets so many obligations at most
abbrev pub IsExplored : Task → ℕ → Answer → Type 0
IsExplored task budget answer = (known : List (ℕ × ℕ)) × AreInvariants task known × IsAnswer task known budget answer

-- how a run ends with it: clauses are told as a certificate, and actions as a plan
abbrev pub ended_explored : Parts → Grounded → End → Ended
ended_explored p g (found.Set clauses) = Shown NoPlan (clauses_text false clauses)
ended_explored p g (found.Plan actions) = Shown Planned (joined (end_lines p g Greedy (walks.Plan actions.items)))
ended_explored p g found.Open = Shown Open (joined (codes "; open" ∷ []))

-- the actions of a plan are few enough to be counted in 64 bits
abbrev pub IsSmallFound : End → Type 0
IsSmallFound (found.Plan actions) = length actions.items < 2 ^ 64
IsSmallFound _ = Unit {0}

-- what a task comes to where a certificate is searched for
pub record AnswersExplore (budget : ℕ) (task : Parts) (g : Grounded) (end : Ended) : Type 0 where
  pub answer : Answer
  pub is : IsExplored g.task budget answer
  pub small : IsSmallFound answer.end
  pub told : end ≡ ended_explored task g answer.end

-- the text of a task as a transition system, in a format
abbrev pub system_text : Format → Task → List ℕ
system_text Blif task = blif task
system_text Aiger task = aiger task

-- what it comes to as a transition system
abbrev pub AnswersSystem : Format → Parts → Grounded → Ended → Type 0
AnswersSystem format task g end = end ≡ Plain (Listing (system_text format g.task))
