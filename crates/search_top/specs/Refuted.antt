-- What a certificate comes to where its formula is told, and where a proof over that formula is judged.
use Rattle.std.specs.Prelude.{◌≡◌, ◌<◌, ℕ, false, List, [], ◌∷◌, ◌++◌, Some, Result, Ok, Err, codes, decimal, length, slice_index_or}
use Rattle.report_lines.specs.Lines.{joined}
use Rattle.clause_base.specs.Formula.{Cnf}
use Rattle.sat_text.specs.Dimacs.{formula_text}
use Rattle.lrat_judge.specs.declared.verdict.Verdict.{Verdict}
use Rattle.lrat_judge.specs.declared.verdict.Verdict.TheVariants as verdicts
use Rattle.proof_verdict.specs.Verdict.{TapeRun, HasOpened, IsUnread, IsVerdictOn}
use Rattle.gt_core.specs.Task.{Task, initial_state}
use Rattle.gt_core.specs.Laws.{HasNoRun}
use Rattle.pd_model.specs.declared.parts.Parts.{Parts}
use Rattle.grounding_defs.specs.Grounded.{Grounded}
use Rattle.never_defs.specs.Sets.{is_true_in, AreTrue}
use Rattle.never_text.specs.Certificate.{Certificate, Nothing, Forward, Backward, Weights, certificate_of}
use Rattle.never_text.specs.declared.fault.Fault.{Fault}
use Rattle.never_form.specs.Formed.{IsNeverFormula, TellsTooLarge}
use Rattle.plan_endings.specs.declared.ending.Ending.{Ending}
use Rattle.plan_endings.specs.declared.ending.Ending.TheVariants.{Listing, NotEmpty}
use Rattle.search_top.specs.Never.{numbered, faulty_line}
use Rattle.search_top.specs.declared.ended.Finding.TheVariants.{NoPlan, Rejected, Refused, Past}
use Rattle.search_top.specs.declared.ended.Ended.{Ended}
use Rattle.search_top.specs.declared.ended.Ended.TheVariants.{Plain, Shown}

-- the text of the formula of a certificate, in whose first line it is told as one of steps to states that must not come
abbrev pub never_text : Cnf → List ℕ
never_text formula = formula_text (codes "exists never") 1 formula

-- how a run ends with a certificate of which there is no formula: clauses that are read backward, or weights
abbrev pub ended_kind : Ended
ended_kind = Shown Refused (joined (codes "; refused kind certificate" ∷ []))

-- what a text comes to as a certificate: it is none, one of which there is no formula, or clauses that are read forward, of which the claim holds
abbrev pub OfForward : (List (List ℕ) → Ended → Type 0) → Result Certificate (ℕ × Fault) → Ended → Type 0
OfForward claim (Err fault) end = end ≡ Shown Refused (joined (faulty_line fault.0 ∷ []))
OfForward claim (Ok Nothing) end = ⊥
OfForward claim (Ok (Forward clauses)) end = claim clauses end
OfForward claim (Ok (Backward clauses)) end = end ≡ ended_kind
OfForward claim (Ok (Weights weights)) end = end ≡ ended_kind

-- what clauses come to where their formula is told: it has too many literals, or this is its text
pub data FormulaTold (task : Task) (clauses : List (List ℕ)) (end : Ended) : Type 0 where
  too_large : (plain : Ending) → TellsTooLarge clauses task plain → end ≡ Plain plain → FormulaTold task clauses end
  formula : (f : Cnf) → IsNeverFormula task clauses f → end ≡ Plain (Listing (never_text f)) → FormulaTold task clauses end

-- what a task and the text of a certificate come to where its formula is told
abbrev pub AnswersNeverFormula : List ℕ → Parts → Grounded → Ended → Type 0
AnswersNeverFormula text task g end = OfForward (FormulaTold g.task) (certificate_of g.task.facts text) end

-- how a run ends with the verdict on a proof over the formula of so many clauses; lines are counted from 1 in its text, and bytes from 0
abbrev pub ended_verdict : ℕ → Verdict → Ended
ended_verdict count (verdicts.Refuted entries) = Shown NoPlan (joined ((codes "; no plan of any length, clauses " ++ (decimal count ++ (codes " entries " ++ decimal entries))) ∷ []))
ended_verdict count (verdicts.Rejected line) = Shown Rejected (joined ((codes "; rejected line " ++ decimal line) ∷ []))
ended_verdict count (verdicts.Syntax at) = Shown Refused (joined ((codes "; refused syntax proof " ++ decimal at) ∷ []))
ended_verdict count (verdicts.TooLong line) = Shown Past (joined ((codes "; limit line " ++ decimal line) ∷ []))
ended_verdict count verdicts.NotEmpty = Plain NotEmpty
ended_verdict count verdicts.More = Plain NotEmpty

-- how a run ends where the clause with this number is false in the initial state
abbrev pub ended_initial : ℕ → Ended
ended_initial k = Shown Rejected (joined (numbered (codes "; rejected initial") (Some k) ∷ []))

-- a clause with this number is there, and is false in the initial state
abbrev pub IsFalseAtFirst : Task → List (List ℕ) → ℕ → Type 0
IsFalseAtFirst task clauses k = (k < length clauses) × (is_true_in (initial_state task) (slice_index_or clauses k []) ≡ false)

-- What clauses and the proof of this name on a tape come to: a clause is false in the initial state, the formula has too many literals, the
-- proof could not be read, or this is the verdict on it; where that is a refutation no actions lead to the goal, however many.
pub data ProofJudged (tape : TapeRun) (proof : List ℕ) (task : Task) (clauses : List (List ℕ)) (end : Ended) : Type 0 where
  initial : (k : ℕ) → IsFalseAtFirst task clauses k → end ≡ ended_initial k → ProofJudged tape proof task clauses end
  over_limit : (plain : Ending) → TellsTooLarge clauses task plain → end ≡ Plain plain → ProofJudged tape proof task clauses end
  unread : (plain : Ending) → IsUnread tape.faults tape.rises plain → end ≡ Plain plain → ProofJudged tape proof task clauses end
  judged : (f : Cnf) (verdict : Verdict) → AreTrue (initial_state task) clauses → IsNeverFormula task clauses f → HasOpened tape proof → IsVerdictOn f tape.given verdict
      → ((entries : ℕ) → verdict ≡ verdicts.Refuted entries → HasNoRun task) → end ≡ ended_verdict (length clauses) verdict → ProofJudged tape proof task clauses end

-- what a task, the text of a certificate and the proof of this name come to
abbrev pub AnswersNeverJudge : TapeRun → List ℕ → List ℕ → Parts → Grounded → Ended → Type 0
AnswersNeverJudge tape proof text task g end = OfForward (ProofJudged tape proof g.task) (certificate_of g.task.facts text) end
