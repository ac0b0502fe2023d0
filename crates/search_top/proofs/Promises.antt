-- The promises of the top call, each from what it needs alone: mostly that its ending has a cause and that its text is written.
use Rattle.std.proofs.Common.{◌≡◌, ◌≤◌, ℕ, List, [], ◌∷◌, ◌++◌, length, false, Result, Ok, Err, Option, Some, None, refl, sym, ap, subst, ◌∙◌, arith, inl, inr}
use Rattle.std.specs.Prelude.{Contains, ◌⊎◌}
use Rattle.pl_io.specs.Outside.{Heard, Rose, appended}
use Rattle.pl_io.specs.Tape.{IsReadOnce, IsFileOf}
use Rattle.clause_base.specs.Formula.{Cnf}
use Rattle.lrat_judge.specs.Verdicts.{verdict_of}
use Rattle.lrat_judge.specs.declared.verdict.Verdict.{Verdict}
use Rattle.lrat_judge.specs.declared.verdict.Verdict.TheVariants as verdicts
use Rattle.proof_verdict.specs.Verdict.{TapeRun, HasOpened, IsUnread, IsVerdictOn}
use Rattle.report_lines.specs.Lines.{joined}
use Rattle.gt_core.specs.Task.{Task, initial_state}
use Rattle.gt_core.proofs.published.Within.{lawful}
use Rattle.pd_model.specs.Plan.{IsPlan}
use Rattle.pd_model.specs.declared.calls.Call.{Call}
use Rattle.pd_model.specs.declared.parts.Parts.{Parts}
use Rattle.pd_plan.specs.PlanFile.{plan_file}
use Rattle.grounding_defs.specs.Grounded.{Grounded}
use Rattle.grounding_defs.specs.Laws.{AreNumbers}
use Rattle.state_search.specs.Answer.{AreEntered, IsEnd, IsLeast}
use Rattle.state_search.specs.declared.answer.End.{End}
use Rattle.state_search.specs.declared.answer.End.TheVariants as ends
use Rattle.plan_endings.specs.Ending as plain
use Rattle.plan_endings.specs.declared.ending.Ending.{Ending}
use Rattle.plan_endings.specs.declared.ending.File.TheVariants.{Proof}
use Rattle.plan_endings.proofs.published.Words as by_words
use Rattle.plan_tasks.specs.Limits.{file_in}
use Rattle.plan_tasks.specs.Files.{AreTaken, RoseAmong}
use Rattle.plan_tasks.proofs.published.Hearing.{two_taken, three_taken}
use Rattle.plan_tasks.specs.Tasks.{AreTask, IsReady}
use Rattle.plan_tasks.specs.Claims.{Printed, OfFiles}
use Rattle.plan_tasks.proofs.published.Printing.{printed_is}
use Rattle.plan_tasks.proofs.published.Statuses.{task_between, files_between}
use Rattle.plan_tasks.proofs.published.TellingPlans.{calls_fit}
use Rattle.two_invariants.specs.Closed.{AreInvariants}
use Rattle.never_defs.specs.Forward.{GoalPassesForward}
use Rattle.never_defs.specs.Sets.{AreTrue}
use Rattle.never_form.specs.Formed.{IsNeverFormula, TellsTooLarge}
use Rattle.never_check.specs.Exclusions.{IsExclusion}
use Rattle.never_check.specs.Verdicts.{IsForwardVerdict}
use Rattle.never_check.specs.BackwardVerdicts.{IsBackwardVerdict}
use Rattle.never_check.specs.WeightsVerdicts.{IsWeightsVerdict}
use Rattle.never_check.specs.declared.excluded.Exclusion.{Exclusion}
use Rattle.never_check.specs.declared.excluded.Exclusion.TheVariants as exclusions
use Rattle.never_check.specs.declared.forward.ForwardVerdict.{ForwardVerdict}
use Rattle.never_check.specs.declared.forward.ForwardVerdict.TheVariants as forwards
use Rattle.never_check.specs.declared.backward.BackwardVerdict.{BackwardVerdict}
use Rattle.never_check.specs.declared.backward.BackwardVerdict.TheVariants as backwards
use Rattle.never_check.specs.declared.weights.WeightsVerdict.{WeightsVerdict}
use Rattle.never_check.specs.declared.weights.WeightsVerdict.TheVariants as weighed
use Rattle.never_text.specs.Certificate.{Certificate, Nothing, Forward, Backward, Weights, certificate_of, clauses_text}
use Rattle.never_text.specs.declared.fault.Fault.{Fault}
use Rattle.search_top.specs.declared.request.Format.{Format}
use Rattle.search_top.specs.declared.request.How.{How}
use Rattle.search_top.specs.declared.request.How.TheVariants as hows
use Rattle.search_top.specs.declared.judged.Judgement.{Judgement}
use Rattle.search_top.specs.declared.judged.Judgement.TheVariants as judgements
use Rattle.search_top.specs.declared.ended.Finding.{Finding}
use Rattle.search_top.specs.declared.ended.Finding.TheVariants as findings
use Rattle.search_top.specs.declared.ended.Ended.{Ended}
use Rattle.search_top.specs.declared.ended.Ended.TheVariants.{Plain, Walked, Usage}
use Rattle.search_top.specs.Seen.{Seen, searches, nevers, certifies, explores, systems, formulates, refutes, names_of}
use Rattle.search_top.specs.Requested.{requested}
use Rattle.search_top.specs.Budget.{budget_of}
use Rattle.search_top.specs.Report.{outcome_of, report_of, IsSmallAnswer}
use Rattle.never_defs.specs.Backward.{IsBackwardCertificate}
use Rattle.never_search.specs.Answer.{IsEnd as IsExploredEnd}
use Rattle.never_search.specs.declared.answer.Answer.{Answer}
use Rattle.never_search.specs.declared.answer.End.{End as Found}
use Rattle.never_search.specs.declared.answer.End.TheVariants as founds
use Rattle.search_top.specs.Explored.{AnswersExplore, AnswersSystem, IsExplored, IsSmallFound, ended_explored, system_text}
use Rattle.search_top.specs.Refuted.{AnswersNeverFormula, AnswersNeverJudge, OfForward, FormulaTold, too_large, formula, ProofJudged, initial, over_limit, unread, judged, never_text, ended_verdict, ended_initial, IsFalseAtFirst}
use Rattle.search_top.specs.Never.{AnswersNever, AnswersCertificate, IsSaidOf, IsJudged, said_forward, said_backward, said_weights, finding_by, finding_of, exclusion_line, judgement_line}
use Rattle.search_top.specs.Ended.{status_of, status_of_walk, status_of_finding, text_of}
use Rattle.search_top.specs.Answers.{Answers, AnswersSearch, IsLeastBy, OnceReady, not_ready, ready}
use Rattle.search_top.specs.Causes.{Comes, no_request, asked, ComesFor, stopped, decided, HasFault, names_in}
use Rattle.search_top.specs.Laws.{TopLaws}
use Rattle.search_top.specs.Headline.{PlanRuns, PlanIsLeast, HasNoPlan, OfGround, IsSpent, TellsExclusion, IsOpen, OfThree, IsJudgedAs, TellsSet, IsSearched, TellsSystem, TellsFormula, OfVerdict, IsRefuted, IsNotRefuted, TellsFalseAtFirst, IsUnproved}
use Rattle.search_top.proofs.Lines.{report_read, plan_read}
use Rattle.search_top.proofs.Runs.{numbers_long, run_is_plan}

-- ---- statuses

walk_low : (end : End) → status_of_walk (outcome_of end) ≤ 2
walk_low (ends.Plan actions) = omega arith
walk_low ends.NoPlan = omega arith
walk_low ends.Unfinished = omega arith

finding_low : (finding : Finding) → status_of_finding finding ≤ 4
finding_low findings.NoPlan = omega arith
finding_low findings.Rejected = omega arith
finding_low findings.Open = omega arith
finding_low findings.Planned = omega arith
finding_low findings.Refused = omega arith
finding_low findings.Past = omega arith

search_low : (how : How) (n m : ℕ) (task : Parts) (g : Grounded) (end : Ended) → AnswersSearch how n m task g end → status_of end ≤ 4
search_low how n m task g end a = let low = walk_low a.answer.end in let at = ap status_of a.told in omega (arith, low, at)

never_low : (task : Parts) (g : Grounded) (end : Ended) → AnswersNever task g end → status_of end ≤ 4
never_low task g end a = let low = finding_low (finding_by a.by) in let at = ap status_of a.told in omega (arith, low, at)

certificate_low : (text : List ℕ) (task : Parts) (g : Grounded) (end : Ended) → AnswersCertificate text task g end → status_of end ≤ 4
certificate_low text task g end a = let low = finding_low (finding_of a.said) in let at = ap status_of a.told in omega (arith, low, at)

explore_low : (budget : ℕ) (task : Parts) (g : Grounded) (end : Ended) → AnswersExplore budget task g end → status_of end ≤ 4
explore_low budget task g end a = by a.answer.end (ap status_of a.told)
  where
    by : (e : Found) → status_of end ≡ status_of (ended_explored task g e) → status_of end ≤ 4
    by (founds.Set clauses) at = omega (arith, at)
    by (founds.Plan actions) at = omega (arith, at)
    by founds.Open at = omega (arith, at)

system_low : (format : Format) (task : Parts) (g : Grounded) (end : Ended) → AnswersSystem format task g end → status_of end ≤ 4
system_low format task g end a = let at = ap status_of a in omega (arith, at)

verdict_low : (count : ℕ) (verdict : Verdict) → status_of (ended_verdict count verdict) ≤ 4
verdict_low count verdicts.More = omega arith
verdict_low count (verdicts.Refuted entries) = omega arith
verdict_low count (verdicts.Rejected line) = omega arith
verdict_low count verdicts.NotEmpty = omega arith
verdict_low count (verdicts.TooLong line) = omega arith
verdict_low count (verdicts.Syntax at) = omega arith

-- a limit has status 4, and a proof that could not be read 5
limit_four : (clauses : List (List ℕ)) (task : Task) (plain_end : Ending) (end : Ended) → TellsTooLarge clauses task plain_end → end ≡ Plain plain_end → status_of end ≡ 4
limit_four clauses task plain_end end over e = ap status_of e ∙ ap plain.status_of over.1

unread_five : (faults rises : ℕ) (plain_end : Ending) (end : Ended) → IsUnread faults rises plain_end → end ≡ Plain plain_end → status_of end ≡ 5
unread_five faults rises plain_end end un e = ap status_of e ∙ ap plain.status_of un.0

-- The names of files, the names at which a shelf failed before a run and after it, and what a tape did.
module _ (names failed fails : List (List ℕ)) (tape : TapeRun) where
  -- an ending has status 5, where one of the files, or the proof, could not be read, or one of at most 4
  abbrev IsLow : Ended → Type 0
  IsLow end = ((status_of end ≡ 5) × (RoseAmong names failed fails ⊎ Rose tape.faults tape.rises)) ⊎ (status_of end ≤ 4)

  -- what comes of files that are ready has such a status, where their answers have
  ready_low : (first second : List ℕ) (answers : Parts → Grounded → Ended → Type 0) → ((task : Parts) (g : Grounded) (end : Ended) → answers task g end → IsLow end) → (end : Ended) → OnceReady first second answers end → IsLow end
  ready_low first second answers low end (not_ready plain_end stops e) = inr (let b = task_between first second plain_end stops in let is = ap status_of e in omega (arith, b.1, is))
  ready_low first second answers low end (ready task g are is a) = low task g end a

  forward_low : (claim : List (List ℕ) → Ended → Type 0) → ((clauses : List (List ℕ)) (end : Ended) → claim clauses end → IsLow end) → (r : Result Certificate (ℕ × Fault)) (end : Ended) → OfForward claim r end → IsLow end
  forward_low claim low (Err fault) end k = inr (let three = ap status_of k in omega (arith, three))
  forward_low claim low (Ok Nothing) end k = absurd k
  forward_low claim low (Ok (Forward clauses)) end k = low clauses end k
  forward_low claim low (Ok (Backward clauses)) end k = inr (let three = ap status_of k in omega (arith, three))
  forward_low claim low (Ok (Weights ws)) end k = inr (let three = ap status_of k in omega (arith, three))

  formula_low : (task : Task) (clauses : List (List ℕ)) (end : Ended) → FormulaTold task clauses end → IsLow end
  formula_low task clauses end (too_large plain_end over e) = inr (let four = limit_four clauses task plain_end end over e in omega (arith, four))
  formula_low task clauses end (formula f is e) = inr (let zero = ap status_of e in omega (arith, zero))

  proof_low : (proof : List ℕ) (task : Task) (clauses : List (List ℕ)) (end : Ended) → ProofJudged tape proof task clauses end → IsLow end
  proof_low proof task clauses end (initial k false_there e) = inr (let one = ap status_of e in omega (arith, one))
  proof_low proof task clauses end (over_limit plain_end over e) = inr (let four = limit_four clauses task plain_end end over e in omega (arith, four))
  proof_low proof task clauses end (unread plain_end un e) = inl (unread_five tape.faults tape.rises plain_end end un e, inr un.1)
  proof_low proof task clauses end (judged f verdict true_first is opened on none_then e) = inr (let low = verdict_low (length clauses) verdict in let same = ap status_of e in omega (arith, low, same))

  answers_low : (request : Seen) (files : List (List ℕ)) (end : Ended) → Answers tape request files end → IsLow end
  answers_low (searches d p h n m) [] end k = absurd k
  answers_low (searches d p h n m) (first ∷ []) end k = absurd k
  answers_low (searches d p h n m) (first ∷ (second ∷ (third ∷ files))) end k = absurd k
  answers_low (searches d p h n m) (first ∷ (second ∷ [])) end k = ready_low first second (AnswersSearch h n m) (λ task g end a. inr (search_low h n m task g end a)) end k
  answers_low (nevers d p) [] end k = absurd k
  answers_low (nevers d p) (first ∷ []) end k = absurd k
  answers_low (nevers d p) (first ∷ (second ∷ (third ∷ files))) end k = absurd k
  answers_low (nevers d p) (first ∷ (second ∷ [])) end k = ready_low first second AnswersNever (λ task g end a. inr (never_low task g end a)) end k
  answers_low (explores d p n) [] end k = absurd k
  answers_low (explores d p n) (first ∷ []) end k = absurd k
  answers_low (explores d p n) (first ∷ (second ∷ (third ∷ files))) end k = absurd k
  answers_low (explores d p n) (first ∷ (second ∷ [])) end k = ready_low first second (AnswersExplore n) (λ task g end a. inr (explore_low n task g end a)) end k
  answers_low (systems d p format) [] end k = absurd k
  answers_low (systems d p format) (first ∷ []) end k = absurd k
  answers_low (systems d p format) (first ∷ (second ∷ (third ∷ files))) end k = absurd k
  answers_low (systems d p format) (first ∷ (second ∷ [])) end k = ready_low first second (AnswersSystem format) (λ task g end a. inr (system_low format task g end a)) end k
  answers_low (certifies d p c) [] end k = absurd k
  answers_low (certifies d p c) (first ∷ []) end k = absurd k
  answers_low (certifies d p c) (first ∷ (second ∷ [])) end k = absurd k
  answers_low (certifies d p c) (first ∷ (second ∷ (third ∷ (fourth ∷ files)))) end k = absurd k
  answers_low (certifies d p c) (first ∷ (second ∷ (third ∷ []))) end k = ready_low first second (AnswersCertificate third) (λ task g end a. inr (certificate_low third task g end a)) end k
  answers_low (formulates d p c) [] end k = absurd k
  answers_low (formulates d p c) (first ∷ []) end k = absurd k
  answers_low (formulates d p c) (first ∷ (second ∷ [])) end k = absurd k
  answers_low (formulates d p c) (first ∷ (second ∷ (third ∷ (fourth ∷ files)))) end k = absurd k
  answers_low (formulates d p c) (first ∷ (second ∷ (third ∷ []))) end k = ready_low first second (AnswersNeverFormula third) (λ task g end a. forward_low (FormulaTold g.task) (formula_low g.task) (certificate_of g.task.facts third) end a) end k
  answers_low (refutes d p c l) [] end k = absurd k
  answers_low (refutes d p c l) (first ∷ []) end k = absurd k
  answers_low (refutes d p c l) (first ∷ (second ∷ [])) end k = absurd k
  answers_low (refutes d p c l) (first ∷ (second ∷ (third ∷ (fourth ∷ files)))) end k = absurd k
  answers_low (refutes d p c l) (first ∷ (second ∷ (third ∷ []))) end k = ready_low first second (AnswersNeverJudge tape l third) (λ task g end a. forward_low (ProofJudged tape l g.task) (proof_low l g.task) (certificate_of g.task.facts third) end a) end k

module _ (heard hears : List Heard) (failed fails : List (List ℕ)) (tape : TapeRun) where
  -- 5 where a file could not be read, or the proof, alone
  request_low : (request : Seen) (end : Ended) → ComesFor heard hears failed fails tape request end → IsLow (names_of request) failed fails tape end
  request_low request end (stopped plain_end took is stops e) = elim (files_between failed fails (file_in Proof) 0 (names_of request) took plain_end stops) [
    | inl k ↦ inl (ap status_of e ∙ k.0, inl k.1)
    | inr four ↦ inr (let same = ap status_of e in omega (arith, same, four))
  ]
  request_low request end (decided files took is are k) = answers_low (names_of request) failed fails tape request files end k

  names_asked : (words : List (List ℕ)) (request : Seen) → requested words ≡ Some request → names_of request ≡ names_in words
  names_asked words request is = sym (ap (λ (o : Option Seen). elim o as (λ _. List (List ℕ)) [ None ↦ [] | Some r ↦ names_of r ]) is)

  -- 7 where the words ask for nothing
  words_low : (words : List (List ℕ)) (end : Ended) → Comes heard hears failed fails tape words end
      → ((status_of end ≡ 7) × (requested words ≡ None)) ⊎ (((status_of end ≡ 5) × HasFault failed fails tape.faults tape.rises words) ⊎ (status_of end ≤ 4))
  words_low words end (no_request none e) = inl (ap status_of e, none)
  words_low words end (asked request is h) = elim (request_low request end h) [
    | inl k ↦ inr (inl (k.0, subst (λ (ns : List (List ℕ)). RoseAmong ns failed fails ⊎ Rose tape.faults tape.rises) (names_asked words request is) k.1))
    | inr low ↦ inr (inr low)
  ]

  -- no ending that comes has a status of its own for a write fault or for want of memory
  pub status_apart : (words : List (List ℕ)) (end : Ended) → Comes heard hears failed fails tape words end → (status_of end ≡ 6 → ⊥) × (status_of end ≡ 8 → ⊥)
  status_apart words = by_words.status_apart status_of _ _ _ (words_low words)

-- ---- what a walk came to, by its status

-- a walk that ended so, and the ending that tells of it
module _ (end : Ended) (told : End) (text : List ℕ) (e : end ≡ Walked (outcome_of told) text) where
  has_status : status_of end ≡ status_of_walk (outcome_of told)
  has_status = ap status_of e

  has_text : text_of end ≡ text
  has_text = ap text_of e

planned : (told : End) → status_of_walk (outcome_of told) ≡ 0 → (actions : List ℕ) × (told ≡ ends.Plan actions)
planned (ends.Plan actions) zero = (actions, refl)
planned ends.NoPlan zero = absurd (omega (arith, zero))
planned ends.Unfinished zero = absurd (omega (arith, zero))

none : (told : End) → status_of_walk (outcome_of told) ≡ 1 → told ≡ ends.NoPlan
none (ends.Plan actions) one = absurd (omega (arith, one))
none ends.NoPlan one = refl
none ends.Unfinished one = absurd (omega (arith, one))

unfinished : (told : End) → status_of_walk (outcome_of told) ≡ 2 → told ≡ ends.Unfinished
unfinished (ends.Plan actions) two = absurd (omega (arith, two))
unfinished ends.NoPlan two = absurd (omega (arith, two))
unfinished ends.Unfinished two = refl

-- A task that is ready, and what a walk through its states came to.
module _ (laws : TopLaws) (how : How) (n m : ℕ) (task : Parts) (g : Grounded) (is : IsReady task g) (end : Ended) (a : AnswersSearch how n m task g end) where
  abbrev most : ℕ
  most = budget_of how n m g.task

  -- with status 0 it is a plan, which the text tells
  module _ (zero : status_of end ≡ 0) where
    found : (actions : List ℕ) × (a.answer.end ≡ ends.Plan actions)
    found = planned a.answer.end (sym (ap status_of a.told) ∙ zero)

    its_plan : (calls : List Call) × AreNumbers g calls found.0 × IsPlan task calls
    its_plan = run_is_plan laws.calls laws.agree task g found.0 is.grounded (subst (λ (e : End). IsEnd g.task most a.answer.states e) found.1 a.is.ends)

    its_text : plan_file task (text_of end) ≡ Ok its_plan.0
    its_text =
        let few = subst (λ (e : End). IsSmallAnswer most (record { states = a.answer.states; end = e })) found.1 a.small in
        let read = report_read laws task g is.well how a.answer.states most found.0 its_plan.0 few.1 few.0 few.2 its_plan.1 (calls_fit task task.init its_plan.0 its_plan.2) in
        let same : text_of end ≡ report_of task g how most (record { states = a.answer.states; end = ends.Plan found.0 }) =
        ap text_of a.told ∙ ap (λ (e : End). report_of task g how most (record { states = a.answer.states; end = e })) found.1 in
        ap (plan_file task) same ∙ read

    pub plan_runs : PlanRuns (text_of end) task
    plan_runs = (its_plan.0, its_text, its_plan.2)

    -- no plan has fewer calls, where a least one was asked for
    pub plan_is_least : how ≡ hows.Least → PlanIsLeast (text_of end) task
    plan_is_least least =
        let no_shorter = subst (λ (e : End). IsLeast g.task e) found.1 (subst (λ (h : How). IsLeastBy h g.task a.answer.end) least a.least) in (
          its_plan.0,
          its_text,
          its_plan.2,
          λ others plan.
              (let r = laws.runs task g others is.grounded plan in
              let long = numbers_long g its_plan.0 found.0 its_plan.1 in
              let less = no_shorter r.0 r.2 in
              let same = r.1 in
              omega (arith, long, less, same)),
        )

  -- with status 1 there is none
  pub has_none : status_of end ≡ 1 → HasNoPlan task
  has_none one calls plan =
      let ended = none a.answer.end (sym (ap status_of a.told) ∙ one) in
      let r = laws.runs task g calls is.grounded plan in
      subst (λ (e : End). IsEnd g.task most a.answer.states e) ended a.is.ends r.0 r.2

  -- with status 2 the budget is spent
  pub is_spent : status_of end ≡ 2 → IsSpent how n m (text_of end) task
  is_spent two =
      let ended = unfinished a.answer.end (sym (ap status_of a.told) ∙ two) in
      let all : a.answer.states ≡ most = subst (λ (e : End). IsEnd g.task most a.answer.states e) ended a.is.ends in
      let same : text_of end ≡ report_of task g how most (record { states = most; end = ends.Unfinished }) =
      ap text_of a.told ∙ (ap (λ (e : End). report_of task g how most (record { states = a.answer.states; end = e })) ended
      ∙ ap (λ (k : ℕ). report_of task g how most (record { states = k; end = ends.Unfinished })) all) in
      record { g = g; grounded = is.grounded; only = λ h other. laws.one_result task h g other is.grounded; holds = (subst (AreEntered g.task) all a.is.entered, same) }

-- ---- no plan of any length

finding_none : (finding : Finding) → status_of_finding finding ≡ 0 → finding ≡ findings.NoPlan
finding_none findings.NoPlan zero = refl
finding_none findings.Rejected zero = absurd (omega (arith, zero))
finding_none findings.Planned zero = absurd (omega (arith, zero))
finding_none findings.Open zero = absurd (omega (arith, zero))
finding_none findings.Refused zero = absurd (omega (arith, zero))
finding_none findings.Past zero = absurd (omega (arith, zero))

-- what is said of a certificate is never that there is a plan
said_rejected : (said : Judgement) → status_of_finding (finding_of said) ≡ 1 → finding_of said ≡ findings.Rejected
said_rejected (judgements.Faulty at) one = absurd (omega (arith, one))
said_rejected (judgements.Clauses count) one = absurd (omega (arith, one))
said_rejected judgements.Weights one = absurd (omega (arith, one))
said_rejected (judgements.Initial clause) one = refl
said_rejected (judgements.Goal clause) one = refl
said_rejected (judgements.Pair clause action) one = refl
said_rejected (judgements.Action action) one = refl

-- a goal that is excluded by something passes
passes : (task : Task) (known : List (ℕ × ℕ)) (by : Exclusion) → status_of_finding (finding_by by) ≡ 0 → IsExclusion task known by → GoalPassesForward task known []
passes task known exclusions.Open zero is = absurd (omega (arith, zero))
passes task known exclusions.Hopeless zero is = is.1
passes task known (exclusions.One l) zero is = is.2
passes task known (exclusions.Two l m) zero is = is.3

stays_open : (task : Task) (known : List (ℕ × ℕ)) (by : Exclusion) → status_of_finding (finding_by by) ≡ 2 → IsExclusion task known by → GoalPassesForward task known [] → ⊥
stays_open task known exclusions.Open two is = is
stays_open task known exclusions.Hopeless two is = absurd (omega (arith, two))
stays_open task known (exclusions.One l) two is = absurd (omega (arith, two))
stays_open task known (exclusions.Two l m) two is = absurd (omega (arith, two))

-- what a text comes to as a certificate, where it is not refused
forward_of : (claim : List (List ℕ) → Ended → Type 0) (r : Result Certificate (ℕ × Fault)) (end : Ended) → (status_of end ≡ 3 → ⊥) → OfForward claim r end → (clauses : List (List ℕ)) × (r ≡ Ok (Forward clauses)) × claim clauses end
forward_of claim (Err fault) end apart k = absurd (apart (ap status_of k))
forward_of claim (Ok Nothing) end apart k = absurd k
forward_of claim (Ok (Forward clauses)) end apart k = (clauses, refl, k)
forward_of claim (Ok (Backward clauses)) end apart k = absurd (apart (ap status_of k))
forward_of claim (Ok (Weights ws)) end apart k = absurd (apart (ap status_of k))

-- with status 0 a verdict is a refutation
verdict_zero : (count : ℕ) (verdict : Verdict) → status_of (ended_verdict count verdict) ≡ 0 → (entries : ℕ) × (verdict ≡ verdicts.Refuted entries)
verdict_zero count verdicts.More zero = absurd (omega (arith, zero))
verdict_zero count (verdicts.Refuted entries) zero = (entries, refl)
verdict_zero count (verdicts.Rejected line) zero = absurd (omega (arith, zero))
verdict_zero count verdicts.NotEmpty zero = absurd (omega (arith, zero))
verdict_zero count (verdicts.TooLong line) zero = absurd (omega (arith, zero))
verdict_zero count (verdicts.Syntax at) zero = absurd (omega (arith, zero))

-- A task that is ready.
module _ (laws : TopLaws) (task : Parts) (g : Grounded) (is : IsReady task g) where
  of_ground : (claim : Grounded → Type 0) → claim g → OfGround task claim
  of_ground claim h = record { g = g; grounded = is.grounded; only = λ h other. laws.one_result task h g other is.grounded; holds = h }

  -- what its goal is excluded by
  module _ (end : Ended) (a : AnswersNever task g end) where
    pub never_none : status_of end ≡ 0 → HasNoPlan task
    never_none zero = laws.excluded task g a.known is.grounded a.invariants (passes g.task a.known a.by (sym (ap status_of a.told) ∙ zero) a.is)

    pub never_excluded : TellsExclusion (text_of end) task
    never_excluded =
        of_ground (λ h. (known : List (ℕ × ℕ)) × (by : Exclusion) × AreInvariants h.task known × IsExclusion h.task known by × (text_of end ≡ joined (exclusion_line task h by ∷ [])))
        (a.known, a.by, a.invariants, a.is, ap text_of a.told)

    pub never_open : status_of end ≡ 2 → IsOpen task
    never_open two =
        of_ground (λ h. (known : List (ℕ × ℕ)) × AreInvariants h.task known × (GoalPassesForward h.task known [] → ⊥))
        (a.known, a.invariants, stays_open g.task a.known a.by (sym (ap status_of a.told) ∙ two) a.is)

  -- what is said of a certificate
  module _ (known : List (ℕ × ℕ)) (invariants : AreInvariants g.task known) where
    by_forward : (clauses : List (List ℕ)) (n : ℕ) (verdict : ForwardVerdict) → IsForwardVerdict g.task known clauses verdict → status_of_finding (finding_of (said_forward n verdict)) ≡ 0 → HasNoPlan task
    by_forward clauses n forwards.Accepted v zero = laws.forward task g known clauses is.grounded invariants v
    by_forward clauses n (forwards.Initial k) v zero = absurd (omega (arith, zero))
    by_forward clauses n forwards.Goal v zero = absurd (omega (arith, zero))
    by_forward clauses n (forwards.Pair k b) v zero = absurd (omega (arith, zero))

    by_backward : (clauses : List (List ℕ)) (n : ℕ) (verdict : BackwardVerdict) → IsBackwardVerdict g.task known clauses verdict → status_of_finding (finding_of (said_backward n verdict)) ≡ 0 → HasNoPlan task
    by_backward clauses n backwards.Accepted v zero = laws.backward task g known clauses is.grounded invariants v
    by_backward clauses n backwards.Initial v zero = absurd (omega (arith, zero))
    by_backward clauses n (backwards.Goal k) v zero = absurd (omega (arith, zero))
    by_backward clauses n (backwards.Pair k b) v zero = absurd (omega (arith, zero))

    by_weights : (ws : List (ℕ × ℕ)) (verdict : WeightsVerdict) → IsWeightsVerdict g.task known ws verdict → status_of_finding (finding_of (said_weights verdict)) ≡ 0 → HasNoPlan task
    by_weights ws weighed.Accepted v zero = laws.weights task g known ws is.grounded invariants v
    by_weights ws weighed.Goal v zero = absurd (omega (arith, zero))
    by_weights ws (weighed.Action b) v zero = absurd (omega (arith, zero))

    by_certificate : (certificate : Certificate) (said : Judgement) → IsJudged g.task known certificate said → status_of_finding (finding_of said) ≡ 0 → HasNoPlan task
    by_certificate Nothing said k zero = absurd k
    by_certificate (Forward clauses) said k zero = by_forward clauses (length clauses) k.0 k.1 (sym (ap (λ (s : Judgement). status_of_finding (finding_of s)) k.2) ∙ zero)
    by_certificate (Backward clauses) said k zero = by_backward clauses (length clauses) k.0 k.1 (sym (ap (λ (s : Judgement). status_of_finding (finding_of s)) k.2) ∙ zero)
    by_certificate (Weights ws) said k zero = by_weights ws k.0 k.1 (sym (ap (λ (s : Judgement). status_of_finding (finding_of s)) k.2) ∙ zero)

  by_said : (r : Result Certificate (ℕ × Fault)) (said : Judgement) → IsSaidOf g.task r said → status_of_finding (finding_of said) ≡ 0 → HasNoPlan task
  by_said (Err fault) said k zero = absurd (let three = ap (λ (s : Judgement). status_of_finding (finding_of s)) k in omega (arith, three, zero))
  by_said (Ok certificate) said k zero = by_certificate k.0 k.1 certificate said k.2 zero

  -- a search for a certificate
  module _ (budget : ℕ) (end : Ended) (a : AnswersExplore budget task g end) where
    set_none : (e : Found) → IsExploredEnd g.task a.is.0 budget a.answer.obligations e → status_of (ended_explored task g e) ≡ 0 → HasNoPlan task
    set_none (founds.Set clauses) k zero = laws.backward task g a.is.0 clauses is.grounded a.is.1 k.passes
    set_none (founds.Plan actions) k zero = absurd (omega (arith, zero))
    set_none founds.Open k zero = absurd (omega (arith, zero))

    pub explored_none : status_of end ≡ 0 → HasNoPlan task
    explored_none zero = set_none a.answer.end a.is.2.ends (sym (ap status_of a.told) ∙ zero)

    set_told : (e : Found) → IsExploredEnd g.task a.is.0 budget a.answer.obligations e → status_of (ended_explored task g e) ≡ 0 → TellsSet (text_of (ended_explored task g e)) task
    set_told (founds.Set clauses) k zero =
        let few : g.task.facts ≤ 2048 = (lawful g.task (laws.is_task task g is.grounded is.fits)).facts in
        of_ground (λ h. (known : List (ℕ × ℕ)) × (cs : List (List ℕ)) × AreInvariants h.task known × IsBackwardCertificate h.task known cs × (certificate_of h.task.facts (clauses_text false clauses) ≡ Ok (Backward cs)) × (clauses_text false clauses ≡ clauses_text false cs))
        (a.is.0, clauses, a.is.1, k.passes, laws.written g.task.facts false clauses (omega (arith, few)) k.as_read, refl)
    set_told (founds.Plan actions) k zero = absurd (omega (arith, zero))
    set_told founds.Open k zero = absurd (omega (arith, zero))

    pub explored_set : status_of end ≡ 0 → TellsSet (text_of end) task
    explored_set zero = subst (λ (t : List ℕ). TellsSet t task) (sym (ap text_of a.told)) (set_told a.answer.end a.is.2.ends (sym (ap status_of a.told) ∙ zero))

    open_told : (answer : Answer) → IsExplored g.task budget answer → (e : Found) → answer.end ≡ e → IsExploredEnd g.task a.is.0 budget answer.obligations e → status_of (ended_explored task g e) ≡ 2 → IsSearched budget task
    open_told answer known (founds.Set clauses) same k two = absurd (omega (arith, two))
    open_told answer known (founds.Plan actions) same k two = absurd (omega (arith, two))
    open_told answer known founds.Open same k two = of_ground (λ h. (b : Answer) × IsExplored h.task budget b × (b.end ≡ founds.Open) × (b.obligations ≡ budget)) (answer, known, same, k)

    pub explored_open : status_of end ≡ 2 → IsSearched budget task
    explored_open two = open_told a.answer a.is a.answer.end refl a.is.2.ends (sym (ap status_of a.told) ∙ two)

    plan_told : (e : Found) → IsSmallFound e → IsExploredEnd g.task a.is.0 budget a.answer.obligations e → status_of (ended_explored task g e) ≡ 1 → PlanRuns (text_of (ended_explored task g e)) task
    plan_told (founds.Set clauses) small k one = absurd (omega (arith, one))
    plan_told (founds.Plan actions) small k one =
        let plan = run_is_plan laws.calls laws.agree task g actions.items is.grounded k in
        (plan.0, plan_read laws task g is.well hows.Greedy actions.items plan.0 small plan.1 (calls_fit task task.init plan.0 plan.2), plan.2)
    plan_told founds.Open small k one = absurd (omega (arith, one))

    pub explored_plan : status_of end ≡ 1 → PlanRuns (text_of end) task
    explored_plan one = subst (λ (t : List ℕ). PlanRuns t task) (sym (ap text_of a.told)) (plan_told a.answer.end a.small a.is.2.ends (sym (ap status_of a.told) ∙ one))

  pub system_is : (format : Format) (end : Ended) → AnswersSystem format task g end → TellsSystem format (text_of end) task
  system_is format end a = of_ground (λ h. text_of end ≡ system_text format h.task) (ap text_of a)

  -- the formula of a certificate
  module _ (text : List ℕ) (end : Ended) where
    told_by : (clauses : List (List ℕ)) → certificate_of g.task.facts text ≡ Ok (Forward clauses) → FormulaTold g.task clauses end → status_of end ≡ 0 → TellsFormula (text_of end) text task
    told_by clauses same (too_large plain_end over e) zero = absurd (let four = limit_four clauses g.task plain_end end over e in omega (arith, four, zero))
    told_by clauses same (formula f is_formula e) zero =
        of_ground (λ h. (cs : List (List ℕ)) × (k : Cnf) × (certificate_of h.task.facts text ≡ Ok (Forward cs)) × IsNeverFormula h.task cs k × (text_of end ≡ never_text k))
        (clauses, f, same, is_formula, ap text_of e)

    pub formula_is : AnswersNeverFormula text task g end → status_of end ≡ 0 → TellsFormula (text_of end) text task
    formula_is a zero = let c = forward_of (FormulaTold g.task) (certificate_of g.task.facts text) end (λ three. omega (arith, zero, three)) a in told_by c.0 c.1 c.2 zero

    -- a proof over it
    module _ (tape : TapeRun) (proof : List ℕ) where
      none_by : (clauses : List (List ℕ)) → ProofJudged tape proof g.task clauses end → status_of end ≡ 0 → HasNoPlan task
      none_by clauses (initial k false_there e) zero = absurd (let one = ap status_of e in omega (arith, one, zero))
      none_by clauses (over_limit plain_end over e) zero = absurd (let four = limit_four clauses g.task plain_end end over e in omega (arith, four, zero))
      none_by clauses (unread plain_end un e) zero = absurd (let five = unread_five tape.faults tape.rises plain_end end un e in omega (arith, five, zero))
      none_by clauses (judged f verdict true_first is_formula opened on none_then e) zero =
          let v = verdict_zero (length clauses) verdict (sym (ap status_of e) ∙ zero) in
          λ calls plan. (let r = laws.runs task g calls is.grounded plan in none_then v.0 v.1 r.0 r.2)

      -- a verdict on it, which meets a claim
      verdict_told : (clauses : List (List ℕ)) → certificate_of g.task.facts text ≡ Ok (Forward clauses) → (f : Cnf) (verdict : Verdict) → AreTrue (initial_state g.task) clauses → IsNeverFormula g.task clauses f → HasOpened tape proof → IsVerdictOn f tape.given verdict
          → (claim : ℕ → Verdict → Type 0) → claim (length clauses) verdict → OfVerdict tape.before tape.given proof claim text task
      verdict_told clauses same f verdict true_first is_formula opened on claim holds =
          of_ground (λ h. (cs : List (List ℕ)) × (k : Cnf) × (certificate_of h.task.facts text ≡ Ok (Forward cs)) × IsNeverFormula h.task cs k × (IsReadOnce tape.before tape.given proof × AreTrue (initial_state h.task) cs × ((file : List ℕ) → IsFileOf tape.given file → claim (length cs) (verdict_of k file))))
          (clauses, f, same, is_formula, (record { opened = opened; sound = on.sound }, true_first, λ file whole. subst (claim (length clauses)) (on.is file whole) holds))

      refuted_by : (clauses : List (List ℕ)) → certificate_of g.task.facts text ≡ Ok (Forward clauses) → ProofJudged tape proof g.task clauses end → status_of end ≡ 0 → IsRefuted tape.before tape.given proof (text_of end) text task
      refuted_by clauses same (initial k false_there e) zero = absurd (let one = ap status_of e in omega (arith, one, zero))
      refuted_by clauses same (over_limit plain_end over e) zero = absurd (let four = limit_four clauses g.task plain_end end over e in omega (arith, four, zero))
      refuted_by clauses same (unread plain_end un e) zero = absurd (let five = unread_five tape.faults tape.rises plain_end end un e in omega (arith, five, zero))
      refuted_by clauses same (judged f verdict true_first is_formula opened on none_then e) zero =
          verdict_told clauses same f verdict true_first is_formula opened on (λ count v. ((entries : ℕ) × (v ≡ verdicts.Refuted entries)) × (text_of end ≡ text_of (ended_verdict count v)))
          (verdict_zero (length clauses) verdict (sym (ap status_of e) ∙ zero), ap text_of e)

      unproved_by : (clauses : List (List ℕ)) → certificate_of g.task.facts text ≡ Ok (Forward clauses) → ProofJudged tape proof g.task clauses end → status_of end ≡ 1 → IsUnproved tape.before tape.given proof (text_of end) text task
      unproved_by clauses same (initial k false_there e) one =
          inl (of_ground (λ h. (cs : List (List ℕ)) × (n : ℕ) × (certificate_of h.task.facts text ≡ Ok (Forward cs)) × IsFalseAtFirst h.task cs n × (text_of end ≡ text_of (ended_initial n)))
          (clauses, k, same, false_there, ap text_of e))
      unproved_by clauses same (over_limit plain_end over e) one = absurd (let four = limit_four clauses g.task plain_end end over e in omega (arith, four, one))
      unproved_by clauses same (unread plain_end un e) one = absurd (let five = unread_five tape.faults tape.rises plain_end end un e in omega (arith, five, one))
      unproved_by clauses same (judged f verdict true_first is_formula opened on none_then e) one =
          inr (verdict_told clauses same f verdict true_first is_formula opened on (λ count v. (status_of (ended_verdict count v) ≡ 1) × (text_of end ≡ text_of (ended_verdict count v)))
          (sym (ap status_of e) ∙ one, ap text_of e))

      module _ (a : AnswersNeverJudge tape proof text task g end) where
        clauses_judged : (status_of end ≡ 3 → ⊥) → (clauses : List (List ℕ)) × (certificate_of g.task.facts text ≡ Ok (Forward clauses)) × ProofJudged tape proof g.task clauses end
        clauses_judged apart = forward_of (ProofJudged tape proof g.task) (certificate_of g.task.facts text) end apart a

        pub judge_none : status_of end ≡ 0 → HasNoPlan task
        judge_none zero = let c = clauses_judged (λ three. omega (arith, zero, three)) in none_by c.0 c.2 zero

        pub judge_refuted : status_of end ≡ 0 → IsRefuted tape.before tape.given proof (text_of end) text task
        judge_refuted zero = let c = clauses_judged (λ three. omega (arith, zero, three)) in refuted_by c.0 c.1 c.2 zero

        pub judge_unproved : status_of end ≡ 1 → IsUnproved tape.before tape.given proof (text_of end) text task
        judge_unproved one = let c = clauses_judged (λ three. omega (arith, one, three)) in unproved_by c.0 c.1 c.2 one

  module _ (text : List ℕ) (end : Ended) (a : AnswersCertificate text task g end) where
    pub certified_none : status_of end ≡ 0 → HasNoPlan task
    certified_none zero = by_said (certificate_of g.task.facts text) a.said a.is (sym (ap status_of a.told) ∙ zero)

    judged_as : (finding : Finding) → finding_of a.said ≡ finding → IsJudgedAs finding (text_of end) text task
    judged_as finding same =
        of_ground (λ h. (said : Judgement) × IsSaidOf h.task (certificate_of h.task.facts text) said × (finding_of said ≡ finding) × (text_of end ≡ joined (judgement_line task h said ∷ [])))
        (a.said, a.is, same, ap text_of a.told)

    pub judged_accepted : status_of end ≡ 0 → IsJudgedAs findings.NoPlan (text_of end) text task
    judged_accepted zero = judged_as findings.NoPlan (finding_none (finding_of a.said) (sym (ap status_of a.told) ∙ zero))

    pub judged_rejected : status_of end ≡ 1 → IsJudgedAs findings.Rejected (text_of end) text task
    judged_rejected one = judged_as findings.Rejected (said_rejected a.said (sym (ap status_of a.told) ∙ one))

-- ---- what is promised

module _ (heard hears : List Heard) (failed fails : List (List ℕ)) (tape : TapeRun) (words : List (List ℕ)) (before after : Option (List ℕ)) (status : ℕ) where
  -- the status of an ending that comes, and its text, but for a write fault and want of memory
  abbrev pub IsDue : Type 0
  IsDue = (status ≡ 6 → ⊥) → (status ≡ 8 → ⊥) → (end : Ended) × (status ≡ status_of end) × Comes heard hears failed fails tape words end × (after ≡ appended before (text_of end))

  -- what comes of words that ask for this
  comes_for : (request : Seen) (end : Ended) → requested words ≡ Some request → Comes heard hears failed fails tape words end → ComesFor heard hears failed fails tape request end
  comes_for request end is (no_request none e) = absurd (let never : None ≡ Some request = sym none ∙ is in cc)
  comes_for request end is (asked other was h) =
      let same : other ≡ request = (let both : Some other ≡ Some request = sym was ∙ is in cc) in
      subst (λ (r : Seen). ComesFor heard hears failed fails tape r end) same h

  -- The status is one of an answer.
  module _ (k : ℕ) (low : k ≤ 2) where
    of_ready : (first second : List ℕ) (answers : Parts → Grounded → Ended → Type 0) (claim : Parts → Type 0) (end : Ended) → status_of end ≡ k → OnceReady first second answers end
        → ((task : Parts) (g : Grounded) → IsReady task g → answers task g end → claim task) → (task : Parts) × AreTask first second task × claim task
    of_ready first second answers claim end at (not_ready plain_end stops e) gives = absurd (let b = task_between first second plain_end stops in let same = ap status_of e in omega (arith, b.0, same, at, low))
    of_ready first second answers claim end at (ready task g are is a) gives = (task, are, gives task g is a)

    -- all files of the request were taken whole, and their bytes come to the ending
    of_taken : (request : Seen) → IsDue → status ≡ k → requested words ≡ Some request
        → (end : Ended) × (status_of end ≡ k) × (after ≡ appended before (text_of end)) × (files : List (List ℕ)) × (took : List Heard) × (hears ≡ heard ++ took)
        × AreTaken (file_in Proof) 0 (names_of request) took files × Answers tape request files end
    of_taken request due at is =
        let d = due (λ six. absurd (omega (arith, six, at, low))) (λ eight. absurd (omega (arith, eight, at, low))) in
        step d.0 (sym d.1 ∙ at) d.3 (comes_for request d.0 is d.2)
      where
        step : (end : Ended) → status_of end ≡ k → after ≡ appended before (text_of end) → ComesFor heard hears failed fails tape request end
            → (end : Ended) × (status_of end ≡ k) × (after ≡ appended before (text_of end)) × (files : List (List ℕ)) × (took : List Heard) × (hears ≡ heard ++ took)
            × AreTaken (file_in Proof) 0 (names_of request) took files × Answers tape request files end
        step end here put (stopped plain_end took handed stops e) = elim (files_between failed fails (file_in Proof) 0 (names_of request) took plain_end stops) [
          | inl f ↦ absurd (let five = ap status_of e ∙ f.0 in omega (arith, five, here, low))
          | inr four ↦ absurd (let same = ap status_of e ∙ four in omega (arith, same, here, low))
        ]
        step end here put (decided files took handed are answers) = (end, here, put, files, took, handed, are, answers)

    -- A request of two files, whose bytes decide this: what it gives holds of the task.
    module _ (request : Seen) (domain problem : List ℕ) (names : names_of request ≡ domain ∷ problem ∷ []) (answers : Parts → Grounded → Ended → Type 0)
        (decides : (first second : List ℕ) (end : Ended) → Answers tape request (first ∷ second ∷ []) end → OnceReady first second answers end) (claim : Parts → Type 0)
        (gives : (task : Parts) (g : Grounded) → IsReady task g → (end : Ended) → status_of end ≡ k → after ≡ appended before (text_of end) → answers task g end → claim task) where
      of_files : IsDue → status ≡ k → requested words ≡ Some request → OfFiles heard hears domain problem claim
      of_files due at is =
          let t = of_taken request due at is in
          let two = two_taken (file_in Proof) 0 domain problem t.4 t.3 (subst (λ (ns : List (List ℕ)). AreTaken (file_in Proof) 0 ns t.4 t.3) names t.6) in
          let all = decides two.0 two.1 t.0 (subst (λ (fs : List (List ℕ)). Answers tape request fs t.0) two.2 t.7) in
          let r = of_ready two.0 two.1 answers claim t.0 t.1 all (λ task g ready_is a. gives task g ready_is t.0 t.1 t.2 a) in
          (two.0, two.1, t.5 ∙ ap (λ (hs : List Heard). heard ++ hs) two.3, r.0, r.1, r.2)

    -- The same of a request of three files, of which the third is a certificate.
    module _ (request : Seen) (domain problem certificate : List ℕ) (names : names_of request ≡ domain ∷ problem ∷ certificate ∷ []) (answers : List ℕ → Parts → Grounded → Ended → Type 0)
        (decides : (first second third : List ℕ) (end : Ended) → Answers tape request (first ∷ second ∷ third ∷ []) end → OnceReady first second (answers third) end) (claim : List ℕ → Parts → Type 0)
        (gives : (text : List ℕ) (task : Parts) (g : Grounded) → IsReady task g → (end : Ended) → status_of end ≡ k → after ≡ appended before (text_of end) → answers text task g end → claim text task) where
      of_three : IsDue → status ≡ k → requested words ≡ Some request → OfThree heard hears domain problem certificate claim
      of_three due at is =
          let t = of_taken request due at is in
          let three = three_taken (file_in Proof) 0 domain problem certificate t.4 t.3 (subst (λ (ns : List (List ℕ)). AreTaken (file_in Proof) 0 ns t.4 t.3) names t.6) in
          let all = decides three.0 three.1 three.2 t.0 (subst (λ (fs : List (List ℕ)). Answers tape request fs t.0) three.3 t.7) in
          let r = of_ready three.0 three.1 (answers three.2) (claim three.2) t.0 t.1 all (λ task g ready_is a. gives three.2 task g ready_is t.0 t.1 t.2 a) in
          (three.0, three.1, three.2, t.5 ∙ ap (λ (hs : List Heard). heard ++ hs) three.4, r.0, r.1, r.2)

  module _ (laws : TopLaws) (due : IsDue) (domain problem : List ℕ) where
    module _ (how : How) (n m : ℕ) (is : requested words ≡ Some (searches domain problem how n m)) where
      of_walk : (k : ℕ) → k ≤ 2 → (claim : Parts → Type 0) → ((task : Parts) (g : Grounded) → IsReady task g → (end : Ended) → status_of end ≡ k → after ≡ appended before (text_of end) → AnswersSearch how n m task g end → claim task)
          → status ≡ k → OfFiles heard hears domain problem claim
      of_walk k low claim gives at = of_files k low (searches domain problem how n m) domain problem refl (AnswersSearch how n m) (λ first second end answers. answers) claim gives due at is

      pub runs : (text : List ℕ) → status ≡ 0 → Printed before after text → OfFiles heard hears domain problem (PlanRuns text)
      runs text zero printed =
          of_walk 0 (omega arith) (PlanRuns text)
          (λ task g ready_is end at put a. subst (λ (t : List ℕ). PlanRuns t task) (sym (printed_is before after text (text_of end) printed put)) (plan_runs laws how n m task g ready_is end a at)) zero

      pub least : how ≡ hows.Least → (text : List ℕ) → status ≡ 0 → Printed before after text → OfFiles heard hears domain problem (PlanIsLeast text)
      least by text zero printed =
          of_walk 0 (omega arith) (PlanIsLeast text)
          (λ task g ready_is end at put a. subst (λ (t : List ℕ). PlanIsLeast t task) (sym (printed_is before after text (text_of end) printed put)) (plan_is_least laws how n m task g ready_is end a at by)) zero

      pub no_plan : status ≡ 1 → OfFiles heard hears domain problem HasNoPlan
      no_plan one = of_walk 1 (omega arith) HasNoPlan (λ task g ready_is end at put a. has_none laws how n m task g ready_is end a at) one

      pub spent : (text : List ℕ) → status ≡ 2 → Printed before after text → OfFiles heard hears domain problem (IsSpent how n m text)
      spent text two printed =
          of_walk 2 (omega arith) (IsSpent how n m text)
          (λ task g ready_is end at put a. subst (λ (t : List ℕ). IsSpent how n m t task) (sym (printed_is before after text (text_of end) printed put)) (is_spent laws how n m task g ready_is end a at)) two

    module _ (is : requested words ≡ Some (nevers domain problem)) where
      of_never : (k : ℕ) → k ≤ 2 → (claim : Parts → Type 0) → ((task : Parts) (g : Grounded) → IsReady task g → (end : Ended) → status_of end ≡ k → after ≡ appended before (text_of end) → AnswersNever task g end → claim task)
          → status ≡ k → OfFiles heard hears domain problem claim
      of_never k low claim gives at = of_files k low (nevers domain problem) domain problem refl AnswersNever (λ first second end answers. answers) claim gives due at is

      pub never : status ≡ 0 → OfFiles heard hears domain problem HasNoPlan
      never zero = of_never 0 (omega arith) HasNoPlan (λ task g ready_is end at put a. never_none laws task g ready_is end a at) zero

      pub excluded : (text : List ℕ) → status ≡ 0 → Printed before after text → OfFiles heard hears domain problem (TellsExclusion text)
      excluded text zero printed =
          of_never 0 (omega arith) (TellsExclusion text)
          (λ task g ready_is end at put a. subst (λ (t : List ℕ). TellsExclusion t task) (sym (printed_is before after text (text_of end) printed put)) (never_excluded laws task g ready_is end a)) zero

      pub left_open : status ≡ 2 → OfFiles heard hears domain problem IsOpen
      left_open two = of_never 2 (omega arith) IsOpen (λ task g ready_is end at put a. never_open laws task g ready_is end a at) two

    module _ (budget : ℕ) (is : requested words ≡ Some (explores domain problem budget)) where
      of_explore : (k : ℕ) → k ≤ 2 → (claim : Parts → Type 0) → ((task : Parts) (g : Grounded) → IsReady task g → (end : Ended) → status_of end ≡ k → after ≡ appended before (text_of end) → AnswersExplore budget task g end → claim task)
          → status ≡ k → OfFiles heard hears domain problem claim
      of_explore k low claim gives at = of_files k low (explores domain problem budget) domain problem refl (AnswersExplore budget) (λ first second end answers. answers) claim gives due at is

      pub explored : status ≡ 0 → OfFiles heard hears domain problem HasNoPlan
      explored zero = of_explore 0 (omega arith) HasNoPlan (λ task g ready_is end at put a. explored_none laws task g ready_is budget end a at) zero

      pub told_set : (text : List ℕ) → status ≡ 0 → Printed before after text → OfFiles heard hears domain problem (TellsSet text)
      told_set text zero printed =
          of_explore 0 (omega arith) (TellsSet text)
          (λ task g ready_is end at put a. subst (λ (t : List ℕ). TellsSet t task) (sym (printed_is before after text (text_of end) printed put)) (explored_set laws task g ready_is budget end a at)) zero

      pub searched : status ≡ 2 → OfFiles heard hears domain problem (IsSearched budget)
      searched two = of_explore 2 (omega arith) (IsSearched budget) (λ task g ready_is end at put a. explored_open laws task g ready_is budget end a at) two

      pub met : (text : List ℕ) → status ≡ 1 → Printed before after text → OfFiles heard hears domain problem (PlanRuns text)
      met text one printed =
          of_explore 1 (omega arith) (PlanRuns text)
          (λ task g ready_is end at put a. subst (λ (t : List ℕ). PlanRuns t task) (sym (printed_is before after text (text_of end) printed put)) (explored_plan laws task g ready_is budget end a at)) one

    module _ (format : Format) (is : requested words ≡ Some (systems domain problem format)) where
      pub system_told : (text : List ℕ) → status ≡ 0 → Printed before after text → OfFiles heard hears domain problem (TellsSystem format text)
      system_told text zero printed =
          of_files 0 (omega arith) (systems domain problem format) domain problem refl (AnswersSystem format) (λ first second end answers. answers) (TellsSystem format text)
          (λ task g ready_is end at put a. subst (λ (t : List ℕ). TellsSystem format t task) (sym (printed_is before after text (text_of end) printed put)) (system_is laws task g ready_is format end a)) due zero is

    module _ (certificate : List ℕ) (is : requested words ≡ Some (certifies domain problem certificate)) where
      of_certificate : (k : ℕ) → k ≤ 2 → (claim : List ℕ → Parts → Type 0)
          → ((text : List ℕ) (task : Parts) (g : Grounded) → IsReady task g → (end : Ended) → status_of end ≡ k → after ≡ appended before (text_of end) → AnswersCertificate text task g end → claim text task)
          → status ≡ k → OfThree heard hears domain problem certificate claim
      of_certificate k low claim gives at = of_three k low (certifies domain problem certificate) domain problem certificate refl AnswersCertificate (λ first second third end answers. answers) claim gives due at is

      pub certified : status ≡ 0 → OfThree heard hears domain problem certificate (λ bytes. HasNoPlan)
      certified zero = of_certificate 0 (omega arith) (λ bytes. HasNoPlan) (λ text task g ready_is end at put a. certified_none laws task g ready_is text end a at) zero

      pub accepted : (text : List ℕ) → status ≡ 0 → Printed before after text → OfThree heard hears domain problem certificate (IsJudgedAs findings.NoPlan text)
      accepted text zero printed =
          of_certificate 0 (omega arith) (IsJudgedAs findings.NoPlan text)
          (λ bytes task g ready_is end at put a. subst (λ (t : List ℕ). IsJudgedAs findings.NoPlan t bytes task) (sym (printed_is before after text (text_of end) printed put)) (judged_accepted laws task g ready_is bytes end a at)) zero

      pub rejected : (text : List ℕ) → status ≡ 1 → Printed before after text → OfThree heard hears domain problem certificate (IsJudgedAs findings.Rejected text)
      rejected text one printed =
          of_certificate 1 (omega arith) (IsJudgedAs findings.Rejected text)
          (λ bytes task g ready_is end at put a. subst (λ (t : List ℕ). IsJudgedAs findings.Rejected t bytes task) (sym (printed_is before after text (text_of end) printed put)) (judged_rejected laws task g ready_is bytes end a at)) one

    module _ (certificate : List ℕ) (is : requested words ≡ Some (formulates domain problem certificate)) where
      pub formula_told : (text : List ℕ) → status ≡ 0 → Printed before after text → OfThree heard hears domain problem certificate (TellsFormula text)
      formula_told text zero printed =
          of_three 0 (omega arith) (formulates domain problem certificate) domain problem certificate refl AnswersNeverFormula (λ first second third end answers. answers) (TellsFormula text)
          (λ bytes task g ready_is end at put a. subst (λ (t : List ℕ). TellsFormula t bytes task) (sym (printed_is before after text (text_of end) printed put)) (formula_is laws task g ready_is bytes end a at)) due zero is

    module _ (certificate proof : List ℕ) (is : requested words ≡ Some (refutes domain problem certificate proof)) where
      of_proof : (k : ℕ) → k ≤ 2 → (claim : List ℕ → Parts → Type 0)
          → ((text : List ℕ) (task : Parts) (g : Grounded) → IsReady task g → (end : Ended) → status_of end ≡ k → after ≡ appended before (text_of end) → AnswersNeverJudge tape proof text task g end → claim text task)
          → status ≡ k → OfThree heard hears domain problem certificate claim
      of_proof k low claim gives at = of_three k low (refutes domain problem certificate proof) domain problem certificate refl (AnswersNeverJudge tape proof) (λ first second third end answers. answers) claim gives due at is

      pub proved_none : status ≡ 0 → OfThree heard hears domain problem certificate (λ bytes. HasNoPlan)
      proved_none zero = of_proof 0 (omega arith) (λ bytes. HasNoPlan) (λ text task g ready_is end at put a. judge_none laws task g ready_is text end tape proof a at) zero

      pub refuted : (text : List ℕ) → status ≡ 0 → Printed before after text → OfThree heard hears domain problem certificate (IsRefuted tape.before tape.given proof text)
      refuted text zero printed =
          of_proof 0 (omega arith) (IsRefuted tape.before tape.given proof text)
          (λ bytes task g ready_is end at put a. subst (λ (t : List ℕ). IsRefuted tape.before tape.given proof t bytes task) (sym (printed_is before after text (text_of end) printed put)) (judge_refuted laws task g ready_is bytes end tape proof a at)) zero

      pub unproved : (text : List ℕ) → status ≡ 1 → Printed before after text → OfThree heard hears domain problem certificate (IsUnproved tape.before tape.given proof text)
      unproved text one printed =
          of_proof 1 (omega arith) (IsUnproved tape.before tape.given proof text)
          (λ bytes task g ready_is end at put a. subst (λ (t : List ℕ). IsUnproved tape.before tape.given proof t bytes task) (sym (printed_is before after text (text_of end) printed put)) (judge_unproved laws task g ready_is bytes end tape proof a at)) one

  -- ---- words and faults

  pub usage : IsDue → status ≡ 7 → requested words ≡ None
  usage due = by_words.usage status_of _ _ _ (words_low heard hears failed fails tape words) status _ due

  pub read_fault : IsDue → status ≡ 5 → HasFault failed fails tape.faults tape.rises words
  read_fault due = by_words.read_fault status_of _ _ _ (words_low heard hears failed fails tape words) status _ due

  not_asked : requested words ≡ None → (end : Ended) → Comes heard hears failed fails tape words end → end ≡ Usage
  not_asked none end (no_request also e) = e
  not_asked none end (asked request is h) = absurd (let never : None ≡ Some request = sym none ∙ is in cc)

  pub not_taken : IsDue → requested words ≡ None → Contains (6 ∷ 7 ∷ 8 ∷ []) status
  not_taken due none = by_words.not_taken status_of _ _ _ (words_low heard hears failed fails tape words) status _ due Usage refl (not_asked none)

  pub no_command : IsDue → requested words ≡ None → (status ≡ 8 → ⊥) → Contains (6 ∷ 7 ∷ []) status
  no_command due none = by_words.no_command status_of _ _ _ (words_low heard hears failed fails tape words) status _ due Usage refl (not_asked none)
