-- The promises of the top call, each from what it needs alone: mostly that its ending has a cause and that its text is written.
use Rattle.std.proofs.Common.{◌≡◌, ◌≤◌, ℕ, Bool, true, false, List, [], ◌∷◌, Option, Some, None, refl, sym, ap, subst, ◌∙◌, arith, inl, inr}
use Rattle.std.specs.Prelude.{Contains, ◌⊎◌}
use Rattle.pl_io.specs.Outside.{Heard, Rose, appended}
use Rattle.clause_base.specs.Formula.{Cnf}
use Rattle.pl_io.specs.Tape.{Given, IsFileOf, IsReadOnce}
use Rattle.pl_io.specs.declared.tape.Reading.TheVariants.{Lost}
use Rattle.sat_text.specs.Dimacs.{formula_text}
use Rattle.pd_model.specs.declared.parts.Parts.{Parts}
use Rattle.grounding_defs.specs.Grounded.{Grounded}
use Rattle.step_plans.specs.Known.{form_of, formula_at}
use Rattle.lrat_judge.specs.Verdicts.{verdict_ended, verdict_of, has_empty}
use Rattle.lrat_judge.specs.declared.verdict.Verdict.{Verdict}
use Rattle.lrat_judge.specs.declared.verdict.Verdict.TheVariants as verdicts
use Rattle.requests.specs.declared.request.Stepping.{Stepping}
use Rattle.plan_endings.specs.Ending as plain
use Rattle.plan_endings.specs.declared.ending.File.TheVariants.{Proof}
use Rattle.plan_endings.specs.declared.ending.Ending.{Ending}
use Rattle.plan_endings.specs.declared.ending.Ending.TheVariants.{Listing}
use Rattle.plan_tasks.specs.Limits.{file_in}
use Rattle.plan_tasks.specs.Files.{RoseAmong}
use Rattle.plan_tasks.specs.Stepping.{places_by}
use Rattle.plan_tasks.specs.Tasks.{AreTask, IsReady, StopsTask}
use Rattle.plan_tasks.specs.Claims.{Printed, OfFiles}
use Rattle.plan_tasks.specs.Laws.{TaskLaws}
use Rattle.plan_tasks.proofs.published.Claims as claims
use Rattle.plan_report.specs.Report.{plan_text}
use Rattle.plan_report.specs.Laws.{IsSmallPlan}
use Rattle.plan_tasks.specs.PlanLaws.{PlanLaws}
use Rattle.plan_tasks.proofs.published.TellingPlans.{model_runs}
use Rattle.plan_tasks.proofs.published.Printing.{printed_is}
use Rattle.plan_tasks.proofs.published.Statuses.{task_between, files_between}
use Rattle.plan_endings.proofs.published.Words as by_words
use Rattle.judge_top.specs.Seen.{Seen, formulas, judges, models, domain_of, problem_of}
use Rattle.judge_top.specs.Requested.{requested}
use Rattle.judge_top.specs.Ended.{status_of, text_of}
use Rattle.judge_top.specs.declared.ended.Ended.{Ended}
use Rattle.judge_top.specs.declared.ended.Ended.TheVariants.{Plain, Unread, Usage}
use Rattle.proof_verdict.specs.Verdict.{TapeRun, HasOpened, IsUnread}
use Rattle.judge_top.specs.Answers.{OnceReady, not_ready, ready, AnswersFormula, AnswersJudge, AnswersModel, too_large, formula, unread, judged, model, ended_by, TellsTooMany, word_of}
use Rattle.judge_top.specs.declared.model.Told.TheVariants as tolds
use Rattle.sat_text.specs.declared.value_reader.Refused.TheVariants as refusals
use Rattle.proof_verdict.proofs.published.Given.{itself}
use Rattle.judge_top.specs.Causes.{Answers, Comes, no_request, asked, ComesFor, StopsAt, OfTaken, HasFault, names_in, two_of}
use Rattle.judge_top.specs.Headline.{IsProvedNone, PlanRunsIn, TellsFormula, WhenRead, OfVerdict, IsAccepted, IsRejected, IsNoProof, OrNoTask, TellsModel, TellsNoModel, TellsNoText, IsModelTold, IsNoModelTold, IsNoTextTold}

-- a verdict has a status of its own
verdict_low : (horizon : ℕ) (verdict : Verdict) → status_of (ended_by horizon verdict) ≤ 4
verdict_low horizon verdicts.More = omega arith
verdict_low horizon (verdicts.Refuted entries) = omega arith
verdict_low horizon (verdicts.Rejected line) = omega arith
verdict_low horizon verdicts.NotEmpty = omega arith
verdict_low horizon (verdicts.TooLong line) = omega arith
verdict_low horizon (verdicts.Syntax at) = omega arith

-- where it is 0 the verdict is a refutation
verdict_zero : (horizon : ℕ) (verdict : Verdict) → status_of (ended_by horizon verdict) ≡ 0 → (entries : ℕ) × (verdict ≡ verdicts.Refuted entries)
verdict_zero horizon verdicts.More zero = absurd (omega arith)
verdict_zero horizon (verdicts.Refuted entries) zero = (entries, refl)
verdict_zero horizon (verdicts.Rejected line) zero = absurd (omega arith)
verdict_zero horizon verdicts.NotEmpty zero = absurd (omega arith)
verdict_zero horizon (verdicts.TooLong line) zero = absurd (omega arith)
verdict_zero horizon (verdicts.Syntax at) zero = absurd (omega arith)

-- where it is 3 the verdict is that a line is none
verdict_three : (horizon : ℕ) (verdict : Verdict) → status_of (ended_by horizon verdict) ≡ 3 → (at : ℕ) × (verdict ≡ verdicts.Syntax at)
verdict_three horizon verdicts.More three = absurd (omega (arith, three))
verdict_three horizon (verdicts.Refuted entries) three = absurd (omega (arith, three))
verdict_three horizon (verdicts.Rejected line) three = absurd (omega (arith, three))
verdict_three horizon verdicts.NotEmpty three = absurd (omega (arith, three))
verdict_three horizon (verdicts.TooLong line) three = absurd (omega (arith, three))
verdict_three horizon (verdicts.Syntax at) three = (at, refl)

-- the verdict on a text that has ended is not that it goes on
ended_apart : (verdict : Verdict) → verdict_ended verdict ≡ verdicts.More → ⊥
ended_apart verdicts.More e = let never : verdicts.NotEmpty ≡ verdicts.More = e in cc
ended_apart (verdicts.Refuted entries) e = cc
ended_apart (verdicts.Rejected line) e = cc
ended_apart verdicts.NotEmpty e = cc
ended_apart (verdicts.TooLong line) e = cc
ended_apart (verdicts.Syntax at) e = cc

never_more : (cnf : Cnf) (text : List ℕ) → verdict_of cnf text ≡ verdicts.More → ⊥
unfolding verdict_of
never_more cnf text e = by (has_empty cnf.clauses) refl e
  where
    by : (b : Bool) → has_empty cnf.clauses ≡ b → verdict_of cnf text ≡ verdicts.More → ⊥
    by true f g = let never : verdicts.Refuted 0 ≡ verdicts.More = rw f at g in cc
    by false f g = ended_apart _ (rw f at g)

-- where it is 1 the verdict is that a line does not follow, or that no line adds the empty clause
verdict_one : (horizon : ℕ) (verdict : Verdict) → (verdict ≡ verdicts.More → ⊥) → status_of (ended_by horizon verdict) ≡ 1 → ((line : ℕ) × (verdict ≡ verdicts.Rejected line)) ⊎ (verdict ≡ verdicts.NotEmpty)
verdict_one horizon verdicts.More ended one = absurd (ended refl)
verdict_one horizon (verdicts.Refuted entries) ended one = absurd (omega (arith, one))
verdict_one horizon (verdicts.Rejected line) ended one = inl (line, refl)
verdict_one horizon verdicts.NotEmpty ended one = inr refl
verdict_one horizon (verdicts.TooLong line) ended one = absurd (omega (arith, one))
verdict_one horizon (verdicts.Syntax at) ended one = absurd (omega (arith, one))

-- ---- statuses of what comes of words

-- an ending has status 5 where a file of these names, or the proof, could not be read, else one of at most 4
IsLow : List (List ℕ) → List (List ℕ) → List (List ℕ) → ℕ → ℕ → Ended → Type 0
IsLow names failed fails faults rises end = ((status_of end ≡ 5) × (RoseAmong names failed fails ⊎ Rose faults rises)) ⊎ (status_of end ≤ 4)

module _ (heard hears : List Heard) (failed fails : List (List ℕ)) (tape : TapeRun) where
  stop_low : (d p : List ℕ) (end : Ended) → StopsAt heard hears failed fails tape d p end → IsLow (d ∷ p ∷ []) failed fails tape.faults tape.rises end
  unfolding IsLow
  stop_low d p end h = elim (files_between failed fails (file_in Proof) 0 (d ∷ p ∷ []) h.1 h.0 h.3) [
    | inl k ↦ inl (ap status_of h.4 ∙ k.0, inl k.1)
    | inr four ↦ inr (let is = ap status_of h.4 in omega (arith, is, four))
  ]

  unread_low : (names : List (List ℕ)) (plain_end : Ending) (end : Ended) → IsUnread tape.faults tape.rises plain_end → end ≡ Plain plain_end → IsLow names failed fails tape.faults tape.rises end
  unfolding IsLow
  unread_low names plain_end end h e = inl (ap status_of e ∙ ap plain.status_of h.0, inr h.1)

  not_ready_low : (domain problem : List ℕ) (plain_end : Ending) (end : Ended) → StopsTask domain problem plain_end → end ≡ Plain plain_end → (3 ≤ status_of end) × (status_of end ≤ 4)
  not_ready_low domain problem plain_end end h e = let b = task_between domain problem plain_end h in let is = ap status_of e in (omega (arith, b.0, is), omega (arith, b.1, is))

  formula_low : (names : List (List ℕ)) (first second : List ℕ) (s : Stepping) (h : ℕ) (end : Ended) → OnceReady first second (AnswersFormula s h) end → IsLow names failed fails tape.faults tape.rises end
  unfolding IsLow
  formula_low names first second s h end (not_ready plain_end stops e) = inr (not_ready_low first second plain_end end stops e).1
  formula_low names first second s h end (ready task g are is (too_large plain_end over e)) = inr (let four = ap status_of e ∙ ap plain.status_of over.1 in omega (arith, four))
  formula_low names first second s h end (ready task g are is (formula known)) = inr (let zero = ap status_of known.holds in omega (arith, zero))

  judge_low : (names : List (List ℕ)) (first second : List ℕ) (s : Stepping) (h : ℕ) (end : Ended) → OnceReady first second (AnswersJudge s h tape) end → IsLow names failed fails tape.faults tape.rises end
  unfolding IsLow
  judge_low names first second s h end (not_ready plain_end stops e) = inr (not_ready_low first second plain_end end stops e).1
  judge_low names first second s h end (ready task g are is (too_large plain_end over e)) = inr (let four = ap status_of e ∙ ap plain.status_of over.1 in omega (arith, four))
  judge_low names first second s h end (ready task g are is (unread plain_end un e)) = unread_low names plain_end end un e
  judge_low names first second s h end (ready task g are is (judged verdict e so none)) = inr (let low = verdict_low h verdict in let same = ap status_of e in omega (arith, low, same))

  model_low : (names : List (List ℕ)) (first second : List ℕ) (s : Stepping) (h : ℕ) (end : Ended) → OnceReady first second (AnswersModel s h tape) end → IsLow names failed fails tape.faults tape.rises end
  unfolding IsLow
  model_low names first second s h end (not_ready plain_end stops e) = inr (not_ready_low first second plain_end end stops e).1
  model_low names first second s h end (ready task g are is (too_large plain_end over e)) = inr (let four = ap status_of e ∙ ap plain.status_of over.1 in omega (arith, four))
  model_low names first second s h end (ready task g are is (model tolds.Unread known small e)) = inl (ap status_of e, inr known.holds)
  model_low names first second s h end (ready task g are is (model (tolds.Refused (refusals.NoText at)) known small e)) = inr (let three = ap status_of e in omega (arith, three))
  model_low names first second s h end (ready task g are is (model (tolds.Refused (refusals.LongLine line)) known small e)) = inr (let four = ap status_of e in omega (arith, four))
  model_low names first second s h end (ready task g are is (model (tolds.NoModel clause) known small e)) = inr (let one = ap status_of e in omega (arith, one))
  model_low names first second s h end (ready task g are is (model (tolds.Plan steps) known small e)) = inr (let zero = ap status_of e in omega (arith, zero))

  answers_low : (names : List (List ℕ)) (request : Seen) (first second : List ℕ) (end : Ended) → Answers tape request end first second → IsLow names failed fails tape.faults tape.rises end
  unfolding IsLow
  answers_low names (formulas d p h s) first second end k = formula_low names first second s h end k.1
  answers_low names (judges d p h l s) first second end (inl un) = unread_low names un.0 end un.1 un.2
  answers_low names (judges d p h l s) first second end (inr k) = judge_low names first second s h end k.1
  answers_low names (models d p h m s) first second end (inl un) = inl (ap status_of un.0, inr un.1)
  answers_low names (models d p h m s) first second end (inr k) = model_low names first second s h end k.1

  request_low : (request : Seen) (end : Ended) → ComesFor heard hears failed fails tape request end → IsLow (two_of request) failed fails tape.faults tape.rises end
  request_low request end (inl stops) = stop_low (domain_of request) (problem_of request) end stops
  request_low request end (inr taken) = answers_low (two_of request) request taken.0 taken.1 end taken.3

  names_of : (words : List (List ℕ)) (request : Seen) → requested words ≡ Some request → two_of request ≡ names_in words
  names_of words request is = sym (ap (λ (o : Option Seen). elim o as (λ _. List (List ℕ)) [ None ↦ [] | Some r ↦ two_of r ]) is)

  -- 7 where the words ask for nothing, 5 where a file or the proof could not be read alone
  words_low : (words : List (List ℕ)) (end : Ended) → Comes heard hears failed fails tape words end
      → ((status_of end ≡ 7) × (requested words ≡ None)) ⊎ (((status_of end ≡ 5) × HasFault failed fails tape.faults tape.rises words) ⊎ (status_of end ≤ 4))
  unfolding IsLow
  words_low words end (no_request none e) = inl (ap status_of e, none)
  words_low words end (asked request is h) = elim (request_low request end h) [
    | inl k ↦ inr (inl (k.0, subst (λ (ns : List (List ℕ)). RoseAmong ns failed fails ⊎ Rose tape.faults tape.rises) (names_of words request is) k.1))
    | inr low ↦ inr (inr low)
  ]

  -- no ending that comes has a status of its own for a write fault or for want of memory
  pub status_apart : (words : List (List ℕ)) (end : Ended) → Comes heard hears failed fails tape words end → (status_of end ≡ 6 → ⊥) × (status_of end ≡ 8 → ⊥)
  status_apart words = by_words.status_apart status_of _ _ _ (words_low words)

-- ---- what is promised

-- the text that is told of the formula of a task
listed_is : (text other : List ℕ) (end : Ended) → end ≡ Plain (Listing other) → text ≡ text_of end → text ≡ other
listed_is text other end e is = is ∙ ap text_of e

module _ (heard hears : List Heard) (failed fails : List (List ℕ)) (tape : TapeRun) (words : List (List ℕ)) (before after : Option (List ℕ)) (status : ℕ) where
  -- the status of an ending that comes, and its text, but for a write fault and want of memory
  abbrev pub IsDue : Type 0
  IsDue = (status ≡ 6 → ⊥) → (status ≡ 8 → ⊥) → (end : Ended) × (status ≡ status_of end) × Comes heard hears failed fails tape words end × (after ≡ appended before (text_of end))

  due_at : (k : ℕ) → IsDue → status ≡ k → k ≤ 5 → (end : Ended) × (status_of end ≡ k) × Comes heard hears failed fails tape words end × (after ≡ appended before (text_of end))
  due_at k due = by_words.due_at status_of _ _ _ (words_low heard hears failed fails tape words) status _ due k

  -- what comes of words that ask for this
  comes_for : (request : Seen) (end : Ended) → requested words ≡ Some request → Comes heard hears failed fails tape words end → ComesFor heard hears failed fails tape request end
  comes_for request end is (no_request none e) = absurd (let never : None ≡ Some request = sym none ∙ is in cc)
  comes_for request end is (asked other was h) =
      let same : other ≡ request = (let both : Some other ≡ Some request = sym was ∙ is in cc) in
      subst (λ (r : Seen). ComesFor heard hears failed fails tape r end) same h

  low_only : {A : Type 0} (n : ℕ) (end : Ended) → n ≤ 3 → status_of end ≡ n → (d p : List ℕ) → StopsAt heard hears failed fails tape d p end → A
  low_only n end low at d p h = elim (files_between failed fails (file_in Proof) 0 (d ∷ p ∷ []) h.1 h.0 h.3) [
    | inl k ↦ absurd (let five = ap status_of h.4 ∙ k.0 in omega (arith, five, at, low))
    | inr four ↦ absurd (let is = ap status_of h.4 ∙ four in omega (arith, is, at, low))
  ]

  -- with a status up to 3 the two files of a request were taken whole, and what its answer gives holds of their bytes
  of_taken : (n : ℕ) (request : Seen) (claim : List ℕ → List ℕ → Type 0) → n ≤ 3 → IsDue → status ≡ n → requested words ≡ Some request
      → ((end : Ended) → status_of end ≡ n → after ≡ appended before (text_of end) → (first second : List ℕ) → Answers tape request end first second → claim first second)
      → OfTaken heard hears (domain_of request) (problem_of request) claim
  of_taken n request claim low due at is gives =
      let d = due_at n due at (omega (arith, low)) in
      step d.0 d.1 d.3 (comes_for request d.0 is d.2)
    where
      step : (end : Ended) → status_of end ≡ n → after ≡ appended before (text_of end) → ComesFor heard hears failed fails tape request end → OfTaken heard hears (domain_of request) (problem_of request) claim
      step end here printed (inl stops) = low_only n end low here (domain_of request) (problem_of request) stops
      step end here printed (inr taken) = (taken.0, taken.1, taken.2, gives end here printed taken.0 taken.1 taken.3)

  -- with 0 or 1 they are a task
  of_request : (n : ℕ) (request : Seen) (claim : Parts → Type 0) → n ≤ 3 → IsDue → status ≡ n → requested words ≡ Some request
      → ((end : Ended) → status_of end ≡ n → after ≡ appended before (text_of end) → (first second : List ℕ) → Answers tape request end first second → (task : Parts) × AreTask first second task × claim task)
      → OfFiles heard hears (domain_of request) (problem_of request) claim
  of_request n request claim low due at is gives =
      let t = of_taken n request (λ first second. (task : Parts) × AreTask first second task × claim task) low due at is gives in
      (t.0, t.1, t.2, t.3.0, t.3.1, t.3.2)

  -- so do they where they are ready
  of_ready : (n : ℕ) (claim : Parts → Type 0) (answers : Parts → Grounded → Ended → Type 0) (end : Ended) → n ≤ 1 → status_of end ≡ n → (first second : List ℕ) → OnceReady first second answers end
      → ((task : Parts) (g : Grounded) → IsReady task g → answers task g end → claim task) → (task : Parts) × AreTask first second task × claim task
  of_ready n claim answers end low at first second (not_ready plain_end stops e) gives = absurd (let b = task_between first second plain_end stops in let same = ap status_of e in omega (arith, b.0, same, at, low))
  of_ready n claim answers end low at first second (ready task g are is k) gives = (task, are, gives task g is k)

  -- or they are no task, of which the text tells
  or_ready : (text : List ℕ) (claim : Parts → Type 0) (answers : Parts → Grounded → Ended → Type 0) (end : Ended) → text ≡ text_of end → (first second : List ℕ) → OnceReady first second answers end
      → ((task : Parts) (g : Grounded) → IsReady task g → answers task g end → claim task) → OrNoTask text claim first second
  or_ready text claim answers end told first second (not_ready plain_end stops e) gives = inl (plain_end, stops, told ∙ ap text_of e)
  or_ready text claim answers end told first second (ready task g are is k) gives = inr (task, are, gives task g is k)

  -- no limit, and no fault of the tape, has such a status
  not_limit : {A : Type 0} (n : ℕ) (how : Stepping) (horizon : ℕ) (g : Grounded) (end : Ended) → n ≤ 3 → status_of end ≡ n → (plain_end : Ending) → TellsTooMany (places_by how) horizon g.task plain_end → end ≡ Plain plain_end → A
  not_limit n how horizon g end low at plain_end over e = absurd (let four = ap status_of e ∙ ap plain.status_of over.1 in omega (arith, four, at, low))

  not_unread : {A : Type 0} (n : ℕ) (end : Ended) → n ≤ 3 → status_of end ≡ n → (plain_end : Ending) → IsUnread tape.faults tape.rises plain_end → end ≡ Plain plain_end → A
  not_unread n end low at plain_end un e = absurd (let five = ap status_of e ∙ ap plain.status_of un.0 in omega (arith, five, at, low))

  pub is_judged : TaskLaws → IsDue → (domain problem proof : List ℕ) (horizon : ℕ) (how : Stepping) → status ≡ 0 → requested words ≡ Some (judges domain problem horizon proof how)
      → OfFiles heard hears domain problem (IsProvedNone how horizon)
  is_judged laws due domain problem proof horizon how zero is = of_request 0 (judges domain problem horizon proof how) (IsProvedNone how horizon) (omega arith) due zero is step
    where
      proved : (end : Ended) → status_of end ≡ 0 → (task : Parts) (g : Grounded) → IsReady task g → AnswersJudge how horizon tape task g end → IsProvedNone how horizon task
      proved end at task g is (too_large plain_end over e) = not_limit 0 how horizon g end (omega arith) at plain_end over e
      proved end at task g is (unread plain_end un e) = not_unread 0 end (omega arith) at plain_end un e
      proved end at task g is (judged verdict e so none) =
          let v = verdict_zero horizon verdict (sym (ap status_of e) ∙ at) in
          let k = none v.0 v.1 in
          (claims.no_step_plan laws task g is k.clauses k.components k.ordered how horizon k.holds, claims.no_plan laws task g is k.clauses k.components k.ordered how horizon k.holds)

      step : (end : Ended) → status_of end ≡ 0 → after ≡ appended before (text_of end) → (first second : List ℕ) → Answers tape (judges domain problem horizon proof how) end first second
          → (task : Parts) × AreTask first second task × IsProvedNone how horizon task
      step end at printed first second (inl un) = not_unread 0 end (omega arith) at un.0 un.1 un.2
      step end at printed first second (inr k) = of_ready 0 (IsProvedNone how horizon) (AnswersJudge how horizon tape) end (omega arith) at first second k.1 (proved end at)

  -- The verdict on the bytes of the proof is the one that an ending of this status tells, where each verdict that such an ending tells
  -- meets the claim.
  module _ (laws : TaskLaws) (n : ℕ) (horizon : ℕ) (how : Stepping) (claim : Verdict → Type 0) (low : n ≤ 3) (proof : List ℕ)
      (gives : (verdict : Verdict) → (verdict ≡ verdicts.More → ⊥) → status_of (ended_by horizon verdict) ≡ n → after ≡ appended before (text_of (ended_by horizon verdict)) → claim verdict) where
    verdict_told : HasOpened tape proof → (end : Ended) → status_of end ≡ n → after ≡ appended before (text_of end) → (task : Parts) (g : Grounded) → IsReady task g → AnswersJudge how horizon tape task g end → WhenRead tape.before tape.given proof (OfVerdict how horizon tape.given claim) task
    verdict_told opened end at printed task g is (too_large plain_end over e) = not_limit n how horizon g end low at plain_end over e
    verdict_told opened end at printed task g is (unread plain_end un e) = not_unread n end low at plain_end un e
    verdict_told opened end at printed task g is (judged verdict e so none) =
        let cnf = formula_at (places_by how) (form_of g.task so.clauses so.components) horizon in
        let ended = λ (more : verdict ≡ verdicts.More). never_more cnf tape.given.bytes (sym (so.holds.is tape.given.bytes (itself tape.given)) ∙ more) in
        let told = gives verdict ended (sym (ap status_of e) ∙ at) (printed ∙ ap (λ (end : Ended). appended before (text_of end)) e) in (
          record { opened = opened; sound = so.holds.sound },
          claims.of_grounded laws task g is so.clauses so.components so.ordered (λ h clauses components. (file : List ℕ) → IsFileOf tape.given file → claim (verdict_of (formula_at (places_by how) (form_of h.task clauses components) horizon) file))
              (λ file whole. subst claim (so.holds.is file whole) told),
        )

  of_verdict : TaskLaws → (n : ℕ) (domain problem proof : List ℕ) (horizon : ℕ) (how : Stepping) (claim : Verdict → Type 0) → n ≤ 1 → IsDue → status ≡ n → requested words ≡ Some (judges domain problem horizon proof how)
      → ((verdict : Verdict) → (verdict ≡ verdicts.More → ⊥) → status_of (ended_by horizon verdict) ≡ n → after ≡ appended before (text_of (ended_by horizon verdict)) → claim verdict) → OfFiles heard hears domain problem (WhenRead tape.before tape.given proof (OfVerdict how horizon tape.given claim))
  of_verdict laws n domain problem proof horizon how claim low due here is gives = of_request n (judges domain problem horizon proof how) (WhenRead tape.before tape.given proof (OfVerdict how horizon tape.given claim)) (omega (arith, low)) due here is step
    where
      step : (end : Ended) → status_of end ≡ n → after ≡ appended before (text_of end) → (first second : List ℕ) → Answers tape (judges domain problem horizon proof how) end first second
          → (task : Parts) × AreTask first second task × WhenRead tape.before tape.given proof (OfVerdict how horizon tape.given claim) task
      step end at printed first second (inl un) = not_unread n end (omega (arith, low)) at un.0 un.1 un.2
      step end at printed first second (inr k) = of_ready n (WhenRead tape.before tape.given proof (OfVerdict how horizon tape.given claim)) (AnswersJudge how horizon tape) end low at first second k.1 (verdict_told laws n horizon how claim (omega (arith, low)) proof gives k.0 end at printed)

  pub is_no_proof : TaskLaws → IsDue → (text domain problem proof : List ℕ) (horizon : ℕ) (how : Stepping) → status ≡ 3 → Printed before after text → requested words ≡ Some (judges domain problem horizon proof how)
      → OfTaken heard hears domain problem (OrNoTask text (WhenRead tape.before tape.given proof (OfVerdict how horizon tape.given (IsNoProof horizon text))))
  is_no_proof laws due text domain problem proof horizon how three put is = of_taken 3 (judges domain problem horizon proof how) (OrNoTask text (WhenRead tape.before tape.given proof (OfVerdict how horizon tape.given (IsNoProof horizon text)))) (omega arith) due three is step
    where
      tells : (verdict : Verdict) → (verdict ≡ verdicts.More → ⊥) → status_of (ended_by horizon verdict) ≡ 3 → after ≡ appended before (text_of (ended_by horizon verdict)) → IsNoProof horizon text verdict
      tells verdict ended at printed = (verdict_three horizon verdict at, printed_is before after text (text_of (ended_by horizon verdict)) put printed)

      step : (end : Ended) → status_of end ≡ 3 → after ≡ appended before (text_of end) → (first second : List ℕ) → Answers tape (judges domain problem horizon proof how) end first second
          → OrNoTask text (WhenRead tape.before tape.given proof (OfVerdict how horizon tape.given (IsNoProof horizon text))) first second
      step end at printed first second (inl un) = not_unread 3 end (omega arith) at un.0 un.1 un.2
      step end at printed first second (inr k) =
          or_ready text (WhenRead tape.before tape.given proof (OfVerdict how horizon tape.given (IsNoProof horizon text))) (AnswersJudge how horizon tape) end (printed_is before after text (text_of end) put printed) first second k.1
          (verdict_told laws 3 horizon how (IsNoProof horizon text) (omega arith) proof tells k.0 end at printed)

  pub is_accepted : TaskLaws → IsDue → (domain problem proof : List ℕ) (horizon : ℕ) (how : Stepping) → status ≡ 0 → requested words ≡ Some (judges domain problem horizon proof how)
      → OfFiles heard hears domain problem (WhenRead tape.before tape.given proof (OfVerdict how horizon tape.given IsAccepted))
  is_accepted laws due domain problem proof horizon how zero is = of_verdict laws 0 domain problem proof horizon how IsAccepted (omega arith) due zero is (λ verdict ended at printed. verdict_zero horizon verdict at)

  pub is_rejected : TaskLaws → IsDue → (text domain problem proof : List ℕ) (horizon : ℕ) (how : Stepping) → status ≡ 1 → Printed before after text → requested words ≡ Some (judges domain problem horizon proof how)
      → OfFiles heard hears domain problem (WhenRead tape.before tape.given proof (OfVerdict how horizon tape.given (IsRejected horizon text)))
  is_rejected laws due text domain problem proof horizon how one put is =
      of_verdict laws 1 domain problem proof horizon how (IsRejected horizon text) (omega arith) due one is
      (λ verdict ended at printed. (verdict_one horizon verdict ended at, printed_is before after text (text_of (ended_by horizon verdict)) put printed))

  pub is_told : TaskLaws → IsDue → (text domain problem : List ℕ) (horizon : ℕ) (how : Stepping) → status ≡ 0 → Printed before after text → requested words ≡ Some (formulas domain problem horizon how)
      → OfFiles heard hears domain problem (TellsFormula how horizon text)
  is_told laws due text domain problem horizon how zero printed is =
      of_request 0 (formulas domain problem horizon how) (TellsFormula how horizon text) (omega arith) due zero is
      (λ end at put first second k. of_ready 0 (TellsFormula how horizon text) (AnswersFormula how horizon) end (omega arith) at first second k.1 (told end at (printed_is before after text (text_of end) printed put)))
    where
      told : (end : Ended) → status_of end ≡ 0 → text ≡ text_of end → (task : Parts) (g : Grounded) → IsReady task g → AnswersFormula how horizon task g end → TellsFormula how horizon text task
      told end at same task g is (too_large plain_end over e) = not_limit 0 how horizon g end (omega arith) at plain_end over e
      told end at same task g is (formula k) =
          claims.of_grounded laws task g is k.clauses k.components k.ordered (λ h clauses components. text ≡ formula_text (word_of how) horizon (formula_at (places_by how) (form_of h.task clauses components) horizon))
          (listed_is text _ end k.holds same)

  -- for a formula the tape is as it was
  pub is_untaken : IsDue → (domain problem : List ℕ) (horizon : ℕ) (how : Stepping) → status ≡ 0 → requested words ≡ Some (formulas domain problem horizon how) → tape.given ≡ tape.before
  is_untaken due domain problem horizon how zero is =
      let d = due_at 0 due zero (omega arith) in
      elim (comes_for (formulas domain problem horizon how) d.0 is d.2) [
        | inl stops ↦ low_only 0 d.0 (omega arith) d.1 domain problem stops
        | inr taken ↦ taken.3.0
      ]

  pub is_planned : PlanLaws → IsDue → (text domain problem name : List ℕ) (horizon : ℕ) (how : Stepping) → status ≡ 0 → Printed before after text → requested words ≡ Some (models domain problem horizon name how)
      → OfFiles heard hears domain problem (PlanRunsIn how horizon text)
  is_planned laws due text domain problem name horizon how zero printed is = of_request 0 (models domain problem horizon name how) (PlanRunsIn how horizon text) (omega arith) due zero is step
    where
      planned : (end : Ended) → status_of end ≡ 0 → text ≡ text_of end → (task : Parts) (g : Grounded) → IsReady task g → AnswersModel how horizon tape task g end → PlanRunsIn how horizon text task
      planned end at same task g is (too_large plain_end over e) = not_limit 0 how horizon g end (omega arith) at plain_end over e
      planned end at same task g is (model tolds.Unread known small e) = absurd (let five = ap status_of e in omega (arith, five, at))
      planned end at same task g is (model (tolds.Refused (refusals.NoText place)) known small e) = absurd (let three = ap status_of e in omega (arith, three, at))
      planned end at same task g is (model (tolds.Refused (refusals.LongLine line)) known small e) = absurd (let four = ap status_of e in omega (arith, four, at))
      planned end at same task g is (model (tolds.NoModel clause) known small e) = absurd (let one = ap status_of e in omega (arith, one, at))
      planned end at same task g is (model (tolds.Plan steps) known small e) =
          let values = known.holds.0 in
          let stands = known.holds.3 in
          let runs = model_runs laws task g is known.clauses known.components known.ordered how horizon values known.holds.2 (subst (IsSmallPlan horizon) stands small) in
          subst (λ (xs : List ℕ). PlanRunsIn how horizon xs task) (sym (listed_is text _ end e same ∙ ap (plan_text task g horizon) stands)) runs

      step : (end : Ended) → status_of end ≡ 0 → after ≡ appended before (text_of end) → (first second : List ℕ) → Answers tape (models domain problem horizon name how) end first second
          → (task : Parts) × AreTask first second task × PlanRunsIn how horizon text task
      step end at put first second (inl un) = absurd (let five = ap status_of un.0 in omega (arith, five, at))
      step end at put first second (inr k) = of_ready 0 (PlanRunsIn how horizon text) (AnswersModel how horizon tape) end (omega arith) at first second k.1 (planned end at (printed_is before after text (text_of end) printed put))

  -- ---- models

  -- What an ending tells of a model's text, by its status.
  module _ (laws : TaskLaws) (how : Stepping) (horizon : ℕ) (name text : List ℕ) (opened : HasOpened tape name) (task : Parts) (g : Grounded) (ready_is : IsReady task g) where
    abbrev given : Given
    given = tape.given

    once : (given.reading ≡ Lost → ⊥) → IsReadOnce tape.before given name
    once sound = record { opened = opened; sound = sound }

    tells_model : (end : Ended) → status_of end ≡ 0 → text ≡ text_of end → AnswersModel how horizon tape task g end → WhenRead tape.before given name (TellsModel how horizon given text) task
    tells_model end at same (too_large plain_end over e) = not_limit 0 how horizon g end (omega arith) at plain_end over e
    tells_model end at same (model tolds.Unread known small e) = absurd (let five = ap status_of e in omega (arith, five, at))
    tells_model end at same (model (tolds.Refused (refusals.NoText place)) known small e) = absurd (let three = ap status_of e in omega (arith, three, at))
    tells_model end at same (model (tolds.Refused (refusals.LongLine line)) known small e) = absurd (let four = ap status_of e in omega (arith, four, at))
    tells_model end at same (model (tolds.NoModel clause) known small e) = absurd (let one = ap status_of e in omega (arith, one, at))
    tells_model end at same (model (tolds.Plan steps) known small e) =
        let h = known.holds in (
          once h.1.sound,
          claims.of_grounded laws task g ready_is known.clauses known.components known.ordered (IsModelTold how horizon given text task)
              (h.0, h.1, h.2, listed_is text _ end e same ∙ ap (plan_text task g horizon) h.3),
        )

    tells_no_model : (end : Ended) → status_of end ≡ 1 → text ≡ text_of end → AnswersModel how horizon tape task g end → WhenRead tape.before given name (TellsNoModel how horizon given text) task
    tells_no_model end at same (too_large plain_end over e) = not_limit 1 how horizon g end (omega arith) at plain_end over e
    tells_no_model end at same (model tolds.Unread known small e) = absurd (let five = ap status_of e in omega (arith, five, at))
    tells_no_model end at same (model (tolds.Refused (refusals.NoText place)) known small e) = absurd (let three = ap status_of e in omega (arith, three, at))
    tells_no_model end at same (model (tolds.Refused (refusals.LongLine line)) known small e) = absurd (let four = ap status_of e in omega (arith, four, at))
    tells_no_model end at same (model (tolds.Plan steps) known small e) = absurd (let zero = ap status_of e in omega (arith, zero, at))
    tells_no_model end at same (model (tolds.NoModel clause) known small e) =
        let h = known.holds in
        (once h.1.sound, claims.of_grounded laws task g ready_is known.clauses known.components known.ordered (IsNoModelTold how horizon given text task) (h.0, clause, h.1, h.2, same ∙ ap text_of e))

    tells_no_text : (end : Ended) → status_of end ≡ 3 → text ≡ text_of end → AnswersModel how horizon tape task g end → WhenRead tape.before given name (TellsNoText how horizon given text) task
    tells_no_text end at same (too_large plain_end over e) = not_limit 3 how horizon g end (omega arith) at plain_end over e
    tells_no_text end at same (model tolds.Unread known small e) = absurd (let five = ap status_of e in omega (arith, five, at))
    tells_no_text end at same (model (tolds.NoModel clause) known small e) = absurd (let one = ap status_of e in omega (arith, one, at))
    tells_no_text end at same (model (tolds.Plan steps) known small e) = absurd (let zero = ap status_of e in omega (arith, zero, at))
    tells_no_text end at same (model (tolds.Refused (refusals.NoText place)) known small e) =
        (once known.holds.sound, claims.of_grounded laws task g ready_is known.clauses known.components known.ordered (IsNoTextTold how horizon given text task) (place, known.holds, same ∙ ap text_of e))
    tells_no_text end at same (model (tolds.Refused (refusals.LongLine line)) known small e) = absurd (let four = ap status_of e in omega (arith, four, at))

  -- no model that could not be opened has such a status
  unopened : {A : Type 0} (n : ℕ) (end : Ended) → n ≤ 3 → status_of end ≡ n → end ≡ Unread → A
  unopened n end low at e = absurd (let five = ap status_of e in omega (arith, five, at, low))

  of_model : (n : ℕ) (text domain problem name : List ℕ) (horizon : ℕ) (how : Stepping) (claim : Parts → Type 0) → n ≤ 1 → IsDue → status ≡ n → Printed before after text → requested words ≡ Some (models domain problem horizon name how)
      → (HasOpened tape name → (task : Parts) (g : Grounded) → IsReady task g → (end : Ended) → status_of end ≡ n → text ≡ text_of end → AnswersModel how horizon tape task g end → claim task) → OfFiles heard hears domain problem claim
  of_model n text domain problem name horizon how claim low due here printed is gives = of_request n (models domain problem horizon name how) claim (omega (arith, low)) due here is step
    where
      step : (end : Ended) → status_of end ≡ n → after ≡ appended before (text_of end) → (first second : List ℕ) → Answers tape (models domain problem horizon name how) end first second → (task : Parts) × AreTask first second task × claim task
      step end at put first second (inl un) = unopened n end (omega (arith, low)) at un.0
      step end at put first second (inr k) = of_ready n claim (AnswersModel how horizon tape) end low at first second k.1 (λ task g ready_is. gives k.0 task g ready_is end at (printed_is before after text (text_of end) printed put))

  pub is_model_told : TaskLaws → IsDue → (text domain problem name : List ℕ) (horizon : ℕ) (how : Stepping) → status ≡ 0 → Printed before after text → requested words ≡ Some (models domain problem horizon name how)
      → OfFiles heard hears domain problem (WhenRead tape.before tape.given name (TellsModel how horizon tape.given text))
  is_model_told laws due text domain problem name horizon how zero printed is =
      of_model 0 text domain problem name horizon how (WhenRead tape.before tape.given name (TellsModel how horizon tape.given text)) (omega arith) due zero printed is (λ opened. tells_model laws how horizon name text opened)

  pub is_no_model : TaskLaws → IsDue → (text domain problem name : List ℕ) (horizon : ℕ) (how : Stepping) → status ≡ 1 → Printed before after text → requested words ≡ Some (models domain problem horizon name how)
      → OfFiles heard hears domain problem (WhenRead tape.before tape.given name (TellsNoModel how horizon tape.given text))
  is_no_model laws due text domain problem name horizon how one printed is =
      of_model 1 text domain problem name horizon how (WhenRead tape.before tape.given name (TellsNoModel how horizon tape.given text)) (omega arith) due one printed is (λ opened. tells_no_model laws how horizon name text opened)

  pub is_no_text : TaskLaws → IsDue → (text domain problem name : List ℕ) (horizon : ℕ) (how : Stepping) → status ≡ 3 → Printed before after text → requested words ≡ Some (models domain problem horizon name how)
      → OfTaken heard hears domain problem (OrNoTask text (WhenRead tape.before tape.given name (TellsNoText how horizon tape.given text)))
  is_no_text laws due text domain problem name horizon how three printed is = of_taken 3 (models domain problem horizon name how) (OrNoTask text (WhenRead tape.before tape.given name (TellsNoText how horizon tape.given text))) (omega arith) due three is step
    where
      step : (end : Ended) → status_of end ≡ 3 → after ≡ appended before (text_of end) → (first second : List ℕ) → Answers tape (models domain problem horizon name how) end first second → OrNoTask text (WhenRead tape.before tape.given name (TellsNoText how horizon tape.given text)) first second
      step end at put first second (inl un) = unopened 3 end (omega arith) at un.0
      step end at put first second (inr k) =
          let told = printed_is before after text (text_of end) printed put in
          or_ready text (WhenRead tape.before tape.given name (TellsNoText how horizon tape.given text)) (AnswersModel how horizon tape) end told first second k.1 (λ task g ready_is. tells_no_text laws how horizon name text k.0 task g ready_is end at told)

  -- ---- words and faults

  pub usage : IsDue → status ≡ 7 → requested words ≡ None
  usage due = by_words.usage status_of _ _ _ (words_low heard hears failed fails tape words) status _ due

  pub read_fault : IsDue → status ≡ 5 → HasFault failed fails tape.faults tape.rises words
  read_fault due = by_words.read_fault status_of _ _ _ (words_low heard hears failed fails tape words) status _ due

  not_asked : requested words ≡ None → (end : Ended) → Comes heard hears failed fails tape words end → end ≡ Usage
  not_asked none end (no_request also e) = e
  not_asked none end (asked request is h) = absurd (let never : None ≡ Some request = sym none ∙ is in cc)

  pub not_taken : IsDue → requested words ≡ None → Contains (6 ∷ 7 ∷ 8 ∷ []) status
  not_taken due none = by_words.not_taken status_of _ _ _ (words_low heard hears failed fails tape words) status _ due Usage refl (not_asked none)

  pub no_command : IsDue → requested words ≡ None → (status ≡ 8 → ⊥) → Contains (6 ∷ 7 ∷ []) status
  no_command due none = by_words.no_command status_of _ _ _ (words_low heard hears failed fails tape words) status _ due Usage refl (not_asked none)
