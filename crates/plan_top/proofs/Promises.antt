-- The promises of the top call, each from what it needs alone: mostly that its ending has a cause and that its text is written.
use Rattle.std.proofs.Common.{◌≡◌, ◌≤◌, ◌+◌, ℕ, true, false, List, [], ◌∷◌, Option, Some, None, refl, sym, ap, subst, ◌∙◌, arith, inl, inr, codes, map, append-nil}
use Rattle.std.specs.Prelude.{◌++◌, IsTrue, Contains, ◌⊎◌, slice_get}
use Rattle.std.proofs.lemmas.Bool.Decides.{eqb_tells}
use Rattle.pl_io.specs.Outside.{Heard, whole, appended, TakesFront}
use Rattle.report_lines.specs.Lines.{lines_of}
use Rattle.report_lines.specs.Horizons.{Says, is_word}
use Rattle.horizon_rates.specs.declared.settings.Settings.{Settings}
use Rattle.pd_model.specs.Plan.{verdict}
use Rattle.pd_model.specs.declared.calls.Verdict.{Verdict}
use Rattle.pd_model.specs.declared.calls.Verdict.TheVariants as verdicts
use Rattle.pd_model.specs.declared.parts.Parts.{Parts}
use Rattle.plan_endings.specs.declared.ending.File.{File}
use Rattle.plan_endings.specs.declared.ending.File.TheVariants.{Proof}
use Rattle.grounding_defs.specs.Grounded.{Grounded}
use Rattle.race_outcome.specs.declared.end.RaceEnd.{RaceEnd}
use Rattle.race_outcome.specs.Ends.{end_view, lines_in}
use Rattle.plan_report.specs.Report.{plan_line}
use Rattle.plan_report.specs.Laws.{Tells}
use Rattle.requests.specs.Seen.{Seen, Numbers, numbers, plans, plans_by, checks, grounds, orders, generates, proves, verifies, batches, files_of}
use Rattle.requests.specs.declared.request.Stepping.{Stepping}
use Rattle.requests.specs.declared.request.Turns.{Turns}
use Rattle.requests.specs.OneTask.{IsOfOne}
use Rattle.requests.specs.Requested.{requested}
use Rattle.plan_endings.specs.declared.ending.Outcome.{Outcome}
use Rattle.plan_endings.specs.declared.ending.Outcome.TheVariants as outcomes
use Rattle.plan_endings.specs.declared.ending.Ending.{Ending}
use Rattle.plan_endings.specs.declared.ending.Ending.TheVariants.{Report, Listing, Reaches, Blocked, Short, Refused, TooLong, TooMany, TooLarge, ReadFault, Usage, Found, Open, Accepted, Rejected, NotEmpty, Parts as Batched}
use Rattle.commands.specs.Files.{file_at}
use Rattle.plan_tasks.specs.Files.{AreTaken, StopsFrom, FaultsFrom, RoseAmong}
use Rattle.plan_tasks.proofs.published.Hearing.{two_taken, three_taken}
use Rattle.commands.specs.Stepping.{places_by, is_plan_by}
use Rattle.commands.specs.Tasks.{AreTask, IsReady, OnceRead, not_read, read, OnceGrounded}
use Rattle.commands.specs.Raced.{ComesTo}
use Rattle.commands.specs.Answers.{Decides, AnswersGround, AnswersOrder, AnswersCheck, AnswersProve, not_run, run, AnswersVerify, unfit, beyond, spelled, not_checked, checked, ending_of_run, ending_of_check, ending_of}
use Rattle.plan_top.specs.Causes.{is_answer, HasRead, ComesFor, stopped, decided, IsPartOf, ArePartsOf, IsBatchOf, ArePartsSo, Comes, no_request, of_one, unread, in_parts, names_in, FaultOf}
use Rattle.formula_defs.specs.Variables.{chain_places}
use Rattle.clause_base.specs.Formula.{Cnf}
use Rattle.clause_base.specs.Derivation.{IsRefutation}
use Rattle.clause_base.specs.declared.log.Entry.{Entry}
use Rattle.proof_log.specs.Text.{spaced, entry_words}
use Rattle.commands.specs.Known.{form_of, formula_at}
use Rattle.commands.specs.Certificate.{IsSpelled, IsCertificate}
use Rattle.commands.specs.Proved.{Proves}
use Rattle.commands.specs.Judged.{IsJudged, Judges}
use Rattle.commands.specs.declared.prove.Proved.{Proved}
use Rattle.commands.specs.declared.prove.Proved.TheVariants as proved
use Rattle.commands.specs.declared.verify.Judged.{Judged}
use Rattle.commands.specs.declared.verify.Judged.TheVariants as judged
use Rattle.requests.specs.declared.request.Stepping.TheVariants.{Exists, All}
use Rattle.plan_top.specs.Complete.{GoesWell, IsGood}
use Rattle.plan_top.specs.OneReport.{AskForOne, AskForOnePart, AskToVerify, AskToProve}
use Rattle.plan_endings.specs.Ending.{status_of, status_of_race, text_of, greatest, parts_text, batch_of, IsSmall}
use Rattle.plan_top.specs.Headline.{Printed, OfFiles, OfThreeFiles, OfPlans, PlanRuns, EveryOrderRuns, HasAtLeast, HasPlanOf, TellsExhausted, NoStepPlan, NoPlan, LineIsSo, SpendsAll, PartIsSo, Certifies, CertifiesNothing, ProvesNone, TellsGround, TellsOrder, AreCallsOfPlan, AreCallsOfNoPlan}
use Rattle.plan_top.specs.Laws.{Laws}
use Rattle.plan_top.proofs.published.Claims as claims
use Rattle.plan_endings.proofs.published.Words as by_words
use Rattle.plan_top.proofs.Told.{asked_comes, asked_parts, not_asked_comes}
use Rattle.plan_top.proofs.Reports.{is_stop, stop_says_nothing, printed_is, printed_front, nothing_said}
use Rattle.plan_top.proofs.published.Verdicts.{reaches_is_plan, plan_reaches}
use Rattle.plan_top.proofs.Complete.{complete as goes_well}
use Rattle.plan_top.proofs.OneReport.{one_ending, part_at, has_read}
use Rattle.plan_top.proofs.Passing.{passes as certificate_passes}
use Rattle.plan_top.proofs.Proving.{proves_refuted as refuted_proves, proves_found as found_proves}
use Rattle.plan_top.proofs.Reported.{Raced, not_low, refused_stops, fault_stops, files_stop, goes_on, raced, plan_of, orders_of, spent_of, exhausted_of, said_of}

-- what was decided by an ending that stops no run, for a race that comes of what was handed over
raced_of : (took : List Heard) (old new : List (List ℕ)) (how : Stepping) (domain problem : List ℕ) (n : Numbers) (end : Ending) → (is_stop end ≡ true → ⊥) → ComesFor took old new (plans_by how domain problem n) end
    → (first second : List ℕ) × (took ≡ whole domain first ∷ whole problem second ∷ []) × (settings : Settings) × (numbers settings ≡ n) × Raced how settings first second end
raced_of took old new how domain problem n end on (stopped h) = absurd (on (files_stop old new (file_at (plans_by how domain problem n)) 0 (domain ∷ problem ∷ []) took end h))
raced_of took old new how domain problem n end on (decided files are answer h) =
    let t = two_taken (file_at (plans_by how domain problem n)) 0 domain problem took files are in
    let d = subst (λ (fs : List (List ℕ)). Decides (plans_by how domain problem n) fs end) t.2 h in
    (t.0, t.1, t.3, d.0, d.1, raced how d.0 t.0 t.1 end on d.2)

module _ (laws : Laws) (domain problem : List ℕ) (n : Numbers) (heard other : Heard) (end : Ending) (first second : List ℕ) (are : heard ∷ other ∷ [] ≡ whole domain first ∷ whole problem second ∷ [])
    (settings : Settings) (same : numbers settings ≡ n) (r : Raced Exists settings first second end) where
  of_part : (claim : Parts → Type 0) → claim r.task → OfFiles [] (heard ∷ other ∷ []) domain problem claim
  of_part claim h = (first, second, are, r.task, r.are, h)

  -- a line says so of a horizon, and so does the end of the race
  of_said_line : (horizon : ℕ) (word : List ℕ) (conflicts : ℕ) → IsTrue (is_word word) → Says (text_of end) horizon word conflicts → Tells (lines_in (end_view r.race)) horizon word conflicts
  of_said_line horizon word conflicts one says = said_of laws Exists settings first second end r horizon word conflicts one says

  refuted_here : (horizon conflicts : ℕ) → Says (text_of end) horizon (codes "refuted") conflicts → claims.IsRefuted laws Exists settings r.task r.g r.ready r.race r.comes horizon
  refuted_here horizon conflicts says = claims.refuted_line laws Exists settings r.task r.g r.ready r.race r.comes horizon conflicts (of_said_line horizon (codes "refuted") conflicts refl says)

  part_is_so : PartIsSo domain problem n heard other (text_of end) (status_of end)
  part_is_so = record {
    plan_runs = λ zero. of_part (PlanRuns Exists (text_of end)) (plan_of laws Exists settings first second end r zero);
    found_steps = λ horizon conflicts says.
        of_part (HasPlanOf Exists horizon) (claims.found_line laws Exists settings r.task r.g r.ready r.race r.comes horizon conflicts (of_said_line horizon (codes "plan") conflicts refl says));
    refuted_steps = λ horizon conflicts says.
        of_part (NoStepPlan Exists horizon) (claims.no_step_plan laws r.task r.g r.ready r.comes.clauses r.comes.components r.comes.ordered Exists horizon (refuted_here horizon conflicts says));
    refuted_plans = λ horizon conflicts says.
        of_part (NoPlan horizon) (claims.no_plan laws r.task r.g r.ready r.comes.clauses r.comes.components r.comes.ordered Exists horizon (refuted_here horizon conflicts says));
    least = λ horizon conflicts actions line says.
        of_part (HasAtLeast Exists (horizon + 1)) (claims.at_least laws r.task r.g r.ready r.comes.clauses r.comes.components r.comes.ordered Exists horizon (refuted_here horizon conflicts says));
    exhausted = λ one. of_part (λ task. TellsExhausted (text_of end) n) (subst (TellsExhausted (text_of end)) same (exhausted_of laws Exists settings first second end r one));
    unfinished = λ two. of_part (λ task. SpendsAll (text_of end) n.budget) (subst (SpendsAll (text_of end)) (ap (λ (x : Numbers). x.budget) same) (spent_of laws Exists settings first second end r two));
    lines = λ horizon conflicts word one says.
        of_part (LineIsSo Exists horizon word conflicts) (claims.line_is_so laws Exists settings r.task r.g r.ready r.race r.comes horizon word conflicts (of_said_line horizon word conflicts one says));
  }

-- ---- the other commands

ground_listed : (domain problem : List ℕ) (end : Ending) → (is_stop end ≡ true → ⊥) → OnceGrounded domain problem AnswersGround end → (task : Parts) × AreTask domain problem task × TellsGround (text_of end) task
ground_listed domain problem end on h = let r = goes_on domain problem AnswersGround end on h in (r.0, r.2, (r.1, r.3.grounded, ap text_of r.4))

order_listed : (domain problem : List ℕ) (end : Ending) → (is_stop end ≡ true → ⊥) → OnceGrounded domain problem AnswersOrder end → (task : Parts) × AreTask domain problem task × TellsOrder (text_of end) task
order_listed domain problem end on h =
    let r = goes_on domain problem AnswersOrder end on h in
    (r.0, r.2, (r.1, r.4.0, r.4.1, r.3.grounded, r.4.2, ap text_of r.4.3))

verdict_reaches : (v : Verdict) → status_of (ending_of v) ≡ 0 → v ≡ verdicts.Reaches
verdict_reaches verdicts.Reaches zero = refl
verdict_reaches (verdicts.Blocked index) zero = absurd (omega arith)
verdict_reaches verdicts.Short zero = absurd (omega arith)

calls_reach : (task : Parts) (bytes : List ℕ) (end : Ending) → status_of end ≡ 0 → AnswersCheck task bytes end → AreCallsOfPlan bytes task
calls_reach task bytes end zero (inl h) =
    let reaches = verdict_reaches (verdict task h.0) (sym (ap status_of h.2) ∙ zero) in
    (h.0, h.1, reaches_is_plan task 0 task.init h.0 reaches)
calls_reach task bytes end zero (inr h) = not_low end (ap is_stop h.2 ∙ fault_stops h.0) (omega arith)

verdict_falls : (v : Verdict) → status_of (ending_of v) ≡ 1 → v ≡ verdicts.Reaches → ⊥
verdict_falls verdicts.Reaches one same = omega (arith, one)
verdict_falls (verdicts.Blocked index) one same = let never : verdicts.Blocked index ≡ verdicts.Reaches = same in cc
verdict_falls verdicts.Short one same = let never : verdicts.Short ≡ verdicts.Reaches = same in cc

calls_fall : (task : Parts) (bytes : List ℕ) (end : Ending) → status_of end ≡ 1 → AnswersCheck task bytes end → AreCallsOfNoPlan bytes task
calls_fall task bytes end one (inl h) = (h.0, h.1, λ plan. verdict_falls (verdict task h.0) (sym (ap status_of h.2) ∙ one) (plan_reaches task 0 task.init h.0 plan))
calls_fall task bytes end one (inr h) = not_low end (ap is_stop h.2 ∙ fault_stops h.0) (omega (arith, one))

check_fell : (domain problem bytes : List ℕ) (end : Ending) → status_of end ≡ 1 → OnceRead domain problem (λ task. AnswersCheck task bytes) end
    → (task : Parts) × AreTask domain problem task × AreCallsOfNoPlan bytes task
check_fell domain problem bytes end one (not_read r) = not_low end (refused_stops domain problem end r) (omega (arith, one))
check_fell domain problem bytes end one (read task are h) = (task, are, calls_fall task bytes end one h)

check_reached : (domain problem bytes : List ℕ) (end : Ending) → status_of end ≡ 0 → OnceRead domain problem (λ task. AnswersCheck task bytes) end
    → (task : Parts) × AreTask domain problem task × AreCallsOfPlan bytes task
check_reached domain problem bytes end zero (not_read r) = not_low end (refused_stops domain problem end r) (omega arith)
check_reached domain problem bytes end zero (read task are h) = (task, are, calls_reach task bytes end zero h)

-- ---- words that are not taken

usage_answers : (request : Seen) → is_answer request Usage ≡ true → ⊥
usage_answers (plans_by steps d p n) h = let never : false ≡ true = h in cc
usage_answers (checks d p l) h = let never : false ≡ true = h in cc
usage_answers (grounds d p) h = let never : false ≡ true = h in cc
usage_answers (orders d p) h = let never : false ≡ true = h in cc
usage_answers (generates k m n s) h = let never : false ≡ true = h in cc
usage_answers (proves d p h b) k = let never : false ≡ true = k in cc
usage_answers (verifies d p c) h = let never : false ≡ true = h in cc
usage_answers (batches d ps n t) h = let never : false ≡ true = h in cc

race_status : (outcome : Outcome) → status_of_race outcome ≤ 2
race_status outcomes.Planned = omega arith
race_status outcomes.Exhausted = omega arith
race_status outcomes.Unfinished = omega arith

fault_answers : (request : Seen) (file : File) → is_answer request (ReadFault file) ≡ true → ⊥
fault_answers (plans_by steps d p n) file h = let never : false ≡ true = h in cc
fault_answers (checks d p l) file h = let never : false ≡ true = h in cc
fault_answers (grounds d p) file h = let never : false ≡ true = h in cc
fault_answers (orders d p) file h = let never : false ≡ true = h in cc
fault_answers (generates k m n s) file h = let never : false ≡ true = h in cc
fault_answers (proves d p h b) file k = let never : false ≡ true = k in cc
fault_answers (verifies d p c) file h = let never : false ≡ true = h in cc
fault_answers (batches d ps n t) file h = let never : false ≡ true = h in cc

parts_answers : (request : Seen) (status : ℕ) (text : List ℕ) → is_answer request (Batched status text) ≡ true → ⊥
parts_answers (plans_by steps d p n) status text h = let never : false ≡ true = h in cc
parts_answers (checks d p l) status text h = let never : false ≡ true = h in cc
parts_answers (grounds d p) status text h = let never : false ≡ true = h in cc
parts_answers (orders d p) status text h = let never : false ≡ true = h in cc
parts_answers (generates k m n s) status text h = let never : false ≡ true = h in cc
parts_answers (proves d p h b) status text k = let never : false ≡ true = k in cc
parts_answers (verifies d p c) status text h = let never : false ≡ true = h in cc
parts_answers (batches d ps n t) status text h = let never : false ≡ true = h in cc

-- ---- statuses of what comes of requests

answer_low : (request : Seen) (end : Ending) → is_answer request end ≡ true → status_of end ≤ 4
answer_low request (Report outcome text) h = let low = race_status outcome in omega (arith, low)
answer_low request (Listing text) h = omega arith
answer_low request Reaches h = omega arith
answer_low request (Blocked index) h = omega arith
answer_low request Short h = omega arith
answer_low request (Refused kind file at) h = omega arith
answer_low request (TooLong file) h = omega arith
answer_low request (TooMany what count) h = omega arith
answer_low request (TooLarge horizon count) h = omega arith
answer_low request (ReadFault file) h = absurd (fault_answers request file h)
answer_low request Usage h = absurd (usage_answers request h)
answer_low request (Found horizon conflicts) h = omega arith
answer_low request (Open horizon conflicts) h = omega arith
answer_low request (Accepted horizon entries) h = omega arith
answer_low request (Rejected entry) h = omega arith
answer_low request NotEmpty h = omega arith
answer_low request (Batched status text) h = absurd (parts_answers request status text h)

module _ (old new : List (List ℕ)) where
  -- a file that stops a run: it could not be read, or is too long
  stop_low : (files : ℕ → File) (place : ℕ) (names : List (List ℕ)) (took : List Heard) (end : Ending) → StopsFrom old new files place names took end → ((status_of end ≡ 5) × RoseAmong names old new × (HasRead end → ⊥)) ⊎ (status_of end ≡ 4)
  stop_low files place [] took end h = absurd h
  stop_low files place (name ∷ names) [] end (inl fault) = inl (ap status_of fault.0, inl fault.1, λ has. subst HasRead fault.0 has)
  stop_low files place (name ∷ names) [] end (inr long) = inr (ap status_of long.0)
  stop_low files place (name ∷ names) (e ∷ es) end (inl (inl fault)) = inl (ap status_of fault.0, inl fault.1, λ has. subst HasRead fault.0 has)
  stop_low files place (name ∷ names) (e ∷ es) end (inl (inr long)) = inr (ap status_of long.0)
  stop_low files place (name ∷ names) (e ∷ es) end (inr more) = elim (stop_low files (place + 1) names es end more.1) [
    | inl h ↦ inl (h.0, inr h.1, h.2)
    | inr h ↦ inr h
  ]

  part_low : (took : List Heard) (request : Seen) (end : Ending) → ComesFor took old new request end → HasRead end → status_of end ≤ 4
  part_low took request end (stopped h) has = elim (stop_low (file_at request) 0 (files_of request) took end h) [
    | inl k ↦ absurd (k.2 has)
    | inr four ↦ omega (arith, four)
  ]
  part_low took request end (decided files are answer h) has = answer_low request end answer

  parts_low : (domain : List ℕ) (n : Numbers) (heard : Heard) (problems : List (List ℕ)) (others : List Heard) (parts : List Ending) → ArePartsOf old new domain n heard problems others parts → greatest (map status_of parts) ≤ 4
  parts_low domain n heard problems others [] h = omega arith
  parts_low domain n heard [] [] (x ∷ xs) h = absurd h
  parts_low domain n heard [] (o ∷ os) (x ∷ xs) h = absurd h
  parts_low domain n heard (p ∷ ps) [] (x ∷ xs) h = absurd h
  parts_low domain n heard (p ∷ ps) (o ∷ os) (x ∷ xs) h =
      let part = h.0 in
      let here = part_low part.took (plans domain p n) x part.comes part.has_read in
      let rest = parts_low domain n heard ps os xs h.1 in
      omega (arith, here, rest)

  -- the count of faults of a file rose where one could not be read
  unread_rose : (files : ℕ → File) (place : ℕ) (names : List (List ℕ)) (took : List Heard) (end : Ending) → FaultsFrom old new files place names took end → (status_of end ≡ 5) × RoseAmong names old new
  unread_rose files place [] took end h = absurd h
  unread_rose files place (name ∷ names) [] end fault = (ap status_of fault.0, inl fault.1)
  unread_rose files place (name ∷ names) (e ∷ es) end (inl fault) = (ap status_of fault.0, inl fault.1)
  unread_rose files place (name ∷ names) (e ∷ es) end (inr more) = let rest = unread_rose files (place + 1) names es end more.1 in (rest.0, inr rest.1)

  one_low : (took : List Heard) (request : Seen) (end : Ending) → ComesFor took old new request end → ((status_of end ≡ 5) × RoseAmong (files_of request) old new) ⊎ (status_of end ≤ 4)
  one_low took request end (stopped h) = elim (stop_low (file_at request) 0 (files_of request) took end h) [
    | inl k ↦ inl (k.0, k.1)
    | inr four ↦ inr (omega (arith, four))
  ]
  one_low took request end (decided files are answer h) = inr (answer_low request end answer)

  names_of : (words : List (List ℕ)) (request : Seen) → requested words ≡ Some request → files_of request ≡ names_in words
  names_of words request asked = sym (ap (λ (o : Option Seen). elim o as (λ _. List (List ℕ)) [ None ↦ [] | Some r ↦ files_of r ]) asked)

  -- the status of what comes of words: 7 where they ask for nothing, 5 where a file could not be read alone
  words_low : (took : List Heard) (words : List (List ℕ)) (end : Ending) → Comes took old new words end → ((status_of end ≡ 7) × (requested words ≡ None)) ⊎ (((status_of end ≡ 5) × FaultOf old new words) ⊎ (status_of end ≤ 4))
  words_low took words end (no_request none nothing e) = inl (ap status_of e, none)
  words_low took words end (of_one request asked one h) = elim (one_low took request end h) [
    | inl k ↦ inr (inl (k.0, subst (λ (ns : List (List ℕ)). RoseAmong ns old new) (names_of words request asked) k.1))
    | inr low ↦ inr (inr low)
  ]
  words_low took words end (unread domain problems n turns asked h) =
      let rose = unread_rose (file_at (batches domain problems n turns)) 0 (domain ∷ problems) took end h in
      inr (inl (rose.0, subst (λ (ns : List (List ℕ)). RoseAmong ns old new) (names_of words (batches domain problems n turns) asked) rose.1))
  words_low took words end (in_parts domain problems n turns asked parts batch e) =
      inr (inr (let low = parts_low domain n batch.first problems batch.others parts batch.are in let is = ap status_of e in omega (arith, low, is)))

  -- no ending that comes has a status of its own for a write fault or for want of memory
  pub status_apart : (took : List Heard) (words : List (List ℕ)) (end : Ending) → Comes took old new words end → (status_of end ≡ 6 → ⊥) × (status_of end ≡ 8 → ⊥)
  status_apart took words = by_words.status_apart status_of _ _ _ (words_low took words)

-- ---- certificates

-- what is written as a certificate is one
proves_so : Laws → (task : Parts) (g : Grounded) (horizon budget : ℕ) (end : Ending) → status_of end ≡ 0 → IsReady task g → AnswersProve horizon budget task g end → Certifies (text_of end) horizon task
proves_so laws task g horizon budget end zero ready (not_run count many e) = absurd (let four = sym zero ∙ ap status_of e in omega (arith, four))
proves_so laws task g horizon budget end zero ready (run p so e) = step p so e
  where
    step : (p : Proved) → Proves g.task horizon budget p → end ≡ ending_of_run horizon p → Certifies (text_of end) horizon task
    step (proved.Certificate text) so told =
        claims.of_grounded laws task g ready so.clauses so.components so.ordered (λ h clauses components. IsCertificate (formula_at chain_places (form_of h.task clauses components)) (text_of end) horizon)
        (subst (λ (e : Ending). IsCertificate (formula_at chain_places (form_of g.task so.clauses so.components)) (text_of e) horizon) (sym told) (so.certified text refl))
    step proved.TooLong so told = absurd (let four = sym zero ∙ ap status_of told in omega (arith, four))
    step (proved.Plan conflicts) so told = absurd (let one = sym zero ∙ ap status_of told in omega (arith, one))
    step (proved.Open conflicts) so told = absurd (let two = sym zero ∙ ap status_of told in omega (arith, two))

-- where a plan is told there is one of so many steps
proves_plan : Laws → (task : Parts) (g : Grounded) (horizon budget : ℕ) (end : Ending) → status_of end ≡ 1 → IsReady task g → AnswersProve horizon budget task g end → HasPlanOf Exists horizon task
proves_plan laws task g horizon budget end one ready (not_run count many e) = absurd (let four = sym one ∙ ap status_of e in omega (arith, four))
proves_plan laws task g horizon budget end one ready (run p so e) = step p so (sym (ap status_of e) ∙ one)
  where
    step : (p : Proved) → Proves g.task horizon budget p → status_of (ending_of_run horizon p) ≡ 1 → HasPlanOf Exists horizon task
    step (proved.Certificate text) so one = absurd (omega (arith, one))
    step proved.TooLong so one = absurd (omega (arith, one))
    step (proved.Plan conflicts) so one = let m = so.found conflicts refl in claims.has_plan laws task g ready so.clauses so.components so.ordered Exists horizon m.0 m.1
    step (proved.Open conflicts) so one = absurd (omega (arith, one))

-- what the checker said of a certificate whose ending has a status below 2
pub record Checks (task : Parts) (bytes : List ℕ) (k : ℕ) : Type 0 where
  pub horizon : ℕ
  pub log : List Entry
  pub g : Grounded
  pub j : Judged
  pub is_spelled : IsSpelled bytes horizon log
  pub ready : IsReady task g
  pub judges : Judges g.task horizon log j
  pub status : status_of (ending_of_check horizon j) ≡ k

checks_at : (k : ℕ) → k ≤ 1 → (task : Parts) (bytes : List ℕ) (end : Ending) → status_of end ≡ k → AnswersVerify task bytes end → Checks task bytes k
checks_at k low task bytes end at (unfit r) = absurd (let three = sym at ∙ ap status_of r.2 in omega (arith, three, low))
checks_at k low task bytes end at (beyond h log is past_limit) = absurd (let four = sym at ∙ ap status_of past_limit.2 in omega (arith, four, low))
checks_at k low task bytes end at (spelled h log g is ready (not_checked count many e)) = absurd (let four = sym at ∙ ap status_of e in omega (arith, four, low))
checks_at k low task bytes end at (spelled h log g is ready (checked j judges e)) =
    record { horizon = h; log = log; g = g; j = j; is_spelled = is; ready = ready; judges = judges; status = sym (ap status_of e) ∙ at }

accepted_only : (horizon : ℕ) (j : Judged) → status_of (ending_of_check horizon j) ≡ 0 → (entries : ℕ) × (j ≡ judged.Accepted entries)
accepted_only horizon (judged.Accepted entries) zero = (entries, refl)
accepted_only horizon (judged.Rejected entry) zero = absurd (omega arith)
accepted_only horizon judged.NotEmpty zero = absurd (omega arith)

accepts : Laws → (task : Parts) (bytes : List ℕ) (end : Ending) → status_of end ≡ 0 → AnswersVerify task bytes end → (horizon : ℕ) × Certifies bytes horizon task
accepts laws task bytes end zero h =
    let c = checks_at 0 (omega arith) task bytes end zero h in
    let a = accepted_only c.horizon c.j c.status in
    let is = subst (λ (j : Judged). IsJudged (formula_at chain_places (form_of c.g.task c.judges.clauses c.judges.components) c.horizon) c.log j) a.1 c.judges.is in (
      c.horizon,
      claims.of_grounded laws task c.g c.ready c.judges.clauses c.judges.components c.judges.ordered (λ g clauses components. IsCertificate (formula_at chain_places (form_of g.task clauses components)) bytes c.horizon)
          (record { log = c.log; is_spelled = c.is_spelled; refutes = is.1 }),
    )

checks_none : Laws → (task : Parts) (bytes : List ℕ) (end : Ending) → status_of end ≡ 0 → AnswersVerify task bytes end → ProvesNone bytes task
checks_none laws task bytes end zero h =
    let c = checks_at 0 (omega arith) task bytes end zero h in
    let a = accepted_only c.horizon c.j c.status in
    let none = c.judges.none a.0 a.1 in (
      c.horizon,
      (map (λ (e : Entry). spaced (entry_words e)) c.log, ap lines_of c.is_spelled.spelled ∙ laws.proof_lines c.horizon c.log c.is_spelled.within c.is_spelled.written),
      claims.no_step_plan laws task c.g c.ready c.judges.clauses c.judges.components c.judges.ordered Exists c.horizon none,
      claims.no_plan laws task c.g c.ready c.judges.clauses c.judges.components c.judges.ordered Exists c.horizon none,
    )

-- a log that is judged so is no refutation
not_refutation : (f : Cnf) (horizon : ℕ) (log : List Entry) (j : Judged) → status_of (ending_of_check horizon j) ≡ 1 → IsJudged f log j → IsRefutation f.variables f.clauses log → ⊥
not_refutation f horizon log (judged.Accepted entries) one is refutes = absurd (omega arith)
not_refutation f horizon log (judged.Rejected entry) one is refutes = is.here (refutes.derived entry is.in_range)
not_refutation f horizon log judged.NotEmpty one is refutes = is.1 refutes.ends_empty

rejects : Laws → (task : Parts) (bytes : List ℕ) (end : Ending) → status_of end ≡ 1 → AnswersVerify task bytes end → CertifiesNothing bytes task
rejects laws task bytes end one h =
    let c = checks_at 1 (omega arith) task bytes end one h in
    let formula = formula_at chain_places (form_of c.g.task c.judges.clauses c.judges.components) in
    claims.of_grounded laws task c.g c.ready c.judges.clauses c.judges.components c.judges.ordered (λ g clauses components. (horizon : ℕ) → IsCertificate (formula_at chain_places (form_of g.task clauses components)) bytes horizon → ⊥)
    (λ horizon cert.
    let one_value = laws.one_spelling c.horizon horizon c.log cert.log c.is_spelled.within cert.is_spelled.within c.is_spelled.written cert.is_spelled.written (sym c.is_spelled.spelled ∙ cert.is_spelled.spelled) in
    let here = subst (λ (n : ℕ). IsJudged (formula n) c.log c.j) one_value.0 c.judges.is in
    let there = subst (λ (log : List Entry). IsJudged (formula horizon) log c.j) one_value.1 here in
    not_refutation (formula horizon) c.horizon cert.log c.j c.status there cert.refutes)

-- ---- what comes

-- What a shelf had handed over, and then also, its faults, the words, what the sink had taken, and the status of a run.
module _ (was now took : List Heard) (handed : now ≡ was ++ took) (old new : List (List ℕ)) (words : List (List ℕ)) (before after : Option (List ℕ)) (status : ℕ) where
  -- the status of an ending that comes, and its text, but for a write fault and want of memory
  abbrev pub IsDue : Type 0
  IsDue = (status ≡ 6 → ⊥) → (status ≡ 8 → ⊥) → (end : Ending) × (status ≡ status_of end) × Comes took old new words end × (after ≡ appended before (text_of end))

  -- a front of the text of an ending that comes, but for want of memory
  abbrev pub IsFront : Type 0
  IsFront = (status ≡ 8 → ⊥) → (end : Ending) × Comes took old new words end × IsSmall end × TakesFront before after (text_of end)

  due_at : (k : ℕ) → IsDue → status ≡ k → k ≤ 5 → (end : Ending) × (status_of end ≡ k) × Comes took old new words end × (after ≡ appended before (text_of end))
  due_at k due = by_words.due_at status_of _ _ _ (words_low old new took words) status _ due k

  -- what was decided for a request of one task by an ending that does not stop
  decided_for : (end : Ending) → Comes took old new words end → (request : Seen) → IsOfOne request → requested words ≡ Some request → (is_stop end ≡ true → ⊥)
      → (files : List (List ℕ)) × AreTaken (file_at request) 0 (files_of request) took files × Decides request files end
  decided_for end comes request one asked on = step (asked_comes took old new words request one asked end comes)
    where
      step : ComesFor took old new request end → (files : List (List ℕ)) × AreTaken (file_at request) 0 (files_of request) took files × Decides request files end
      step (stopped h) = absurd (on (files_stop old new (file_at request) 0 (files_of request) took end h))
      step (decided files are answer h) = (files, are, h)

  -- a claim on the task of two files that were decided so, and of three
  of_two_files : (end : Ending) → Comes took old new words end → (request : Seen) (domain problem : List ℕ) (claim : Parts → Type 0) → files_of request ≡ domain ∷ problem ∷ [] → IsOfOne request → requested words ≡ Some request → (is_stop end ≡ true → ⊥)
      → ((first second : List ℕ) → Decides request (first ∷ second ∷ []) end → (task : Parts) × AreTask first second task × claim task) → OfFiles was now domain problem claim
  of_two_files end comes request domain problem claim names one asked on from =
      let d = decided_for end comes request one asked on in
      let t = two_taken (file_at request) 0 domain problem took d.0 (subst (λ (ns : List (List ℕ)). AreTaken (file_at request) 0 ns took d.0) names d.1) in
      let h = from t.0 t.1 (subst (λ (fs : List (List ℕ)). Decides request fs end) t.2 d.2) in
      (t.0, t.1, handed ∙ ap (λ (xs : List Heard). was ++ xs) t.3, h.0, h.1, h.2)

  of_three_files : (end : Ending) → Comes took old new words end → (request : Seen) (domain problem other : List ℕ) (claim : List ℕ → Parts → Type 0) → files_of request ≡ domain ∷ problem ∷ other ∷ [] → IsOfOne request → requested words ≡ Some request → (is_stop end ≡ true → ⊥)
      → ((first second third : List ℕ) → Decides request (first ∷ second ∷ third ∷ []) end → (task : Parts) × AreTask first second task × claim third task) → OfThreeFiles was now domain problem other claim
  of_three_files end comes request domain problem other claim names one asked on from =
      let d = decided_for end comes request one asked on in
      let t = three_taken (file_at request) 0 domain problem other took d.0 (subst (λ (ns : List (List ℕ)). AreTaken (file_at request) 0 ns took d.0) names d.1) in
      let h = from t.0 t.1 t.2 (subst (λ (fs : List (List ℕ)). Decides request fs end) t.3 d.2) in
      (t.0, t.1, t.2, handed ∙ ap (λ (xs : List Heard). was ++ xs) t.4, h.0, h.1, h.2)

  -- an ending of such a status stops no run
  on_low : (end : Ending) (k : ℕ) → status_of end ≡ k → k ≤ 2 → is_stop end ≡ true → ⊥
  on_low end k is low stop = let small : status_of end ≤ 2 = omega (arith, is, low) in not_low end stop small

  -- a claim on the task of a race that came to an end
  of_race : (end : Ending) → Comes took old new words end → (how : Stepping) (domain problem : List ℕ) (n : Numbers) (claim : Parts → Type 0) → requested words ≡ Some (plans_by how domain problem n) → (is_stop end ≡ true → ⊥)
      → ((settings : Settings) → numbers settings ≡ n → (first second : List ℕ) (r : Raced how settings first second end) → claim r.task) → OfFiles was now domain problem claim
  of_race end comes how domain problem n claim asked on from =
      of_two_files end comes (plans_by how domain problem n) domain problem claim refl tt asked on
      (λ first second h. let r = raced how h.0 first second end on h.2 in (r.task, r.are, from h.0 h.1 first second r))

  pub plan_runs : Laws → IsDue → OfPlans words was now before after (λ how text n of_files. status ≡ 0 → of_files (PlanRuns how text))
  plan_runs laws due how text domain problem n printed asked zero =
      let d = due_at 0 due zero (omega arith) in
      let is : text ≡ text_of d.0 = printed_is before after text (text_of d.0) printed d.3 in
      of_race d.0 d.2 how domain problem n (PlanRuns how text) asked (on_low d.0 0 d.1 (omega arith))
      (λ settings same first second r. subst (λ (xs : List ℕ). PlanRuns how xs r.task) (sym is) (plan_of laws how settings first second d.0 r d.1))

  pub every_order_runs : Laws → IsDue → OfPlans words was now before after (λ how text n of_files. status ≡ 0 → how ≡ All → of_files (EveryOrderRuns text))
  every_order_runs laws due how text domain problem n printed asked zero all =
      let d = due_at 0 due zero (omega arith) in
      let is : text ≡ text_of d.0 = printed_is before after text (text_of d.0) printed d.3 in
      of_race d.0 d.2 how domain problem n (EveryOrderRuns text) asked (on_low d.0 0 d.1 (omega arith))
      (λ settings same first second r. subst (λ (xs : List ℕ). EveryOrderRuns xs r.task) (sym is) (orders_of laws how settings first second d.0 r all d.1))

  pub exhausted : Laws → IsDue → OfPlans words was now before after (λ how text n of_files. status ≡ 1 → of_files (λ task. TellsExhausted text n))
  exhausted laws due how text domain problem n printed asked one =
      let d = due_at 1 due one (omega arith) in
      let is : text ≡ text_of d.0 = printed_is before after text (text_of d.0) printed d.3 in
      of_race d.0 d.2 how domain problem n (λ task. TellsExhausted text n) asked (on_low d.0 1 d.1 (omega arith))
      (λ settings same first second r. subst (TellsExhausted text) same (subst (λ (xs : List ℕ). TellsExhausted xs (numbers settings)) (sym is) (exhausted_of laws how settings first second d.0 r d.1)))

  pub unfinished : Laws → IsDue → OfPlans words was now before after (λ how text n of_files. status ≡ 2 → of_files (λ task. SpendsAll text n.budget))
  unfinished laws due how text domain problem n printed asked two =
      let d = due_at 2 due two (omega arith) in
      let is : text ≡ text_of d.0 = printed_is before after text (text_of d.0) printed d.3 in
      of_race d.0 d.2 how domain problem n (λ task. SpendsAll text n.budget) asked (on_low d.0 2 d.1 (omega arith))
      (λ settings same first second r. subst (SpendsAll text) (ap (λ (x : Numbers). x.budget) same) (subst (λ (xs : List ℕ). SpendsAll xs settings.budget) (sym is) (spent_of laws how settings first second d.0 r d.1)))

  -- a claim on the task of a listing
  of_listing : (text : List ℕ) → Printed before after text → IsDue → (request : Seen) (domain problem : List ℕ) (claim : List ℕ → Parts → Type 0) → files_of request ≡ domain ∷ problem ∷ [] → IsOfOne request → requested words ≡ Some request → status ≡ 0
      → ((end : Ending) (first second : List ℕ) → status_of end ≡ 0 → (is_stop end ≡ true → ⊥) → Decides request (first ∷ second ∷ []) end → (task : Parts) × AreTask first second task × claim (text_of end) task) → OfFiles was now domain problem (claim text)
  of_listing text printed due request domain problem claim names one asked zero from =
      let d = due_at 0 due zero (omega arith) in
      let is : text ≡ text_of d.0 = printed_is before after text (text_of d.0) printed d.3 in
      let on : is_stop d.0 ≡ true → ⊥ = on_low d.0 0 d.1 (omega arith) in
      of_two_files d.0 d.2 request domain problem (claim text) names one asked on
      (λ first second h. subst (λ (xs : List ℕ). (task : Parts) × AreTask first second task × claim xs task) (sym is) (from d.0 first second d.1 on h))

  pub ground_told : IsDue → (text domain problem : List ℕ) → status ≡ 0 → Printed before after text → requested words ≡ Some (grounds domain problem) → OfFiles was now domain problem (TellsGround text)
  ground_told due text domain problem zero printed asked =
      of_listing text printed due (grounds domain problem) domain problem TellsGround refl tt asked zero (λ end first second at on h. ground_listed first second end on h)

  pub order_told : IsDue → (text domain problem : List ℕ) → status ≡ 0 → Printed before after text → requested words ≡ Some (orders domain problem) → OfFiles was now domain problem (TellsOrder text)
  order_told due text domain problem zero printed asked =
      of_listing text printed due (orders domain problem) domain problem TellsOrder refl tt asked zero (λ end first second at on h. order_listed first second end on h)

  pub reached : IsDue → (domain problem plan_name : List ℕ) → status ≡ 0 → requested words ≡ Some (checks domain problem plan_name) → OfThreeFiles was now domain problem plan_name AreCallsOfPlan
  reached due domain problem plan_name zero asked =
      let d = due_at 0 due zero (omega arith) in
      of_three_files d.0 d.2 (checks domain problem plan_name) domain problem plan_name AreCallsOfPlan refl tt asked (on_low d.0 0 d.1 (omega arith))
      (λ first second third h. check_reached first second third d.0 d.1 h)

  pub not_reached : IsDue → (domain problem plan_name : List ℕ) → status ≡ 1 → requested words ≡ Some (checks domain problem plan_name) → OfThreeFiles was now domain problem plan_name AreCallsOfNoPlan
  not_reached due domain problem plan_name one asked =
      let d = due_at 1 due one (omega arith) in
      of_three_files d.0 d.2 (checks domain problem plan_name) domain problem plan_name AreCallsOfNoPlan refl tt asked (on_low d.0 1 d.1 (omega arith))
      (λ first second third h. check_fell first second third d.0 d.1 h)

  -- ---- certificates

  pub certified : Laws → IsDue → (text domain problem : List ℕ) (horizon budget : ℕ) → status ≡ 0 → Printed before after text → requested words ≡ Some (proves domain problem horizon budget) → OfFiles was now domain problem (Certifies text horizon)
  certified laws due text domain problem horizon budget zero printed asked =
      of_listing text printed due (proves domain problem horizon budget) domain problem (λ xs task. Certifies xs horizon task) refl tt asked zero
      (λ end first second at on h. let r = goes_on first second (AnswersProve horizon budget) end on h in (r.0, r.2, proves_so laws r.0 r.1 horizon budget end at r.3 r.4))

  pub proved_plan : Laws → IsDue → (domain problem : List ℕ) (horizon budget : ℕ) → status ≡ 1 → requested words ≡ Some (proves domain problem horizon budget) → OfFiles was now domain problem (HasPlanOf Exists horizon)
  proved_plan laws due domain problem horizon budget one asked =
      let d = due_at 1 due one (omega arith) in
      let on : is_stop d.0 ≡ true → ⊥ = on_low d.0 1 d.1 (omega arith) in
      of_two_files d.0 d.2 (proves domain problem horizon budget) domain problem (HasPlanOf Exists horizon) refl tt asked on
      (λ first second h. let r = goes_on first second (AnswersProve horizon budget) d.0 on h in (r.0, r.2, proves_plan laws r.0 r.1 horizon budget d.0 d.1 r.3 r.4))

  -- what a certificate file came to that was answered so
  judged_for : (k : ℕ) → k ≤ 1 → IsDue → (domain problem proof : List ℕ) (claim : List ℕ → Parts → Type 0) → status ≡ k → requested words ≡ Some (verifies domain problem proof)
      → ((first second third : List ℕ) (task : Parts) (end : Ending) → status_of end ≡ k → AreTask first second task → AnswersVerify task third end → claim third task) → OfThreeFiles was now domain problem proof claim
  judged_for k low due domain problem proof claim is asked from =
      let d = due_at k due is (omega arith) in
      of_three_files d.0 d.2 (verifies domain problem proof) domain problem proof claim refl tt asked (on_low d.0 k d.1 (omega (arith, low))) (λ first second third h. step d.0 d.1 first second third h)
    where
      step : (end : Ending) → status_of end ≡ k → (first second third : List ℕ) → OnceRead first second (λ task. AnswersVerify task third) end → (task : Parts) × AreTask first second task × claim third task
      step end at first second third (not_read r) = not_low end (refused_stops first second end r) (omega (arith, at, low))
      step end at first second third (read task are h) = (task, are, from first second third task end at are h)

  pub verified : Laws → IsDue → (domain problem proof : List ℕ) → status ≡ 0 → requested words ≡ Some (verifies domain problem proof) → OfThreeFiles was now domain problem proof ProvesNone
  verified laws due domain problem proof zero asked =
      judged_for 0 (omega arith) due domain problem proof ProvesNone zero asked (λ first second third task end at are h. checks_none laws task third end at h)

  pub accepted : Laws → IsDue → (domain problem proof : List ℕ) → status ≡ 0 → requested words ≡ Some (verifies domain problem proof) → OfThreeFiles was now domain problem proof (λ text task. (horizon : ℕ) × Certifies text horizon task)
  accepted laws due domain problem proof zero asked =
      judged_for 0 (omega arith) due domain problem proof (λ text task. (horizon : ℕ) × Certifies text horizon task) zero asked (λ first second third task end at are h. accepts laws task third end at h)

  pub rejected : Laws → IsDue → (domain problem proof : List ℕ) → status ≡ 1 → requested words ≡ Some (verifies domain problem proof) → OfThreeFiles was now domain problem proof CertifiesNothing
  rejected laws due domain problem proof one asked =
      judged_for 1 (omega arith) due domain problem proof CertifiesNothing one asked (λ first second third task end at are h. rejects laws task third end at h)

  -- ---- what the text says of horizons

  module _ (laws : Laws) (front : IsFront) (nothing : status ≡ 8 → after ≡ before) where
    -- what the text says of a horizon, the end of the race tells
    of_said : (how : Stepping) (text domain problem : List ℕ) (n : Numbers) → Printed before after text → requested words ≡ Some (plans_by how domain problem n) → (horizon : ℕ) (word : List ℕ) (conflicts : ℕ) (claim : Parts → Type 0)
        → IsTrue (is_word word) → Says text horizon word conflicts
        → ((settings : Settings) (task : Parts) (g : Grounded) (ready : IsReady task g) (race : RaceEnd) → ComesTo (places_by how) (is_plan_by how) g.task settings race → Tells (lines_in (end_view race)) horizon word conflicts → claim task) → OfFiles was now domain problem claim
    of_said how text domain problem n printed asked horizon word conflicts claim one says from = elim (eqb_tells status 8) [
      | inl (t, eight) ↦ nothing_said before text horizon conflicts word (subst (λ (o : Option (List ℕ)). Printed before o text) (nothing eight) printed) says
      | inr (f, other) ↦ on_front (front other)
    ]
      where
        on_front : ((end : Ending) × Comes took old new words end × IsSmall end × TakesFront before after (text_of end)) → OfFiles was now domain problem claim
        on_front (end, comes, small, takes) =
            let due = printed_front before after text (text_of end) printed takes in
            let whole : Says (text_of end) horizon word conflicts = subst (λ (xs : List ℕ). Says xs horizon word conflicts) (sym due.1) (laws.fronts text due.0 horizon word conflicts says) in
            of_race end comes how domain problem n claim asked (λ stop. stop_says_nothing laws.entries end stop small horizon word conflicts one whole)
            (λ settings same first second r. from settings r.task r.g r.ready r.race r.comes (said_of laws how settings first second end r horizon word conflicts one whole))

    pub found_steps : OfPlans words was now before after (λ how text n of_files. (horizon conflicts : ℕ) → Says text horizon (codes "plan") conflicts → of_files (HasPlanOf how horizon))
    found_steps how text domain problem n printed asked horizon conflicts says =
        of_said how text domain problem n printed asked horizon (codes "plan") conflicts (HasPlanOf how horizon) refl says
        (λ settings task g ready race comes tells. claims.found_line laws how settings task g ready race comes horizon conflicts tells)

    pub refuted_steps : OfPlans words was now before after (λ how text n of_files. (horizon conflicts : ℕ) → Says text horizon (codes "refuted") conflicts → of_files (NoStepPlan how horizon))
    refuted_steps how text domain problem n printed asked horizon conflicts says =
        of_said how text domain problem n printed asked horizon (codes "refuted") conflicts (NoStepPlan how horizon) refl says
        (λ settings task g ready race comes tells. claims.no_step_plan laws task g ready comes.clauses comes.components comes.ordered how horizon (claims.refuted_line laws how settings task g ready race comes horizon conflicts tells))

    pub refuted_plans : OfPlans words was now before after (λ how text n of_files. (horizon conflicts : ℕ) → Says text horizon (codes "refuted") conflicts → of_files (NoPlan horizon))
    refuted_plans how text domain problem n printed asked horizon conflicts says =
        of_said how text domain problem n printed asked horizon (codes "refuted") conflicts (NoPlan horizon) refl says
        (λ settings task g ready race comes tells. claims.no_plan laws task g ready comes.clauses comes.components comes.ordered how horizon (claims.refuted_line laws how settings task g ready race comes horizon conflicts tells))

    pub least : OfPlans words was now before after (λ how text n of_files. (horizon conflicts actions : ℕ) → Contains (lines_of text) (plan_line (horizon + 1) actions) → Says text horizon (codes "refuted") conflicts → of_files (HasAtLeast how (horizon + 1)))
    least how text domain problem n printed asked horizon conflicts actions line says =
        of_said how text domain problem n printed asked horizon (codes "refuted") conflicts (HasAtLeast how (horizon + 1)) refl says
        (λ settings task g ready race comes tells. claims.at_least laws task g ready comes.clauses comes.components comes.ordered how horizon (claims.refuted_line laws how settings task g ready race comes horizon conflicts tells))

    pub lines : OfPlans words was now before after (λ how text n of_files. (horizon conflicts : ℕ) (word : List ℕ) → IsTrue (is_word word) → Says text horizon word conflicts → of_files (LineIsSo how horizon word conflicts))
    lines how text domain problem n printed asked horizon conflicts word one says =
        of_said how text domain problem n printed asked horizon word conflicts (LineIsSo how horizon word conflicts) one says
        (λ settings task g ready race comes tells. claims.line_is_so laws how settings task g ready race comes horizon word conflicts tells)

  -- ---- words and faults

  pub usage : IsDue → status ≡ 7 → requested words ≡ None
  usage due = by_words.usage status_of _ _ _ (words_low old new took words) status _ due

  pub read_fault : IsDue → status ≡ 5 → FaultOf old new words
  read_fault due = by_words.read_fault status_of _ _ _ (words_low old new took words) status _ due

  pub not_taken : IsDue → requested words ≡ None → Contains (6 ∷ 7 ∷ 8 ∷ []) status
  not_taken due none = by_words.not_taken status_of _ _ _ (words_low old new took words) status _ due Usage refl (not_asked_comes took old new words none)

  pub no_command : IsDue → requested words ≡ None → (status ≡ 8 → ⊥) → Contains (6 ∷ 7 ∷ []) status
  no_command due none = by_words.no_command status_of _ _ _ (words_low old new took words) status _ due Usage refl (not_asked_comes took old new words none)

  pub same_report : Laws → IsDue → (elsewhere : List Heard) (others was is : List (List ℕ)) (end : Ending) → AskForOne took elsewhere words others → Comes elsewhere was is others end
      → HasRead end → (status ≡ 5 → ⊥) → (status ≡ 6 → ⊥) → (status ≡ 8 → ⊥) → (status ≡ status_of end) × (after ≡ appended before (text_of end))
  same_report laws due elsewhere others was is end ask comes reads not_five not_six not_eight =
      let d = due not_six not_eight in
      let one : d.0 ≡ end = one_ending laws took elsewhere old new was is words others d.0 end ask d.2 comes (has_read d.0 (λ five. not_five (d.1 ∙ five))) reads in
      (d.1 ∙ ap status_of one, d.3 ∙ ap (λ (e : Ending). appended before (text_of e)) one)

  pub passes : Laws → IsDue → (elsewhere : List Heard) (others was is : List (List ℕ)) (text : List ℕ) → AskToVerify took elsewhere words others text → Comes elsewhere was is others (Listing text)
      → (status ≡ 5 → ⊥) → (status ≡ 6 → ⊥) → (status ≡ 8 → ⊥) → status ≡ 0
  passes laws due elsewhere others was is text ask comes not_five not_six not_eight =
      let d = due not_six not_eight in
      d.1 ∙ certificate_passes laws took elsewhere old new was is words others text d.0 ask d.2 comes (has_read d.0 (λ five. not_five (d.1 ∙ five)))

  -- what `prove` comes to on a horizon that `plan` told as refuted, and as found
  pub proves_refuted : Laws → IsDue → (elsewhere : List Heard) (others was is : List (List ℕ)) (outcome : Outcome) (text : List ℕ) (horizon conflicts : ℕ) → AskToProve took elsewhere words others horizon conflicts
      → Comes elsewhere was is others (Report outcome text) → Says text horizon (codes "refuted") conflicts → (status ≡ 5 → ⊥) → (status ≡ 6 → ⊥) → (status ≡ 8 → ⊥)
      → (status ≡ 0) ⊎ ((status ≡ 4) × (after ≡ appended before (text_of (TooLong Proof))))
  proves_refuted laws due elsewhere others was is outcome text horizon conflicts ask comes says not_five not_six not_eight =
      let d = due not_six not_eight in
      step d.0 d.1 d.3 (refuted_proves laws horizon conflicts took elsewhere old new was is words others outcome text d.0 ask d.2 comes says (has_read d.0 (λ five. not_five (d.1 ∙ five))))
    where
      step : (end : Ending) → status ≡ status_of end → after ≡ appended before (text_of end) → ((certificate : List ℕ) × (end ≡ Listing certificate)) ⊎ (end ≡ TooLong Proof) → (status ≡ 0) ⊎ ((status ≡ 4) × (after ≡ appended before (text_of (TooLong Proof))))
      step end status_is text_is (inl listed) = inl (status_is ∙ ap status_of listed.1)
      step end status_is text_is (inr long) = inr (status_is ∙ ap status_of long, text_is ∙ ap (λ (e : Ending). appended before (text_of e)) long)

  pub proves_found : Laws → IsDue → (elsewhere : List Heard) (others was is : List (List ℕ)) (outcome : Outcome) (text : List ℕ) (horizon conflicts : ℕ) → AskToProve took elsewhere words others horizon conflicts
      → Comes elsewhere was is others (Report outcome text) → Says text horizon (codes "plan") conflicts → (status ≡ 5 → ⊥) → (status ≡ 6 → ⊥) → (status ≡ 8 → ⊥) → status ≡ 1
  proves_found laws due elsewhere others was is outcome text horizon conflicts ask comes says not_five not_six not_eight =
      let d = due not_six not_eight in
      let found = found_proves laws horizon conflicts took elsewhere old new was is words others outcome text d.0 ask d.2 comes says (has_read d.0 (λ five. not_five (d.1 ∙ five))) in
      d.1 ∙ ap status_of found.1

  -- ---- batches

  -- the status and the text of a batch with these parts
  abbrev IsOfParts : List Ending → Type 0
  IsOfParts parts = (status ≡ greatest (map status_of parts)) × (after ≡ appended before (parts_text 1 parts))

  batch_due : (end : Ending) (parts : List Ending) → end ≡ batch_of parts → status ≡ status_of end → after ≡ appended before (text_of end) → IsOfParts parts
  batch_due end parts is status_is text_is = (status_is ∙ ap status_of is, text_is ∙ ap (λ (e : Ending). appended before (text_of e)) is)

  -- the parts of a run of words that ask for a batch
  its_parts : IsDue → (domain : List ℕ) (problems : List (List ℕ)) (n : Numbers) (turns : Turns) → requested words ≡ Some (batches domain problems n turns) → (status ≡ 5 → ⊥) → (status ≡ 6 → ⊥) → (status ≡ 8 → ⊥)
      → (parts : List Ending) × IsBatchOf took old new domain n problems parts × IsOfParts parts
  its_parts due domain problems n turns asked not_five not_six not_eight =
      let d = due not_six not_eight in
      let p = asked_parts took old new words domain problems n turns asked d.0 (has_read d.0 (λ five. not_five (d.1 ∙ five))) d.2 in
      (p.0, p.1, batch_due d.0 p.0 p.2 d.1 d.3)

  pub batch : IsDue → (domain : List ℕ) (problems : List (List ℕ)) (n : Numbers) (turns : Turns) → requested words ≡ Some (batches domain problems n turns) → (status ≡ 5 → ⊥) → (status ≡ 6 → ⊥) → (status ≡ 8 → ⊥)
      → (parts : List Ending) × IsBatchOf took old new domain n problems parts × (status ≡ greatest (map status_of parts)) × (after ≡ appended before (parts_text 1 parts))
  batch due domain problems n turns asked not_five not_six not_eight = let p = its_parts due domain problems n turns asked not_five not_six not_eight in (p.0, p.1, p.2.0, p.2.1)

  -- each of them keeps what is promised of `plan`
  one_is_so : Laws → (domain problem : List ℕ) (n : Numbers) (heard other : Heard) (part : Ending) → IsPartOf old new heard other (plans domain problem n) part → status_of part ≤ 2 → PartIsSo domain problem n heard other (text_of part) (status_of part)
  one_is_so laws domain problem n heard other part is low =
      let r = raced_of is.took old new Exists domain problem n part (λ stop. not_low part stop low) is.comes in
      let none : is.rest ≡ [] = nothing_left heard other domain problem r.0 r.1 is.took is.rest is.split r.2 in
      let all : heard ∷ other ∷ [] ≡ whole domain r.0 ∷ whole problem r.1 ∷ [] = is.split ∙ (ap (λ (xs : List Heard). is.took ++ xs) none ∙ (append-nil is.took ∙ r.2)) in
      part_is_so laws domain problem n heard other part r.0 r.1 all r.3 r.4 r.5
    where
      nothing_left : (heard other : Heard) (domain problem first second : List ℕ) (took rest : List Heard) → heard ∷ other ∷ [] ≡ took ++ rest → took ≡ whole domain first ∷ whole problem second ∷ [] → rest ≡ []
      nothing_left heard other domain problem first second took rest split is =
          let both : heard ∷ other ∷ [] ≡ whole domain first ∷ whole problem second ∷ rest = split ∙ ap (λ (xs : List Heard). xs ++ rest) is in
          let left : [] ≡ rest = cc in
          sym left

  all_are_so : Laws → (domain : List ℕ) (n : Numbers) (heard : Heard) (problems : List (List ℕ)) (others : List Heard) (parts : List Ending) → ArePartsOf old new domain n heard problems others parts → ArePartsSo domain n heard problems others parts
  all_are_so laws domain n heard [] [] [] are = tt
  all_are_so laws domain n heard [] [] (x ∷ xs) are = absurd are
  all_are_so laws domain n heard [] (o ∷ os) parts are = absurd are
  all_are_so laws domain n heard (p ∷ ps) [] parts are = absurd are
  all_are_so laws domain n heard (p ∷ ps) (o ∷ os) [] are = absurd are
  all_are_so laws domain n heard (p ∷ ps) (o ∷ os) (x ∷ xs) are = (λ low. one_is_so laws domain p n heard o x are.0 low, all_are_so laws domain n heard ps os xs are.1)

  pub parts_are_so : Laws → IsDue → (domain : List ℕ) (problems : List (List ℕ)) (n : Numbers) (turns : Turns) → requested words ≡ Some (batches domain problems n turns) → (status ≡ 5 → ⊥) → (status ≡ 6 → ⊥) → (status ≡ 8 → ⊥)
      → (parts : List Ending) × (first : Heard) × (others : List Heard) × (took ≡ first ∷ others) × ArePartsSo domain n first problems others parts × (status ≡ greatest (map status_of parts)) × (after ≡ appended before (parts_text 1 parts))
  parts_are_so laws due domain problems n turns asked not_five not_six not_eight =
      let p = its_parts due domain problems n turns asked not_five not_six not_eight in
      let b = p.1 in
      (p.0, b.first, b.others, b.all, all_are_so laws domain n b.first problems b.others p.0 b.are, p.2.0, p.2.1)

  pub as_alone : Laws → IsDue → (domain : List ℕ) (problems : List (List ℕ)) (n : Numbers) (turns : Turns) → requested words ≡ Some (batches domain problems n turns) → (status ≡ 5 → ⊥) → (status ≡ 6 → ⊥) → (status ≡ 8 → ⊥)
      → (parts : List Ending) × (status ≡ greatest (map status_of parts)) × (after ≡ appended before (parts_text 1 parts))
      × ((elsewhere : List Heard) (others was is : List (List ℕ)) (end : Ending) (place : ℕ) → AskForOnePart took elsewhere words place others → Comes elsewhere was is others end → HasRead end → slice_get parts place ≡ Some end)
  as_alone laws due domain problems n turns asked not_five not_six not_eight =
      let p = its_parts due domain problems n turns asked not_five not_six not_eight in
      (p.0, p.2.0, p.2.1, λ elsewhere others was is end place ask comes reads. part_at laws took elsewhere old new was is words others domain problems n turns p.0 asked p.1 place end ask comes reads)

  pub complete : Laws → IsDue → (status ≡ 6 → ⊥) → (well : GoesWell words took old new) → (status ≡ 8) ⊎ ((end : Ending) × (status ≡ status_of end) × IsGood well.request end × (after ≡ appended before (text_of end)))
  complete laws due not_six well = elim (eqb_tells status 8) [
    | inl (t, eight) ↦ inl eight
    | inr (f, not_eight) ↦ inr (let d = due not_six not_eight in (d.0, d.1, goes_well old new laws.no_fault words took well d.0 d.2, d.3))
  ]
