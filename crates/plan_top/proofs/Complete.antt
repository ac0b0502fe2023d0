-- Words and files that are in order are answered.
use Rattle.std.proofs.Common.{◌≡◌, ◌≤◌, ℕ, ◌+◌, ◌==◌, Bool, true, false, if◌then◌else◌, List, [], ◌∷◌, length, Some, None, Ok, Err, refl, sym, subst, ap, ◌∙◌, arith, inl, inr}
use Rattle.std.specs.List.{AllZip, AllByRecursion}
use Rattle.pl_io.specs.Outside.{Heard, IsSo}
use Rattle.pd_sexp.specs.Tree.{Tree}
use Rattle.pd_sexp.specs.Fault.{Reads}
use Rattle.pd_model.specs.declared.calls.Verdict.{Verdict}
use Rattle.pd_model.specs.declared.calls.Verdict.TheVariants as verdicts
use Rattle.pd_model.specs.Plan.{verdict}
use Rattle.pd_model.specs.declared.calls.Call.{Call}
use Rattle.pd_plan.specs.PlanFile.{plan_file}
use Rattle.horizon_rates.specs.declared.settings.Settings.{Settings}
use Rattle.race_outcome.specs.Ends.{EndView, Planned, Exhausted, Unfinished, end_view}
use Rattle.plan_report.specs.Report.{report_of}
use Rattle.pd_model.specs.declared.parts.Parts.{Parts}
use Rattle.plan_gen.specs.declared.Kind.{Kind as Generated}
use Rattle.plan_gen.specs.Task.{domain_of, problem_of}
use Rattle.requests.specs.Seen.{Seen, Numbers, plans, plans_by, checks, grounds, orders, generates, proves, verifies, batches, files_of}
use Rattle.requests.specs.OneTask.{IsOfOne}
use Rattle.requests.specs.declared.request.Stepping.{Stepping}
use Rattle.requests.specs.declared.request.Turns.{Turns}
use Rattle.requests.specs.declared.request.Show.{Show}
use Rattle.requests.specs.declared.request.Show.TheVariants as shows
use Rattle.plan_endings.specs.declared.ending.Kind.{Kind}
use Rattle.plan_endings.specs.declared.ending.Kind.TheVariants as kinds
use Rattle.plan_endings.specs.declared.ending.Limit.{Limit}
use Rattle.plan_endings.specs.declared.ending.Limit.TheVariants as limits
use Rattle.plan_endings.specs.declared.ending.Ending.{Ending}
use Rattle.plan_endings.specs.declared.ending.Ending.TheVariants.{Report, TooLarge}
use Rattle.plan_endings.specs.declared.ending.File.{File}
use Rattle.plan_endings.specs.declared.ending.File.TheVariants.{Domain, Problem}
use Rattle.containers.specs.Limits.{most_bytes}
use Rattle.plan_tasks.specs.Limits.{AreShort, most_of}
use Rattle.commands.specs.Files.{file_at}
use Rattle.plan_tasks.specs.Files.{IsFront, AreOf, StopsFrom, FaultsFrom, RoseAmong}
use Rattle.plan_tasks.proofs.published.Hearing.{front_long, taken_are, of_front}
use Rattle.clause_base.specs.declared.log.Entry.{Entry}
use Rattle.proof_log.specs.Place.{IsUnfitAt}
use Rattle.proof_log.specs.Laws.{TextsAreFit}
use Rattle.commands.specs.Certificate.{IsSpelled}
use Rattle.commands.specs.declared.prove.Proved.{Proved}
use Rattle.commands.specs.declared.prove.Proved.TheVariants as proved
use Rattle.commands.specs.declared.verify.Judged.{Judged}
use Rattle.commands.specs.declared.verify.Judged.TheVariants as judged
use Rattle.commands.specs.Tasks.{AreTask, RefusesTask, IsTreeFault, domain_tree, problem_tree, no_task, OnceRead, not_read, read, refused, past, OnceGrounded, not_grounded, grounded, IsOver}
use Rattle.commands.specs.Raced.{too_large, ended, outcome_of}
use Rattle.commands.specs.Generated.{AnswersGenerated, RacesGenerated, generated_report}
use Rattle.commands.specs.Answers.{OfTwo, OfThree, Decides, AnswersPlan, AnswersGround, AnswersOrder, AnswersCheck, AnswersProve, not_run, run, AnswersVerify, unfit, beyond, spelled, not_checked, checked, ending_of_run, ending_of_check, ending_of}
use Rattle.plan_top.specs.Causes.{ComesFor, stopped, decided, ArePartsOf, IsBatchOf, Comes, no_request, of_one, unread, in_parts}
use Rattle.plan_top.specs.Complete.{GoesWell, AreWithin, AreChecked, AreSpelled, AreInOrder, IsGoodAlone, IsGood}
use Rattle.plan_endings.specs.Ending.{status_of}
use Rattle.gt_core.specs.Lawful.{conditional_in}
use Rattle.grounding_defs.specs.Grounded.{Grounded, IsGrounded}
use Rattle.grounding_defs.specs.Limits.{IsWithin}
use Rattle.grounding_defs.proofs.published.Unique.{one_result}
use Rattle.plan_top.proofs.Told.{one_request}

good_zero : (request : Seen) (end : Ending) → status_of end ≡ 0 → IsGoodAlone request end
good_zero request end zero = inl (0, omega arith, sym zero)

good_one : (request : Seen) (end : Ending) → status_of end ≡ 1 → IsGoodAlone request end
good_one request end one = inl (1, omega arith, sym one)

good_two : (request : Seen) (end : Ending) → status_of end ≡ 2 → IsGoodAlone request end
good_two request end two = inl (2, omega arith, sym two)

good_large : (request : Seen) (end : Ending) (horizon count : ℕ) → end ≡ TooLarge horizon count → IsGoodAlone request end
good_large request end horizon count e = inr (inl (horizon, count, e))

-- ---- a task is refused for nothing

no_tree_fault : (bytes : List ℕ) (tree : Tree) (kind : Kind) (at : ℕ) → Reads bytes tree → IsTreeFault bytes kind at → ⊥
no_tree_fault bytes tree kinds.Syntax at reads is = is.0 tree reads.file
no_tree_fault bytes tree kinds.Deep at reads is = reads.shallow at is.0
no_tree_fault bytes tree kinds.Shape at reads is = is
no_tree_fault bytes tree kinds.Unknown at reads is = is
no_tree_fault bytes tree kinds.Arity at reads is = is
no_tree_fault bytes tree kinds.Duplicate at reads is = is
no_tree_fault bytes tree kinds.Unsupported at reads is = is
no_tree_fault bytes tree kinds.Mistyped at reads is = is

not_refused : (domain problem : List ℕ) (task : Parts) (end : Ending) → AreTask domain problem task → RefusesTask domain problem end → ⊥
not_refused domain problem task end are (domain_tree r) = no_tree_fault domain are.0 r.0 r.1 are.2 r.3
not_refused domain problem task end are (problem_tree first reads r) = no_tree_fault problem are.1 r.0 r.1 are.3 r.3
not_refused domain problem task end are (no_task first second one two r) =
    let same_first : first ≡ are.0 = are.2.only first one.file in
    let same_second : second ≡ are.1 = are.3.only second two.file in
    let fails = rw (same_first, same_second) at r.1 in
    let never : Ok task ≡ Err r.0 = sym are.4 ∙ fails in cc

same_task : (domain problem : List ℕ) (task other : Parts) → AreTask domain problem task → AreTask domain problem other → other ≡ task
same_task domain problem task other are others =
    let same_first : others.0 ≡ are.0 = are.2.only others.0 others.2.file in
    let same_second : others.1 ≡ are.1 = are.3.only others.1 others.3.file in
    let reads = rw (same_first, same_second) at others.4 in
    let both : Ok other ≡ Ok task = sym reads ∙ are.4 in cc

-- ---- nor stopped at a limit

not_over : (task : Parts) (g : Grounded) (what : Limit) (count : ℕ) → IsGrounded task g → IsWithin task g → IsOver what task count → ⊥
not_over task g limits.Tuples count is fits over = let a = fits.tuples in let b = over.over in omega (arith, a, b)
not_over task g limits.Facts count is fits over =
    let a = fits.facts in let b = over.over in let e = ap (λ (x : Grounded). length x.facts) (one_result task over.grounded g over.is is) in omega (arith, a, b, e)
not_over task g limits.Actions count is fits over =
    let a = fits.actions in let b = over.over in let e = ap (λ (x : Grounded). length x.calls) (one_result task over.grounded g over.is is) in omega (arith, a, b, e)
not_over task g limits.Effects count is fits over =
    let a = fits.effects in let b = over.over in let e = ap (λ (x : Grounded). conditional_in x.task.actions) (one_result task over.grounded g over.is is) in omega (arith, a, b, e)

-- ---- what is decided

-- two texts that are a task within the limits
within_good : (request : Seen) (domain problem : List ℕ) (answers : Parts → Grounded → Ending → Type 0) (end : Ending) → AreWithin domain problem → ((task : Parts) (g : Grounded) → answers task g end → IsGoodAlone request end)
    → OnceGrounded domain problem answers end → IsGoodAlone request end
within_good request domain problem answers end order good (not_grounded (refused r)) = absurd (not_refused domain problem order.0 end order.1 r)
within_good request domain problem answers end order good (not_grounded (past task are over)) =
    let g = order.2 in
    let same : task ≡ order.0 = same_task domain problem order.0 task order.1 are in
    absurd (not_over order.0 g.0 over.0 over.1 g.1 g.2 (subst (λ (t : Parts). IsOver over.0 t over.1) same over.3))
within_good request domain problem answers end order good (grounded task g are ready h) = good task g h

race_good : (request : Seen) (race : EndView) (text : List ℕ) (end : Ending) → end ≡ Report (outcome_of race) text → IsGoodAlone request end
race_good request (Planned horizon steps lines) text end told = good_zero request end (ap status_of told)
race_good request (Exhausted horizon lines) text end told = good_one request end (ap status_of told)
race_good request (Unfinished lines) text end told = good_two request end (ap status_of told)

plan_good : (request : Seen) (steps : Stepping) (settings : Settings) (task : Parts) (g : Grounded) (end : Ending) → AnswersPlan steps settings task g end → IsGoodAlone request end
plan_good request steps settings task g end (too_large over) = good_large request end over.0 over.1 over.2
plan_good request steps settings task g end (ended race comes small told) = race_good request (end_view race) (report_of task g settings.budget (end_view race)) end told

generated_good : (request : Seen) (kind : Generated) (number : ℕ) (settings : Settings) (task : Parts) (g : Grounded) (end : Ending) → RacesGenerated kind number settings task g end → IsGoodAlone request end
generated_good request kind number settings task g end (too_large over) = good_large request end over.0 over.1 over.2
generated_good request kind number settings task g end (ended race comes so told) = race_good request (end_view race) (generated_report kind number settings (end_view race)) end told

verdict_good : (request : Seen) (v : Verdict) → IsGoodAlone request (ending_of v)
verdict_good request verdicts.Reaches = good_zero request (ending_of verdicts.Reaches) refl
verdict_good request (verdicts.Blocked index) = good_one request (ending_of (verdicts.Blocked index)) refl
verdict_good request verdicts.Short = good_one request (ending_of verdicts.Short) refl

check_good : (request : Seen) (task : Parts) (bytes : List ℕ) (calls : List Call) (end : Ending) → plan_file task bytes ≡ Ok calls → AnswersCheck task bytes end → IsGoodAlone request end
check_good request task bytes calls end is (inl h) = subst (IsGoodAlone request) (sym h.2) (verdict_good request (verdict task h.0))
check_good request task bytes calls end is (inr h) = absurd (let never : Ok calls ≡ Err h.0 = sym is ∙ h.1 in cc)

checked_good : (request : Seen) (domain problem bytes : List ℕ) (end : Ending) → AreChecked domain problem bytes → OnceRead domain problem (λ task. AnswersCheck task bytes) end → IsGoodAlone request end
checked_good request domain problem bytes end order (not_read r) = absurd (not_refused domain problem order.0 end order.1 r)
checked_good request domain problem bytes end order (read task are h) =
    let same : task ≡ order.0 = same_task domain problem order.0 task order.1 are in
    check_good request order.0 bytes order.2.0 end order.2.1 (subst (λ (t : Parts). AnswersCheck t bytes end) same h)

shown_good : (request : Seen) (kind : Generated) (number : ℕ) (settings : Settings) (show : Show) (end : Ending) → AreWithin (domain_of kind) (problem_of kind number) → AnswersGenerated kind number settings show end → IsGoodAlone request end
shown_good request kind number settings shows.Domain end order h = good_zero request end (ap status_of h)
shown_good request kind number settings shows.Problem end order h = good_zero request end (ap status_of h)
shown_good request kind number settings shows.None end order h =
    within_good request (domain_of kind) (problem_of kind number) (RacesGenerated kind number settings) end order (λ task g. generated_good request kind number settings task g end) h

prove_good : (d p : List ℕ) (h b : ℕ) (task : Parts) (g : Grounded) (end : Ending) → AnswersProve h b task g end → IsGoodAlone (proves d p h b) end
prove_good d p h b task g end (not_run count many e) = good_large (proves d p h b) end h count e
prove_good d p h b task g end (run r so e) = step r e
  where
    step : (r : Proved) → end ≡ ending_of_run h r → IsGoodAlone (proves d p h b) end
    step (proved.Certificate text) told = good_zero (proves d p h b) end (ap status_of told)
    step proved.TooLong told = inr (inr (tt, told))
    step (proved.Plan conflicts) told = good_one (proves d p h b) end (ap status_of told)
    step (proved.Open conflicts) told = good_two (proves d p h b) end (ap status_of told)

verify_good : (request : Seen) (task : Parts) (g : Grounded) (bytes : List ℕ) (end : Ending) → TextsAreFit → IsGrounded task g → IsWithin task g → (horizon : ℕ) (log : List Entry) → IsSpelled bytes horizon log → AnswersVerify task bytes end → IsGoodAlone request end
verify_good request task g bytes end no_fault is fits horizon log spells (unfit r) =
    absurd (no_fault horizon log r.0 spells.within spells.written (subst (λ (bs : List ℕ). IsUnfitAt bs r.0) spells.spelled r.1))
verify_good request task g bytes end no_fault is fits horizon log spells (beyond h l so past_limit) = absurd (not_over task g past_limit.0 past_limit.1 is fits past_limit.3)
verify_good request task g bytes end no_fault is fits horizon log spells (spelled h l k so ready (not_checked count many e)) = good_large request end h count e
verify_good request task g bytes end no_fault is fits horizon log spells (spelled h l k so ready (checked j judges e)) = step j e
  where
    step : (j : Judged) → end ≡ ending_of_check h j → IsGoodAlone request end
    step (judged.Accepted entries) told = good_zero request end (ap status_of told)
    step (judged.Rejected entry) told = good_one request end (ap status_of told)
    step judged.NotEmpty told = good_one request end (ap status_of told)

verified_good : (request : Seen) (domain problem bytes : List ℕ) (end : Ending) → TextsAreFit → AreSpelled domain problem bytes → OnceRead domain problem (λ task. AnswersVerify task bytes) end → IsGoodAlone request end
verified_good request domain problem bytes end no_fault order (not_read r) = absurd (not_refused domain problem order.0.0 end order.0.1 r)
verified_good request domain problem bytes end no_fault order (read task are h) =
    let same : task ≡ order.0.0 = same_task domain problem order.0.0 task order.0.1 are in
    let g = order.0.2 in
    verify_good request order.0.0 g.0 bytes end no_fault g.1 g.2 order.1.0 order.1.1 order.1.2 (subst (λ (t : Parts). AnswersVerify t bytes end) same h)

-- what is decided of two files, or of three, that are in order
pub of_two : {X : Type 0} (order answers : List ℕ → List ℕ → Type 0) (files : List (List ℕ)) → ((a b : List ℕ) → order a b → answers a b → X) → OfTwo files order → OfTwo files answers → X
of_two order answers [] good is h = absurd h
of_two order answers (a ∷ []) good is h = absurd h
of_two order answers (a ∷ (b ∷ [])) good is h = good a b is h
of_two order answers (a ∷ (b ∷ (c ∷ others))) good is h = absurd h

pub of_three : {X : Type 0} (order answers : List ℕ → List ℕ → List ℕ → Type 0) (files : List (List ℕ)) → ((a b c : List ℕ) → order a b c → answers a b c → X) → OfThree files order → OfThree files answers → X
of_three order answers [] good is h = absurd h
of_three order answers (a ∷ []) good is h = absurd h
of_three order answers (a ∷ (b ∷ [])) good is h = absurd h
of_three order answers (a ∷ (b ∷ (c ∷ []))) good is h = good a b c is h
of_three order answers (a ∷ (b ∷ (c ∷ (d ∷ others)))) good is h = absurd h

files_good : TextsAreFit → (request : Seen) (files : List (List ℕ)) (end : Ending) → AreInOrder request files → Decides request files end → IsGoodAlone request end
files_good no_fault (plans_by steps d p n) files end order h =
    of_two AreWithin _ files (λ a b o k. within_good (plans_by steps d p n) a b (AnswersPlan steps k.0) end o (λ task g. plan_good (plans_by steps d p n) steps k.0 task g end) k.2) order h
files_good no_fault (grounds d p) files end order h = of_two AreWithin _ files (λ a b o k. within_good (grounds d p) a b AnswersGround end o (λ task g e. good_zero (grounds d p) end (ap status_of e)) k) order h
files_good no_fault (orders d p) files end order h = of_two AreWithin _ files (λ a b o k. within_good (orders d p) a b AnswersOrder end o (λ task g e. good_zero (orders d p) end (ap status_of e.3)) k) order h
files_good no_fault (checks d p l) files end order h = of_three AreChecked _ files (λ a b c o k. checked_good (checks d p l) a b c end o k) order h
files_good no_fault (generates kind number n show) files end order h = shown_good (generates kind number n show) kind number h.1.0 show end order.1 h.1.2
files_good no_fault (proves d p horizon budget) files end order h = of_two AreWithin _ files (λ a b o k. within_good (proves d p horizon budget) a b (AnswersProve horizon budget) end o (λ task g. prove_good d p horizon budget task g end) k) order h
files_good no_fault (verifies d p c) files end order h = of_three AreSpelled _ files (λ a b l o k. verified_good (verifies d p c) a b l end no_fault o k) order h
files_good no_fault (batches d ps n t) files end order h = absurd h

-- ---- what a run comes to

-- a file of a batch is a domain or a problem
pub batch_most : (domain : List ℕ) (problems : List (List ℕ)) (n : Numbers) (turns : Turns) (place : ℕ) → most_of (file_at (batches domain problems n turns) place) ≡ most_bytes
batch_most domain problems n turns place = step (place == 0) (place == 1)
  where
    step : (a b : Bool) → most_of (if a then Domain else if b then Problem else Problem) ≡ most_bytes
    step true b = refl
    step false true = refl
    step false false = refl

-- a request of one task
good_alone : (request : Seen) (end : Ending) → IsOfOne request → IsGoodAlone request end → IsGood request end
good_alone (plans_by steps d p n) end one h = h
good_alone (checks d p l) end one h = h
good_alone (grounds d p) end one h = h
good_alone (orders d p) end one h = h
good_alone (generates k m n s) end one h = h
good_alone (proves d p k b) end one h = h
good_alone (verifies d p c) end one h = h
good_alone (batches d ps n t) end one h = absurd one

module _ (old new : List (List ℕ)) where
  no_stop : (file : ℕ → File) (place : ℕ) (names : List (List ℕ)) (took : List Heard) (files : List (List ℕ)) (end : Ending) → AreOf files took → AreShort file place files → (RoseAmong names old new → ⊥)
      → StopsFrom old new file place names took end → ⊥
  no_stop file place [] took files end of fit quiet h = h
  no_stop file place (n ∷ ns) [] files end of fit quiet (inl fault) = quiet (inl fault.1)
  no_stop file place (n ∷ ns) [] files end of fit quiet (inr (told, (heard, one, front))) = let never : [] ≡ heard ∷ [] = one in cc
  no_stop file place (n ∷ ns) (e ∷ es) [] end of fit quiet h = of
  no_stop file place (n ∷ ns) (e ∷ es) (f ∷ fs) end of fit quiet (inl (inl fault)) = quiet (inl fault.1)
  no_stop file place (n ∷ ns) (e ∷ es) (f ∷ fs) end of fit quiet (inl (inr (told, (heard, one, front)))) =
      let same : heard ≡ e = cc in
      let long = front_long (file place) n e f (subst (IsFront (file place) n) same front) of.0 in
      let short = fit.0 in
      omega (arith, long, short)
  no_stop file place (n ∷ ns) (e ∷ es) (f ∷ fs) end of fit quiet (inr more) = no_stop file (place + 1) ns es fs end of.1 fit.1 (λ rose. quiet (inr rose)) more.1

  -- files of one task that are in order
  alone : TextsAreFit → (request : Seen) (took : List Heard) (files : List (List ℕ)) → AreOf files took → length files ≡ length (files_of request) → AreShort (file_at request) 0 files → AreInOrder request files
      → (RoseAmong (files_of request) old new → ⊥) → (end : Ending) → ComesFor took old new request end → IsGoodAlone request end
  alone no_fault request took files of count fit order quiet end (stopped h) = absurd (no_stop (file_at request) 0 (files_of request) took files end of fit quiet h)
  alone no_fault request took files of count fit order quiet end (decided taken are answer h) =
      files_good no_fault request files end order (subst (λ (fs : List (List ℕ)). Decides request fs end) (taken_are (file_at request) 0 (files_of request) took taken files are of count) h)

  no_unread : (file : ℕ → File) (place : ℕ) (names : List (List ℕ)) (took : List Heard) (end : Ending) → (RoseAmong names old new → ⊥) → FaultsFrom old new file place names took end → ⊥
  no_unread file place [] took end quiet h = h
  no_unread file place (n ∷ ns) [] end quiet fault = quiet (inl fault.1)
  no_unread file place (n ∷ ns) (e ∷ es) end quiet (inl fault) = quiet (inl fault.1)
  no_unread file place (n ∷ ns) (e ∷ es) end quiet (inr more) = no_unread file (place + 1) ns es end (λ rose. quiet (inr rose)) more.1

  -- the parts of a batch of a domain that fits
  module _ (no_fault : TextsAreFit) (domain first : List ℕ) (n : Numbers) (all : List (List ℕ)) (turns : Turns) (heard : Heard) (is : IsSo first heard.1.0 heard.1.1) (fits : length first ≤ most_bytes) where
    parts_good : (place : ℕ) (problems : List (List ℕ)) (others : List Heard) (texts : List (List ℕ)) (parts : List Ending) → AreOf texts others
        → AreShort (file_at (batches domain all n turns)) place texts → AllByRecursion (AreWithin first) texts → (RoseAmong (domain ∷ problems) old new → ⊥)
        → ArePartsOf old new domain n heard problems others parts → AllZip (λ problem part. IsGoodAlone (plans domain problem n) part) problems parts
    parts_good place [] [] texts [] of fit order quiet comes = tt
    parts_good place [] [] texts (x ∷ xs) of fit order quiet comes = absurd comes
    parts_good place [] (o ∷ os) texts parts of fit order quiet comes = absurd comes
    parts_good place (p ∷ ps) [] texts parts of fit order quiet comes = absurd comes
    parts_good place (p ∷ ps) (o ∷ os) texts [] of fit order quiet comes = absurd comes
    parts_good place (p ∷ ps) (o ∷ os) [] (x ∷ xs) of fit order quiet comes = absurd of
    parts_good place (p ∷ ps) (o ∷ os) (t ∷ ts) (x ∷ xs) of fit order quiet comes =
        let here = comes.0 in (
          alone no_fault (plans domain p n) here.took (first ∷ t ∷ [])
              (of_front (first ∷ t ∷ []) here.took here.rest (subst (AreOf (first ∷ t ∷ [])) here.split (is, (of.0, tt)))) refl
              (fits, (rw (batch_most domain all n turns place) at fit.0, tt)) order.0 (λ rose. quiet (first_two rose)) x here.comes,
          parts_good (place + 1) ps os ts xs of.1 fit.1 order.1 (λ rose. quiet (others_rose rose)) comes.1,
        )
      where
        first_two : RoseAmong (domain ∷ p ∷ []) old new → RoseAmong (domain ∷ p ∷ ps) old new
        first_two (inl h) = inl h
        first_two (inr (inl h)) = inr (inl h)
        first_two (inr (inr h)) = absurd h

        others_rose : RoseAmong (domain ∷ ps) old new → RoseAmong (domain ∷ p ∷ ps) old new
        others_rose (inl h) = inl h
        others_rose (inr h) = inr (inr h)

  batch_good : TextsAreFit → (domain : List ℕ) (problems : List (List ℕ)) (n : Numbers) (turns : Turns) (took : List Heard) (files : List (List ℕ)) → AreOf files took
      → AreShort (file_at (batches domain problems n turns)) 0 files → AreInOrder (batches domain problems n turns) files → (RoseAmong (domain ∷ problems) old new → ⊥)
      → (parts : List Ending) → IsBatchOf took old new domain n problems parts → AllZip (λ problem part. IsGoodAlone (plans domain problem n) part) problems parts
  batch_good no_fault domain problems n turns took files of fit order quiet parts batch = step files (subst (AreOf files) batch.all of) fit order
    where
      step : (files : List (List ℕ)) → AreOf files (batch.first ∷ batch.others) → AreShort (file_at (batches domain problems n turns)) 0 files → AreInOrder (batches domain problems n turns) files
          → AllZip (λ problem part. IsGoodAlone (plans domain problem n) part) problems parts
      step [] of fit order = absurd of
      step (first ∷ texts) of fit order = parts_good no_fault domain first n problems turns batch.first of.0 fit.0 1 problems batch.others texts parts of.1 fit.1 order quiet batch.are

  pub complete : TextsAreFit → (words : List (List ℕ)) (took : List Heard) (w : GoesWell words took old new) (end : Ending) → Comes took old new words end → IsGood w.request end
  complete no_fault words took w end (no_request none nothing e) = absurd (let never : Some w.request ≡ None = sym w.asked ∙ none in cc)
  complete no_fault words took w end (of_one request asked one h) =
      let is : request ≡ w.request = one_request words request w.request asked w.asked in
      subst (λ (r : Seen). IsGood r end) is
      (good_alone request end one (subst (λ (r : Seen). ComesFor took old new r end → IsGoodAlone r end) (sym is) (alone no_fault w.request took w.files w.are_of w.count w.fit w.in_order w.quiet end) h))
  complete no_fault words took w end (unread d ps n turns asked h) =
      let is : w.request ≡ batches d ps n turns = one_request words w.request (batches d ps n turns) w.asked asked in
      absurd (no_unread (file_at (batches d ps n turns)) 0 (d ∷ ps) took end (subst (λ (r : Seen). RoseAmong (files_of r) old new → ⊥) is w.quiet) h)
  complete no_fault words took w end (in_parts d ps n turns asked parts are e) =
      let is : w.request ≡ batches d ps n turns = one_request words w.request (batches d ps n turns) w.asked asked in
      subst (λ (r : Seen). IsGood r end) (sym is) (
        parts,
        e,
        batch_good no_fault d ps n turns took w.files w.are_of (subst (λ (r : Seen). AreShort (file_at r) 0 w.files) is w.fit)
            (subst (λ (r : Seen). AreInOrder r w.files) is w.in_order) (subst (λ (r : Seen). RoseAmong (files_of r) old new → ⊥) is w.quiet) parts are,
      )
