-- What comes of the files that were handed over, and which answers their bytes give.
use Rattle.std.proofs.Common.{◌≡◌, ℕ, ◌+◌, true, List, [], ◌∷◌, Some, None, subst, refl, ◌∙◌, sym, inl, inr}
use Rattle.pl_io.specs.Outside.{Heard}
use Rattle.horizon_rates.specs.declared.settings.Settings.{Settings}
use Rattle.plan_endings.specs.declared.ending.File.{File}
use Rattle.plan_endings.specs.declared.ending.File.TheVariants.{Domain, Problem}
use Rattle.pd_model.specs.declared.calls.Verdict.{Verdict}
use Rattle.pd_model.specs.declared.calls.Verdict.TheVariants as verdicts
use Rattle.pd_model.specs.Plan.{verdict}
use Rattle.pd_model.specs.declared.parts.Parts.{Parts}
use Rattle.pd_task.specs.declared.error.PddlError.{PddlError}
use Rattle.pd_task.specs.declared.error.PddlError.TheVariants as errors
use Rattle.pd_plan.specs.Fault as plan
use Rattle.grounding_defs.specs.Grounded.{Grounded}
use Rattle.plan_gen.specs.declared.Kind.{Kind as Generated}
use Rattle.plan_gen.specs.Task.{domain_of, problem_of}
use Rattle.requests.specs.Seen.{Seen, Numbers, plans_by, checks, grounds, orders, generates, proves, verifies, batches, files_of}
use Rattle.requests.specs.OneTask.{IsOfOne}
use Rattle.requests.specs.Requested.{requested}
use Rattle.requests.specs.declared.request.Show.{Show}
use Rattle.requests.specs.declared.request.Turns.{Turns}
use Rattle.requests.specs.declared.request.Show.TheVariants as shows
use Rattle.plan_endings.specs.declared.ending.Kind.{Kind}
use Rattle.plan_endings.specs.declared.ending.Kind.TheVariants as kinds
use Rattle.plan_endings.specs.declared.ending.Ending.{Ending}
use Rattle.plan_endings.specs.declared.ending.Ending.TheVariants.{Refused, TooMany, Usage}
use Rattle.plan_endings.specs.declared.ending.Limit.{Limit}
use Rattle.plan_endings.specs.Ending.{batch_of}
use Rattle.commands.specs.Files.{file_at}
use Rattle.plan_tasks.specs.Files.{AreTaken, FaultsFrom}
use Rattle.requests.specs.declared.request.Stepping.{Stepping}
use Rattle.commands.specs.declared.prove.Proved.{Proved}
use Rattle.commands.specs.declared.prove.Proved.TheVariants as proved
use Rattle.commands.specs.declared.verify.Judged.{Judged}
use Rattle.commands.specs.declared.verify.Judged.TheVariants as judged
use Rattle.commands.specs.Tasks.{RefusesTask, domain_tree, problem_tree, no_task, input_of, refusal_of, OnceRead, not_read, read, refused, past, OnceGrounded, not_grounded, grounded}
use Rattle.commands.specs.Raced.{too_large, ended}
use Rattle.commands.specs.Generated.{AnswersGenerated, RacesGenerated}
use Rattle.commands.specs.Answers.{OfTwo, OfThree, Decides, AnswersPlan, AnswersGround, AnswersOrder, AnswersCheck, AnswersProve, not_run, run, AnswersVerify, unfit, beyond, spelled, not_checked, checked, ending_of_run, ending_of_check, refusal_of_plan, ending_of}
use Rattle.plan_top.specs.Causes.{is_answer, HasRead, ComesFor, decided, IsBatchOf, AskForBatch, Comes, no_request, of_one, unread, in_parts}

-- ---- endings that tell of a file

-- the ending refuses a file
abbrev pub IsRefusal : Ending → Type 0
IsRefusal end = (kind : Kind) × (file : File) × (at : ℕ) × (end ≡ Refused kind file at)

refusal_is : (cause : PddlError) (end : Ending) → refusal_of cause ≡ Some end → IsRefusal end
refusal_is (errors.Shape file at) end e = (kinds.Shape, input_of file, at, cc)
refusal_is (errors.Unknown file at) end e = (kinds.Unknown, input_of file, at, cc)
refusal_is (errors.Arity file at) end e = (kinds.Arity, input_of file, at, cc)
refusal_is (errors.Duplicate file at) end e = (kinds.Duplicate, input_of file, at, cc)
refusal_is (errors.Unsupported file at) end e = (kinds.Unsupported, input_of file, at, cc)
refusal_is errors.Memory end e = absurd (none_some end e)
  where
    none_some : (x : Ending) → None ≡ Some x → ⊥
    none_some x h = cc

pub task_refusal : (domain problem : List ℕ) (end : Ending) → RefusesTask domain problem end → IsRefusal end
task_refusal domain problem end (domain_tree r) = (r.0, Domain, r.1, r.2)
task_refusal domain problem end (problem_tree first reads r) = (r.0, Problem, r.1, r.2)
task_refusal domain problem end (no_task first second one two r) = refusal_is r.0 end r.2

-- ---- which answers the contents give

refused_answer : (request : Seen) (kind : Kind) (file : File) (at : ℕ) → is_answer request (Refused kind file at) ≡ true
refused_answer (plans_by steps d p n) kind file at = refl
refused_answer (proves d p h b) kind file at = refl
refused_answer (verifies d p c) kind file at = refl
refused_answer (batches d ps n t) kind file at = refl
refused_answer (checks d p l) kind file at = refl
refused_answer (grounds d p) kind file at = refl
refused_answer (orders d p) kind file at = refl
refused_answer (generates k m n s) kind file at = refl

-- two texts that are refused, or a task of which the answer is one
read_answer : (request : Seen) (domain problem : List ℕ) (answers : Parts → Ending → Type 0) (end : Ending) → ((task : Parts) → answers task end → is_answer request end ≡ true)
    → OnceRead domain problem answers end → is_answer request end ≡ true
read_answer request domain problem answers end from (not_read r) = let is = task_refusal domain problem end r in rw is.3 (refused_answer request is.0 is.1 is.2)
read_answer request domain problem answers end from (read task are h) = from task h

-- the same of a task that is grounded, for a request that has an answer past a limit
grounded_answer : (request : Seen) (domain problem : List ℕ) (answers : Parts → Grounded → Ending → Type 0) (end : Ending) → ((what : Limit) (count : ℕ) → is_answer request (TooMany what count) ≡ true)
    → ((task : Parts) (g : Grounded) → answers task g end → is_answer request end ≡ true) → OnceGrounded domain problem answers end → is_answer request end ≡ true
grounded_answer request domain problem answers end many from (not_grounded (refused r)) = let is = task_refusal domain problem end r in rw is.3 (refused_answer request is.0 is.1 is.2)
grounded_answer request domain problem answers end many from (not_grounded (past task are over)) = rw over.2 (many over.0 over.1)
grounded_answer request domain problem answers end many from (grounded task g are ready h) = from task g h

verdict_answer : (d p l : List ℕ) (v : Verdict) → is_answer (checks d p l) (ending_of v) ≡ true
verdict_answer d p l verdicts.Reaches = refl
verdict_answer d p l (verdicts.Blocked index) = refl
verdict_answer d p l verdicts.Short = refl

fault_answer : (d p l : List ℕ) (f : plan.Fault) → is_answer (checks d p l) (refusal_of_plan f) ≡ true
fault_answer d p l (plan.syntax at) = refl
fault_answer d p l (plan.unknown at) = refl
fault_answer d p l (plan.arity at) = refl
fault_answer d p l (plan.mistyped at) = refl

check_answer : (d p l : List ℕ) (task : Parts) (bytes : List ℕ) (end : Ending) → AnswersCheck task bytes end → is_answer (checks d p l) end ≡ true
check_answer d p l task bytes end (inl h) = rw h.2 (verdict_answer d p l (verdict task h.0))
check_answer d p l task bytes end (inr h) = rw h.2 (fault_answer d p l h.0)

plan_answer : (steps : Stepping) (d p : List ℕ) (n : Numbers) (settings : Settings) (task : Parts) (g : Grounded) (end : Ending) → AnswersPlan steps settings task g end → is_answer (plans_by steps d p n) end ≡ true
plan_answer steps d p n settings task g end (too_large over) = rw over.2 refl
plan_answer steps d p n settings task g end (ended race comes small told) = rw told refl

generated_answer : (kind : Generated) (number : ℕ) (n : Numbers) (settings : Settings) (show : Show) (end : Ending) → AnswersGenerated kind number settings show end → is_answer (generates kind number n show) end ≡ true
generated_answer kind number n settings shows.Domain end h = rw h refl
generated_answer kind number n settings shows.Problem end h = rw h refl
generated_answer kind number n settings shows.None end h =
    grounded_answer (generates kind number n shows.None) (domain_of kind) (problem_of kind number) (RacesGenerated kind number settings) end
    (λ what count. refl) step h
  where
    step : (task : Parts) (g : Grounded) → RacesGenerated kind number settings task g end → is_answer (generates kind number n shows.None) end ≡ true
    step task g (too_large over) = rw over.2 refl
    step task g (ended race comes so told) = rw told refl

run_answer : (d q : List ℕ) (h b : ℕ) (p : Proved) → is_answer (proves d q h b) (ending_of_run h p) ≡ true
run_answer d q h b (proved.Certificate text) = refl
run_answer d q h b proved.TooLong = refl
run_answer d q h b (proved.Plan conflicts) = refl
run_answer d q h b (proved.Open conflicts) = refl

prove_answer : (d p : List ℕ) (h b : ℕ) (task : Parts) (g : Grounded) (end : Ending) → AnswersProve h b task g end → is_answer (proves d p h b) end ≡ true
prove_answer d p h b task g end (not_run count many e) = rw e refl
prove_answer d p h b task g end (run r so e) = rw e (run_answer d p h b r)

judged_answer : (d p c : List ℕ) (h : ℕ) (j : Judged) → is_answer (verifies d p c) (ending_of_check h j) ≡ true
judged_answer d p c h (judged.Accepted entries) = refl
judged_answer d p c h (judged.Rejected entry) = refl
judged_answer d p c h judged.NotEmpty = refl

verify_answer : (d p c : List ℕ) (task : Parts) (bytes : List ℕ) (end : Ending) → AnswersVerify task bytes end → is_answer (verifies d p c) end ≡ true
verify_answer d p c task bytes end (unfit r) = rw r.2 refl
verify_answer d p c task bytes end (beyond h log is limit) = rw limit.2 refl
verify_answer d p c task bytes end (spelled h log g is ready (not_checked count many e)) = rw e refl
verify_answer d p c task bytes end (spelled h log g is ready (checked j so e)) = rw e (judged_answer d p c h j)

-- what two files decide, or three
pub in_two : {X : Type 0} (claim : List ℕ → List ℕ → Type 0) (files : List (List ℕ)) → ((first second : List ℕ) → claim first second → X) → OfTwo files claim → X
in_two claim [] from h = absurd h
in_two claim (a ∷ []) from h = absurd h
in_two claim (a ∷ (b ∷ [])) from h = from a b h
in_two claim (a ∷ (b ∷ (c ∷ others))) from h = absurd h

pub in_three : {X : Type 0} (claim : List ℕ → List ℕ → List ℕ → Type 0) (files : List (List ℕ)) → ((first second third : List ℕ) → claim first second third → X) → OfThree files claim → X
in_three claim [] from h = absurd h
in_three claim (a ∷ []) from h = absurd h
in_three claim (a ∷ (b ∷ [])) from h = absurd h
in_three claim (a ∷ (b ∷ (c ∷ []))) from h = from a b c h
in_three claim (a ∷ (b ∷ (c ∷ (d ∷ others)))) from h = absurd h

pub decides_answer : (request : Seen) (files : List (List ℕ)) (end : Ending) → Decides request files end → is_answer request end ≡ true
decides_answer (plans_by steps d p n) files end h =
    in_two _ files (λ a b k. grounded_answer (plans_by steps d p n) a b (AnswersPlan steps k.0) end (λ what count. refl) (λ task g. plan_answer steps d p n k.0 task g end) k.2) h
decides_answer (grounds d p) files end h = in_two _ files (λ a b k. grounded_answer (grounds d p) a b AnswersGround end (λ what count. refl) (λ task g e. rw e refl) k) h
decides_answer (orders d p) files end h = in_two _ files (λ a b k. grounded_answer (orders d p) a b AnswersOrder end (λ what count. refl) (λ task g e. rw e.3 refl) k) h
decides_answer (checks d p l) files end h = in_three _ files (λ a b c k. read_answer (checks d p l) a b (λ task. AnswersCheck task c) end (λ task. check_answer d p l task c end) k) h
decides_answer (generates kind number n show) files end h = generated_answer kind number n h.1.0 show end h.1.2
decides_answer (proves d p h b) files end k = in_two _ files (λ first second o. grounded_answer (proves d p h b) first second (AnswersProve h b) end (λ what count. refl) (λ task g. prove_answer d p h b task g end) o) k
decides_answer (verifies d p c) files end h = in_three _ files (λ first second third o. read_answer (verifies d p c) first second (λ task. AnswersVerify task third) end (λ task. verify_answer d p c task third end) o) h
decides_answer (batches d ps n t) files end h = absurd h

-- ---- what a run comes to

-- a file that could not be read is told
unread_file : (old new : List (List ℕ)) (file : ℕ → File) (place : ℕ) (names : List (List ℕ)) (took : List Heard) (end : Ending) → FaultsFrom old new file place names took end → HasRead end → ⊥
unread_file old new file place [] took end h has = h
unread_file old new file place (name ∷ names) [] end fault has = subst HasRead fault.0 has
unread_file old new file place (name ∷ names) (e ∷ es) end (inl fault) has = subst HasRead fault.0 has
unread_file old new file place (name ∷ names) (e ∷ es) end (inr more) has = unread_file old new file (place + 1) names es end more.1 has

-- words ask for one thing
pub one_request : (words : List (List ℕ)) (request other : Seen) → requested words ≡ Some request → requested words ≡ Some other → request ≡ other
one_request words request other asked also = let same : Some request ≡ Some other = sym asked ∙ also in cc

-- words that ask for no batch ask for one task
pub one_unless : (words : List (List ℕ)) (request : Seen) → (AskForBatch words → ⊥) → requested words ≡ Some request → IsOfOne request
one_unless words (plans_by steps d p n) no_batch asked = tt
one_unless words (checks d p l) no_batch asked = tt
one_unless words (grounds d p) no_batch asked = tt
one_unless words (orders d p) no_batch asked = tt
one_unless words (generates k m n s) no_batch asked = tt
one_unless words (proves d p h b) no_batch asked = tt
one_unless words (verifies d p c) no_batch asked = tt
one_unless words (batches d ps n t) no_batch asked = no_batch (d, ps, n, t, asked)

module _ (took : List Heard) (old new : List (List ℕ)) where
  -- of files that were taken, what their bytes decide comes of a request of one task
  pub taken_comes : (request : Seen) (files : List (List ℕ)) → AreTaken (file_at request) 0 (files_of request) took files → (end : Ending) → Decides request files end → ComesFor took old new request end
  taken_comes request files are end h = decided files are (decides_answer request files end h) h

  pub same_parts : (d domain : List ℕ) (ps problems : List (List ℕ)) (m n : Numbers) (also turns : Turns) (parts : List Ending) → batches d ps m also ≡ batches domain problems n turns
      → IsBatchOf took old new d m ps parts → IsBatchOf took old new domain n problems parts
  same_parts d domain ps problems m n also turns parts same are =
      let one : d ≡ domain = cc in
      let two : ps ≡ problems = cc in
      let three : m ≡ n = cc in
      subst (λ (x : List ℕ). IsBatchOf took old new x n problems parts) one
      (subst (λ (x : List (List ℕ)). IsBatchOf took old new d n x parts) two (subst (λ (x : Numbers). IsBatchOf took old new d x ps parts) three are))

  module _ (words : List (List ℕ)) where
    -- an ending of words that ask for one task comes of that
    pub asked_comes : (request : Seen) → IsOfOne request → requested words ≡ Some request → (end : Ending) → Comes took old new words end → ComesFor took old new request end
    asked_comes request one asked end (no_request none nothing e) = absurd (let never : Some request ≡ None = sym asked ∙ none in cc)
    asked_comes request one asked end (of_one other other_asked other_one h) = subst (λ (r : Seen). ComesFor took old new r end) (one_request words other request other_asked asked) h
    asked_comes request one asked end (unread d ps n turns batch h) = absurd (subst IsOfOne (one_request words request (batches d ps n turns) asked batch) one)
    asked_comes request one asked end (in_parts d ps n turns batch parts are e) = absurd (subst IsOfOne (one_request words request (batches d ps n turns) asked batch) one)

    -- one of words that ask for a batch comes of that
    pub asked_parts : (domain : List ℕ) (problems : List (List ℕ)) (n : Numbers) (turns : Turns) → requested words ≡ Some (batches domain problems n turns) → (end : Ending) → HasRead end → Comes took old new words end
        → (parts : List Ending) × IsBatchOf took old new domain n problems parts × (end ≡ batch_of parts)
    asked_parts domain problems n turns asked end has (no_request none nothing e) = absurd (let never : Some (batches domain problems n turns) ≡ None = sym asked ∙ none in cc)
    asked_parts domain problems n turns asked end has (of_one other other_asked one h) = absurd (subst IsOfOne (one_request words other (batches domain problems n turns) other_asked asked) one)
    asked_parts domain problems n turns asked end has (unread d ps m also batch h) = absurd (unread_file old new (file_at (batches d ps m also)) 0 (d ∷ ps) took end h has)
    asked_parts domain problems n turns asked end has (in_parts d ps m also batch parts are e) =
        let same : batches d ps m also ≡ batches domain problems n turns = one_request words (batches d ps m also) (batches domain problems n turns) batch asked in
        (parts, same_parts d domain ps problems m n also turns parts same are, e)

    pub not_asked_comes : requested words ≡ None → (end : Ending) → Comes took old new words end → end ≡ Usage
    not_asked_comes none end (no_request n nothing e) = e
    not_asked_comes none end (of_one request asked one h) = absurd (let never : Some request ≡ None = sym asked ∙ none in cc)
    not_asked_comes none end (unread d ps n turns asked h) = absurd (let never : Some (batches d ps n turns) ≡ None = sym asked ∙ none in cc)
    not_asked_comes none end (in_parts d ps n turns asked parts are e) = absurd (let never : Some (batches d ps n turns) ≡ None = sym asked ∙ none in cc)
