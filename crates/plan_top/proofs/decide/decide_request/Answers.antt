use Rattle.std.proofs.Common.{◌≡◌, ◌∙◌, ◌∷◌, ℕ, List, [], Option, Some, Bor, refl, ap, subst, sym, arith}
use Rattle.clap.specs.Walk.{texts}
use Rattle.pl_io.specs.Outside.{Heard}
use Rattle.horizon_rates.specs.declared.settings.Settings.{Settings}
use Rattle.plan_gen.specs.declared.Kind.{Kind}
use Rattle.requests.specs.OneTask.{IsOfOne}
use Rattle.requests.specs.Requested.{requested}
use Rattle.requests.specs.Seen.{Seen, IsSized, seen, files_of, numbers, plans_by, checks, grounds, orders, generates, proves, verifies, batches}
use Rattle.requests.specs.declared.request.Show.{Show}
use Rattle.requests.specs.declared.request.Turns.{Turns}
use Rattle.requests.specs.declared.request.Request.{Request}
use Rattle.requests.specs.declared.request.Request.TheVariants.{Plan, Check, Ground, Order, Gen, Prove, Verify, Batch}
use Rattle.plan_endings.specs.declared.ending.Ending.{Ending}
use Rattle.plan_endings.specs.declared.ending.File.{File}
use Rattle.plan_endings.specs.declared.ending.File.TheVariants.{Problem}
use Rattle.plan_tasks.specs.Limits.{file_in}
use Rattle.plan_tasks.specs.Named.{names_of, bytes_of}
use Rattle.plan_tasks.specs.Files.{AreTaken, AreTakenOrLong, FaultsFrom, StopsFrom, NotesAmong}
use Rattle.commands.specs.Files.{file_at, third_of, HasFiles}
use Rattle.commands.specs.Generated.{AnswersGenerated}
use Rattle.plan_top.specs.Causes.{Comes, of_one, stopped}
use Rattle.plan_top.specs.own.Parts.{IsBatch, AnswersBatch}
use Rattle.plan_top.proofs.Batches.{files_fit, request_comes, request_unread}
use Rattle.plan_top.proofs.Told.{taken_comes}
use Rattle.plan_tasks.proofs.published.Hearing.{handed_once, handed_none}
use Rattle.plan_endings.proofs.published.Stopped.{EndsAs-handed, EndsAs-weaker}
use Rattle.plan_top.proofs.decide.decide_request.Goals as goal

-- ---- the request of an arm

batch_of : {r : Request} {d : Bor (List ℕ)} {ps : List (Bor (List ℕ))} {s : Settings} {t : Turns} → r ≡ Batch d ps s t → IsSized (seen r) → IsBatch s t (seen r)
batch_of is sized = (_, _, ap seen is, (subst (λ (q : Request). IsSized (seen q)) is sized).1)

-- what its files are named, and what they are
files_in : {r : Request} {d : Bor (List ℕ)} {ps : List (Bor (List ℕ))} {s : Settings} {t : Turns} → r ≡ Batch d ps s t → (problems : List (Bor (List ℕ))) → problems ≡ ps
    → (claim : (ℕ → File) → List (List ℕ) → Type 0) → claim (file_in Problem) (d.now ∷ texts problems) → claim (file_at (seen r)) (files_of (seen r))
files_in {d = d} is problems all claim holds =
    subst (λ (q : Request). claim (file_at (seen q)) (files_of (seen q))) (sym is) (subst (λ (ps : List (Bor (List ℕ))). claim (file_in Problem) (d.now ∷ texts ps)) all holds)

has_files : (r : Request) → ((d : Bor (List ℕ)) (ps : List (Bor (List ℕ))) (s : Settings) (t : Turns) → r ≡ Batch d ps s t → ⊥) → ((k : Kind) (n : ℕ) (s : Settings) (w : Show) → r ≡ Gen k n s w → ⊥) → HasFiles (seen r)
has_files (Plan steps d p s) no_batch no_gen = tt
has_files (Check d p l) no_batch no_gen = tt
has_files (Ground d p) no_batch no_gen = tt
has_files (Order d p) no_batch no_gen = tt
has_files (Gen k n s w) no_batch no_gen = absurd (no_gen k n s w refl)
has_files (Prove d p h b) no_batch no_gen = tt
has_files (Verify d p c) no_batch no_gen = tt
has_files (Batch d ps s t) no_batch no_gen = absurd (no_batch d ps s t refl)

one_of : (request : Seen) → HasFiles request → IsOfOne request
one_of (plans_by steps d p n) has = tt
one_of (checks d p l) has = tt
one_of (grounds d p) has = tt
one_of (orders d p) has = tt
one_of (generates k n s w) has = tt
one_of (proves d p h b) has = tt
one_of (verifies d p c) has = tt
one_of (batches d ps n t) has = absurd has

-- what its files are named, and what they are, where there are two or three
named_in : (request : Seen) (names : List (List ℕ)) (third : File) → names ≡ files_of request → third ≡ third_of request → (claim : (ℕ → File) → List (List ℕ) → Type 0) → claim (file_in third) names → claim (file_at request) (files_of request)
named_in request names third are is claim holds =
    subst (λ (ns : List (List ℕ)). claim (file_at request) ns) are (subst (λ (f : File). claim (file_in f) names) is holds)

-- what is generated needs no file
gen_comes : {r : Request} {k : Kind} {n : ℕ} {s : Settings} {w : Show} → r ≡ Gen k n s w → (took : List Heard) → took ≡ [] → (old words : List (List ℕ)) → requested words ≡ Some (seen r) → (end : Ending) → AnswersGenerated k n s w end → Comes took old old words end
gen_comes {k = k} {n = n} {s = s} {w = w} is took none old words asked end h =
    let request = generates k n (numbers s) w in
    let are : AreTaken (file_at request) 0 [] took [] = subst (λ (t : List Heard). AreTaken (file_at request) 0 [] t []) (sym none) tt in
    of_one request (asked ∙ ap (λ (q : Request). Some (seen q)) is) tt (taken_comes took old old request [] are end (refl, (s, refl, h)))

-- ---- a batch

pub returns-in_err-files-in-Batch-clause-cause : goal.returns-in_err-files-in-Batch-clause-cause
returns-in_err-files-in-Batch-clause-cause g c took handed words asked =
    let old = g.S.Shelf.failed c.args.shelf.now in
    let new = g.S.Shelf.failed c.take_batch.new.shelf in
    let batch = batch_of c.in-Batch.is c.requires.sized in
    EndsAs-handed _ (Comes took old new words)
    (λ end h. request_unread took old new c.in-Batch.settings c.in-Batch.turns (seen c.args.request.now) batch words asked end
    (files_in c.in-Batch.is c.as_slice.result.now c.as_slice.ensures (λ (file : ℕ → File) (names : List (List ℕ)). FaultsFrom old new file 0 names took end)
    (subst (λ (t : List Heard). FaultsFrom old new (file_in Problem) 0 (c.in-Batch.domain.now ∷ texts c.as_slice.result.now) t end) (handed_once (g.S.Shelf.heard c.args.shelf.now) _ h.0 took h.1 handed) h.2)))
    c.in_err-files-in-Batch.field-0.0 c.from_residual.result c.from_residual.ensures.1 c.in_err-files-in-Batch.ensures.stops

pub answer_batch-requires-clause-problems : goal.answer_batch-requires-clause-problems
answer_batch-requires-clause-problems g c κs within =
    let files = c.in_ok-files-in-Batch.files in
    let taken = c.in_ok-files-in-Batch.ensures.taken in
    let batch = batch_of c.in-Batch.is c.requires.sized in
    let met = files_in c.in-Batch.is c.as_slice.result.now c.as_slice.ensures (λ (file : ℕ → File) (names : List (List ℕ)). AreTakenOrLong file 0 names taken.0 (files.domain ∷ files.problems.items)) taken.2 in
    let fit = files_fit taken.0 (g.S.Shelf.failed c.args.shelf.now) (g.S.Shelf.failed c.take_batch.new.shelf) c.in-Batch.settings c.in-Batch.turns (seen c.args.request.now) batch _ _ refl met in
    let few = fit.1 in
    rw c.as_slice-problems.ensures.value (fit.0.1, omega (arith, few))

pub returns-in_ok-files-in-Batch-clause-cause : goal.returns-in_ok-files-in-Batch-clause-cause
returns-in_ok-files-in-Batch-clause-cause g c took handed words asked =
    let files = c.in_ok-files-in-Batch.files in
    let files = c.in_ok-files-in-Batch.files in
    let taken = c.in_ok-files-in-Batch.ensures.taken in
    let batch = batch_of c.in-Batch.is c.requires.sized in
    let met = files_in c.in-Batch.is c.as_slice.result.now c.as_slice.ensures (λ (file : ℕ → File) (names : List (List ℕ)). AreTakenOrLong file 0 names took (files.domain ∷ files.problems.items))
    (subst (λ (t : List Heard). AreTakenOrLong (file_in Problem) 0 (c.in-Batch.domain.now ∷ texts c.as_slice.result.now) t (files.domain ∷ files.problems.items)) (handed_once (g.S.Shelf.heard c.args.shelf.now) _ taken.0 took taken.1 handed) taken.2) in
    EndsAs-weaker (AnswersBatch c.in-Batch.settings files.domain files.problems.items) _
    (λ end h. request_comes took _ _ c.in-Batch.settings c.in-Batch.turns (seen c.args.request.now) batch words asked files.domain files.problems.items met end h)
    c.answer_batch.result (rw c.as_slice-problems.ensures.value at c.answer_batch.ensures.batch)

-- ---- a generated task

pub returns-in-Gen-clause-cause : goal.returns-in-Gen-clause-cause
returns-in-Gen-clause-cause g c took handed words asked =
    let none = handed_none (g.S.Shelf.heard c.args.shelf.now) took handed in
    EndsAs-weaker _ _ (λ end h. gen_comes c.in-Gen.is took none (g.S.Shelf.failed c.args.shelf.now) words asked end h) c.answer_gen.result c.answer_gen.ensures

-- ---- all others

pub returns-in_err-files-in_default-clause-cause : goal.returns-in_err-files-in_default-clause-cause
returns-in_err-files-in_default-clause-cause g c =
    let old = g.S.Shelf.failed c.args.shelf.now in
    let new = g.S.Shelf.failed c.take_all.new.shelf in
    let request = seen c.args.request.now in
    let has = has_files c.args.request.now (λ d ps s t is. let never : ⊥ = search (c.in_default.not-Batch) in never) (λ k n s w is. let never : ⊥ = search (c.in_default.not-Gen) in never) in
    let named = named_in request (names_of c.names_of.result) c.third_of.result c.names_of.ensures (c.third_of.ensures has) in
    λ took handed words asked. EndsAs-handed _ (Comes took old new words)
    (λ end h. of_one request asked (one_of request has) (stopped (named (λ (file : ℕ → File) (names : List (List ℕ)). StopsFrom old new file 0 names took end)
    (subst (λ (t : List Heard). StopsFrom old new (file_in c.third_of.result) 0 (names_of c.names_of.result) t end) (handed_once (g.S.Shelf.heard c.args.shelf.now) _ h.0 took h.1 handed) h.2))))
    c.in_err-files-in_default.field-0.0 c.from_residual-in_err-files-in_default.result c.from_residual-in_err-files-in_default.ensures.1 c.in_err-files-in_default.ensures.stops

pub returns-in_err-files-in_default-clause-noted : goal.returns-in_err-files-in_default-clause-noted
returns-in_err-files-in_default-clause-noted g c = subst (λ (names : List (List ℕ)). NotesAmong names (g.S.Shelf.failed c.args.shelf.now) (g.S.Shelf.failed c.take_all.new.shelf)) c.names_of.ensures c.take_all.ensures.noted

pub returns-in_ok-files-in_default-clause-cause : goal.returns-in_ok-files-in_default-clause-cause
returns-in_ok-files-in_default-clause-cause g c =
    let old = g.S.Shelf.failed c.args.shelf.now in
    let new = g.S.Shelf.failed c.take_all.new.shelf in
    let request = seen c.args.request.now in
    let files = bytes_of c.in_ok-files-in_default.files in
    let has = has_files c.args.request.now (λ d ps s t is. let never : ⊥ = search (c.in_default.not-Batch) in never) (λ k n s w is. let never : ⊥ = search (c.in_default.not-Gen) in never) in
    let named = named_in request (names_of c.names_of.result) c.third_of.result c.names_of.ensures (c.third_of.ensures has) in
    let taken = c.in_ok-files-in_default.ensures.taken in
    λ took handed words asked. EndsAs-weaker _ _
    (λ end h. of_one request asked (one_of request has) (taken_comes took _ _ request files (named (λ (file : ℕ → File) (names : List (List ℕ)). AreTaken file 0 names took files)
    (subst (λ (t : List Heard). AreTaken (file_in c.third_of.result) 0 (names_of c.names_of.result) t files) (handed_once (g.S.Shelf.heard c.args.shelf.now) _ taken.0 took taken.1 handed) taken.2)) end h))
    c.answer.result c.answer.ensures

pub returns-in_ok-files-in_default-clause-noted : goal.returns-in_ok-files-in_default-clause-noted
returns-in_ok-files-in_default-clause-noted g c = subst (λ (names : List (List ℕ)). NotesAmong names (g.S.Shelf.failed c.args.shelf.now) (g.S.Shelf.failed c.take_all.new.shelf)) c.names_of.ensures c.take_all.ensures.noted
