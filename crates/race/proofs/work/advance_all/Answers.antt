use Rattle.std.proofs.Common.{arith, ◌≡◌, ◌∙◌, List, length, false, ap, sym, subst, map, Result, Ok, Err, IfOk, refl}
use Rattle.std.specs.List.{All}
use Rattle.solver_pool.specs.Job.{JobView, AreRising, entry_of}
use Rattle.horizon_run.specs.contracts.turns.StartedResume.TheImpl.{ghosts}
use Rattle.horizon_run.specs.Run.{RunView}
use Rattle.race.specs.Runs.{jobs_at, run_at}
use Rattle.race.proofs.Packed.{length-jobs, all_sound, all_rising, runs_back}
use Rattle.race.proofs.work.advance_all.Goals as goal

if_ok : {T E : Type 0} (P Q : T → Type 0) → ((t : T) → P t → Q t) → (r : Result T E) → IfOk r P → IfOk r Q
if_ok P Q h (Ok t) p = h t p
if_ok P Q h (Err e) p = p

pub round-requires-clause-few : goal.round-requires-clause-few
round-requires-clause-few g c κs within =
    let is : c.new-jobs.result ≡ jobs_at c.args.runs.items c.args.grants.now = c.new-jobs.ensures ∙ c.in_ok-list_jobs.ensures in
    omega (arith, ap length is, length-jobs c.args.runs.items c.args.grants.now c.requires.fits, c.requires.few)

pub round-requires-clause-differ : goal.round-requires-clause-differ
round-requires-clause-differ g c κs within =
    let is : c.new-jobs.result ≡ jobs_at c.args.runs.items c.args.grants.now = c.new-jobs.ensures ∙ c.in_ok-list_jobs.ensures in
    let up : AreRising ghosts c.new-jobs.result = subst (λ (js : List (JobView RunView)). AreRising ghosts js) (sym is) (all_rising c.args.runs.items c.args.grants.now c.requires.fits c.requires.rising) in
    c.are_rising-rising.ensures.differ (c.are_rising-rising.ensures.value.1 up)

pub round-requires-clause-sound : goal.round-requires-clause-sound
round-requires-clause-sound g c κs within =
    let is : c.new-jobs.result ≡ jobs_at c.args.runs.items c.args.grants.now = c.new-jobs.ensures ∙ c.in_ok-list_jobs.ensures in
    subst (λ (js : List (JobView RunView)). All (λ (j : JobView RunView). j.run.spoilt ≡ false) js) (sym is) (all_sound c.args.runs.items c.args.grants.now c.requires.sound)

pub returns-in-Ok : goal.returns-in-Ok
returns-in-Ok g c =
    let gs = c.args.grants.now in
    let is : c.new-jobs.result ≡ jobs_at c.args.runs.items gs = c.new-jobs.ensures ∙ c.in_ok-list_jobs.ensures in
    let up : AreRising ghosts c.new-jobs.result = subst (λ (js : List (JobView RunView)). AreRising ghosts js) (sym is) (all_rising c.args.runs.items gs c.requires.fits c.requires.rising) in
    let entries : map (entry_of ghosts) c.in-Ok.back ≡ map (entry_of ghosts) (jobs_at c.args.runs.items gs) = c.in-Ok.ensures.in_order up ∙ ap (λ (js : List (JobView RunView)). map (entry_of ghosts) js) is in
    if_ok _ _ (λ out e. e ∙ ap (map run_at) c.into_vec.ensures ∙ runs_back ghosts (λ r k. refl) c.args.runs.items gs c.in-Ok.back c.requires.fits entries) c.runs_of.result c.runs_of.ensures
