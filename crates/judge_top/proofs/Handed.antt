-- What is known of a call that ends the run is handed on.
use Rattle.std.proofs.Common.{◌≡◌, ℕ, List, Result, refl}
use Rattle.std.specs.Prelude.{IsErrAnd}
use Rattle.plan_endings.proofs.published.Stopped as stopped
use Rattle.plan_endings.specs.declared.ending.Ending.{Ending}
use Rattle.plan_endings.specs.declared.stop.Stop.{Stop}
use Rattle.plan_endings.specs.Ends.{EndsBy}
use Rattle.judge_top.specs.declared.ended.Ended.{Ended}
use Rattle.judge_top.specs.declared.ended.Ended.TheVariants.{Plain}
use Rattle.grounding_defs.specs.Grounded.{Grounded}
use Rattle.pd_model.specs.declared.parts.Parts.{Parts}
use Rattle.plan_tasks.specs.Tasks.{AreTask, IsReady, StopsTask}
use Rattle.judge_top.specs.Answers.{EndsWith, OnceReady, not_ready, ready}

pub weaker : (claim other : Ended → Type 0) → ((end : Ended) → claim end → other end) → (r : Result Ended Stop) → EndsWith claim r → EndsWith other r
weaker claim other more r h = stopped.weaker Plain claim other more r h

-- a stop that is handed on as it is
pub handed : (claim : Ending → Type 0) (other : Ended → Type 0) → ((end : Ending) → claim end → other (Plain end)) → (stop : Stop) (r : Result Ended Stop) → IsErrAnd r (λ told. told ≡ stop) → EndsBy claim stop → EndsWith other r
handed claim other more stop r is h = stopped.handed Plain claim other more stop r is h

-- so are what refuses the files, and what ends the run once they are a task
pub files_handed : (domain problem : List ℕ) (answers : Parts → Grounded → Ended → Type 0) (stop : Stop) (r : Result Ended Stop)
    → IsErrAnd r (λ told. told ≡ stop) → EndsBy (StopsTask domain problem) stop → EndsWith (OnceReady domain problem answers) r
files_handed domain problem answers = handed (StopsTask domain problem) (OnceReady domain problem answers) (λ end h. not_ready end h refl)

pub task_handed : (domain problem : List ℕ) (answers : Parts → Grounded → Ended → Type 0) (task : Parts) (g : Grounded) → AreTask domain problem task → IsReady task g
    → (claim : Ending → Type 0) → ((end : Ending) → claim end → answers task g (Plain end)) → (stop : Stop) (r : Result Ended Stop)
    → IsErrAnd r (λ told. told ≡ stop) → EndsBy claim stop → EndsWith (OnceReady domain problem answers) r
task_handed domain problem answers task g are is claim more = handed claim (OnceReady domain problem answers) (λ end h. ready task g are is (more end h))
