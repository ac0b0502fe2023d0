-- The files of a request, and what is handed on.
use Rattle.std.proofs.Common.{◌≡◌, ◌≤◌, ◌<◌, ◌∙◌, ℕ, Bool, List, [], ◌∷◌, length, Result, refl, subst, ap, arith}
use Rattle.std.specs.Prelude.{IsErrAnd}
use Rattle.std.specs.List.{AllByRecursion}
use Rattle.std.proofs.lemmas.List.{length-map}
use Rattle.gt_core.specs.Task.{Task}
use Rattle.horizon_rates.specs.declared.settings.Settings.{Settings}
use Rattle.pd_model.specs.declared.parts.Parts.{Parts}
use Rattle.requests.specs.Seen.{Seen}
use Rattle.plan_tasks.specs.Limits.{most_of, AreShort}
use Rattle.commands.specs.Files.{third_of, file_at}
use Rattle.grounding_defs.specs.Grounded.{Grounded, IsGrounded}
use Rattle.race_outcome.specs.declared.end.RaceEnd.{RaceEnd}
use Rattle.race_outcome.specs.declared.end.RaceEnd.TheVariants as races
use Rattle.race_outcome.specs.Ends.{EndView, end_view}
use Rattle.race.specs.Ends.{WherePlanned, AreActions}
use Rattle.plan_report.specs.Laws.{HasActionsBelow}
use Rattle.plan_endings.specs.declared.stop.Stop.{Stop}
use Rattle.plan_endings.specs.declared.ending.Ending.{Ending}
use Rattle.plan_endings.specs.Ends.{EndsBy, EndsAs}
use Rattle.commands.specs.Tasks.{AreTask, IsReady, StopsTask, RefusesTask, OnceRead, not_read, OnceGrounded, not_grounded, grounded}
use Rattle.commands.specs.Raced.{OnceRaced, too_large, TellsTooLarge}
use Rattle.plan_endings.proofs.published.Stopped.{EndsAs-handed}

-- ---- lists of so many files

-- where there are two files there is no third one
pub no_third : (domain problem : List ℕ) (others : List (List ℕ)) → length (domain ∷ problem ∷ others) ≡ 2 → others ≡ []
no_third domain problem [] two = refl
no_third domain problem (other ∷ others) two = absurd (omega arith)

-- the third of three files has no more bytes than it may have
pub third_fits : (asked request : Seen) (domain problem : List ℕ) (others : List (List ℕ)) (third : List ℕ) → asked ≡ request → others ≡ third ∷ [] → AreShort (file_at asked) 0 (domain ∷ problem ∷ others) → length third ≤ most_of (third_of request)
third_fits asked request domain problem others third same is fit =
    let here = subst (λ (r : Seen). AreShort (file_at r) 0 (domain ∷ problem ∷ others)) same fit in
    let it = subst (λ (xs : List (List ℕ)). AreShort (file_at request) 2 xs) is here.1.1 in
    it.0

-- ---- what is handed on

pub refused_handed :
    (domain problem : List ℕ) (answers : Parts → Ending → Type 0) (stop : Stop) (r : Result Ending Stop) → IsErrAnd r (λ told. told ≡ stop) → EndsBy (RefusesTask domain problem) stop
    → EndsAs (OnceRead domain problem answers) r
refused_handed domain problem answers stop r handed h = EndsAs-handed (RefusesTask domain problem) (OnceRead domain problem answers) (λ end k. not_read k) stop r handed h

pub stop_handed :
    (domain problem : List ℕ) (answers : Parts → Grounded → Ending → Type 0) (stop : Stop) (r : Result Ending Stop) → IsErrAnd r (λ told. told ≡ stop) → EndsBy (StopsTask domain problem) stop
    → EndsAs (OnceGrounded domain problem answers) r
stop_handed domain problem answers stop r handed h = EndsAs-handed (StopsTask domain problem) (OnceGrounded domain problem answers) (λ end k. not_grounded k) stop r handed h

module _ (places : Task → List (List ℕ) → List (List ℕ × ℕ)) (is_plan : Task → List ℕ → (ℕ → ℕ → Bool) → ℕ → Type 0) where
  pub race_handed :
      (domain problem : List ℕ) (task : Parts) (g : Grounded) → AreTask domain problem task → IsReady task g → (settings : Settings) (is_known : EndView → Type 0) (text : Parts → Grounded → EndView → List ℕ) (stop : Stop) (r : Result Ending Stop)
      → IsErrAnd r (λ told. told ≡ stop) → EndsBy (TellsTooLarge places g.task settings) stop
      → EndsAs (OnceGrounded domain problem (λ task g. OnceRaced places is_plan g.task settings is_known (text task g))) r
  race_handed domain problem task g are ready settings is_known text stop r handed h =
      EndsAs-handed (TellsTooLarge places g.task settings) (OnceGrounded domain problem (λ p o. OnceRaced places is_plan o.task settings is_known (text p o))) (λ end k. grounded task g are ready (too_large k)) stop r handed h

-- ---- what the report of a race asks for

pub actions_below : (task : Parts) (g : Grounded) → IsGrounded task g → (race : RaceEnd) → WherePlanned race (λ h steps. AreActions g.task steps) → HasActionsBelow (length g.calls) (end_view race)
actions_below task g is (races.Plan horizon steps lines) members =
    let long : length g.task.actions ≡ length g.calls = ap (λ (t : Task). length t.actions) is.task ∙ length-map g.calls _ in
    subst (λ (n : ℕ). AllByRecursion (λ (set : List ℕ). AllByRecursion (λ (a : ℕ). a < n) set) steps) long members
actions_below task g is (races.Exhausted horizon lines) members = tt
actions_below task g is (races.Unfinished lines) members = tt
