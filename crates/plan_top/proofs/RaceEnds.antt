-- What the polled race of a run comes to.
use Rattle.std.proofs.Common.{◌≡◌, ◌∙◌, ℕ, List, Result, Ok, Err, ap, ap₂, subst}
use Rattle.std.specs.List.{AllZip}
use Rattle.gt_core.specs.Task.{Task}
use Rattle.step_laws.specs.Form.{OrderedTask}
use Rattle.horizon_rates.specs.declared.rates.Rates.{Rates}
use Rattle.horizon_rates.specs.declared.settings.Settings.{Settings}
use Rattle.gt_core.specs.Step.{IsStepPlan}
use Rattle.formula_defs.specs.Variables.{chain_places}
use Rattle.step_encoding.specs.Numbers.{literals_of}
use Rattle.step_encoding.specs.declared.form.StepForm.{Ghosts}
use Rattle.race_outcome.specs.declared.end.RaceEnd.{RaceEnd}
use Rattle.race_outcome.specs.Ends.{end_view, lines_of}
use Rattle.race.specs.Race as stage
use Rattle.race.specs.Input.{RaceInput, input_of as race_input}
use Rattle.race.specs.Begun.{IsEndOf}
use Rattle.race.specs.declared.error.RaceError.{RaceError}
use Rattle.race.specs.declared.error.RaceError.TheVariants as errors
use Rattle.poll_batch.specs.View.{RaceView, Gives}
use Rattle.race.specs.Lines.{AreLines, EachRefuted}
use Rattle.race.specs.Ends.{WherePlanned, AreActions, AreStepsOf, SumsWithin}
use Rattle.commands.specs.Raced.{input_of, ArePlan}
use Rattle.plan_top.specs.own.Parts.{IsRaceOf, CameTo}
use Rattle.plan_top.specs.declared.parts.Run.{Run}
use Rattle.plan_top.proofs.Lists.{zip_both}
use Rattle.commands.proofs.published.RaceEnds.{comes_to, too_large_to}

-- What the polled race of a run comes to, over a form with the input, the plans and the task of one of exists-steps.
module _ (g : Ghosts OrderedTask) (inputs : (form : OrderedTask) (settings : Settings) → race_input g form settings ≡ input_of chain_places form settings) (plans : g.is_plan ≡ ArePlan chain_places IsStepPlan)
    (tasks : (form : OrderedTask) → g.task form ≡ form.task) where
  module _ (settings : Settings) (run : Run) (race : RaceView OrderedTask) (is : IsRaceOf settings run race) where
    one_input : race_input g race.form race.settings ≡ input_of chain_places race.form settings
    one_input = inputs race.form race.settings ∙ ap₂ (λ (r : Rates) (b : ℕ). record (input_of chain_places race.form settings) { rates = r; budget = b }) is.rates is.budget

    its_task : g.task race.form ≡ run.ready.grounded.task
    its_task = tasks race.form ∙ ap (λ (f : OrderedTask). f.task) is.form.1

    came_end : (end : RaceEnd) → IsEndOf g race.form race.settings end → CameTo settings run (Ok end)
    came_end end e =
        comes_to chain_places IsStepPlan run.ready.grounded.task run.known is.form.0 race.form is.form.1 settings end (subst (λ (i : RaceInput). stage.race_of i ≡ stage.Ended (end_view end)) one_input e.gives)
        (subst (λ (i : RaceInput). AreLines i (lines_of end)) one_input e.lines)
        (subst (λ (p : OrderedTask → ℕ → List (List ℕ) → Type 0). EachRefuted (λ h. (steps : List (List ℕ)) → p race.form h steps → ⊥) (lines_of end)) plans e.refuted)
        (subst (λ (p : OrderedTask → ℕ → List (List ℕ) → Type 0). WherePlanned end (p race.form)) plans e.plan) (subst (λ (i : RaceInput). WherePlanned end (AreStepsOf i)) one_input e.modelled)
        (subst (λ (t : Task). WherePlanned end (λ h steps. AreActions t steps)) its_task e.members) (subst (λ (b : ℕ). SumsWithin b end) is.budget e.sums)

    came : (r : Result RaceEnd RaceError) → Gives g race r → CameTo settings run r
    came (Ok end) e = came_end end e
    came (Err (errors.Literals h n)) e =
        too_large_to chain_places IsStepPlan run.ready.grounded.task run.known is.form.0 race.form is.form.1 settings h n (subst (λ (i : RaceInput). stage.race_of i ≡ stage.TooLarge h) one_input e.0)
        (subst (λ (i : RaceInput). n ≡ literals_of (i.formula h)) one_input e.1)
    came (Err errors.Memory) e = tt

  pub all_came : (settings : Settings) (runs : List Run) (races : List (RaceView OrderedTask)) (ends : List (Result RaceEnd RaceError)) → AllZip (IsRaceOf settings) runs races → AllZip (Gives g) races ends
      → AllZip (CameTo settings) runs ends
  all_came settings runs races ends are give = zip_both (IsRaceOf settings) (CameTo settings) (Gives g) (λ run race r is e. came settings run race is r e) runs races ends are give
