-- What a race over the form of a task comes to.
use Rattle.std.proofs.Common.{◌≡◌, ℕ, List, Bool, subst}
use Rattle.gt_core.specs.Task.{Task}
use Rattle.step_laws.specs.Form.{OrderedTask}
use Rattle.horizon_rates.specs.declared.settings.Settings.{Settings}
use Rattle.step_encoding.specs.Numbers.{literals_of}
use Rattle.race_outcome.specs.declared.end.RaceEnd.{RaceEnd}
use Rattle.race_outcome.specs.Ends.{end_view, lines_of}
use Rattle.race.specs.Race as stage
use Rattle.race.specs.Lines.{AreLines, EachRefuted}
use Rattle.race.specs.Ends.{WherePlanned, AreActions, AreStepsOf, SumsWithin}
use Rattle.commands.specs.Known.{form_of, formula_at}
use Rattle.commands.specs.Raced.{input_of, ArePlan, ComesTo, IsKnown, IsTooLarge}
use Rattle.commands.specs.declared.raced.Known.{Known}

module _ (places : Task → List (List ℕ) → List (List ℕ × ℕ)) (is_plan : Task → List ℕ → (ℕ → ℕ → Bool) → ℕ → Type 0) (task : Task) (known : Known) (so : IsKnown task known) (form : OrderedTask)
    (same : form ≡ form_of task known.pairs.clauses known.order) (settings : Settings) where
  -- what an end says of the form of a task, it says of the task
  pub comes_to : (end : RaceEnd) → stage.race_of (input_of places form settings) ≡ stage.Ended (end_view end) → AreLines (input_of places form settings) (lines_of end)
      → EachRefuted (λ h. (steps : List (List ℕ)) → ArePlan places is_plan form h steps → ⊥) (lines_of end) → WherePlanned end (ArePlan places is_plan form) → WherePlanned end (AreStepsOf (input_of places form settings))
      → WherePlanned end (λ h steps. AreActions task steps) → SumsWithin settings.budget end → ComesTo places is_plan task settings end
  comes_to end gives lines refuted plan steps members sums = record {
    clauses = known.pairs.clauses;
    components = known.order;
    ordered = so.ordered;
    ended = subst (λ (f : OrderedTask). stage.race_of (input_of places f settings) ≡ stage.Ended (end_view end)) same gives;
    lines = subst (λ (f : OrderedTask). AreLines (input_of places f settings) (lines_of end)) same lines;
    refuted = subst (λ (f : OrderedTask). EachRefuted (λ h. (steps : List (List ℕ)) → ArePlan places is_plan f h steps → ⊥) (lines_of end)) same refuted;
    plan = subst (λ (f : OrderedTask). WherePlanned end (ArePlan places is_plan f)) same plan;
    steps = subst (λ (f : OrderedTask). WherePlanned end (AreStepsOf (input_of places f settings))) same steps;
    members = members;
    sums = sums;
  }

  pub too_large_to : (horizon count : ℕ) → stage.race_of (input_of places form settings) ≡ stage.TooLarge horizon → count ≡ literals_of (formula_at places form horizon) → IsTooLarge places task settings horizon count
  too_large_to horizon count ended count_is = record {
    clauses = known.pairs.clauses;
    components = known.order;
    ordered = so.ordered;
    ended = subst (λ (f : OrderedTask). stage.race_of (input_of places f settings) ≡ stage.TooLarge horizon) same ended;
    count_is = subst (λ (f : OrderedTask). count ≡ literals_of (formula_at places f horizon)) same count_is;
  }
