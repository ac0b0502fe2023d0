-- The race on a ground task.
use Rattle.std.specs.Prelude.{◌≡◌, ℕ, List, Bool}
use Rattle.clause_base.specs.Formula.{assignment_of}
use Rattle.gt_core.specs.Task.{Task}
use Rattle.gt_core.specs.Published.{order_of}
use Rattle.gt_core.specs.Reached.{HoldsWherever}
use Rattle.step_laws.specs.Form.{OrderedTask, AreSets, steps_at}
use Rattle.step_encoding.specs.Numbers.{literals_of}
use Rattle.horizon_rates.specs.declared.settings.Settings.{Settings}
use Rattle.race_outcome.specs.declared.end.RaceEnd.{RaceEnd}
use Rattle.race_outcome.specs.Ends.{EndView, Planned, Exhausted, Unfinished, end_view, lines_of}
use Rattle.race.specs.Input.{RaceInput}
use Rattle.race.specs.Race as stage
use Rattle.race.specs.Lines.{AreLines, EachRefuted}
use Rattle.race.specs.Ends.{WherePlanned, AreStepsOf, AreActions, SumsWithin}
use Rattle.commands.specs.Known.{IsOrdered, form_of, choice_at, formula_at}
use Rattle.commands.specs.declared.raced.Known.{Known}
use Rattle.plan_endings.specs.declared.ending.Outcome.{Outcome}
use Rattle.plan_endings.specs.declared.ending.Outcome.TheVariants as outcomes
use Rattle.plan_endings.specs.declared.ending.Ending.{Ending}
use Rattle.plan_endings.specs.declared.ending.Ending.TheVariants.{Report, TooLarge}

-- what is known of a task: the greatest set of clauses of one or two literals, which hold wherever the task may go, and the published
-- order of its actions under them
pub record IsKnown (task : Task) (known : Known) : Type 0 where
  pub facts : known.pairs.facts ≡ task.facts
  pub hold : HoldsWherever task known.pairs.clauses
  pub ordered : IsOrdered task known.pairs.clauses known.order

-- how an end is told
abbrev pub outcome_of : EndView → Outcome
outcome_of (Planned horizon steps lines) = outcomes.Planned
outcome_of (Exhausted horizon lines) = outcomes.Exhausted
outcome_of (Unfinished lines) = outcomes.Unfinished

-- where the chains of the formulas go
module _ (places : Task → List (List ℕ) → List (List ℕ × ℕ)) where
  -- what the race on it is run on: the formulas of its steps, and the sets of true actions of their assignments
  abbrev pub input_of : OrderedTask → Settings → RaceInput
  input_of form settings = record {
    rates = settings.rates;
    budget = settings.budget;
    choose = choice_at places form;
    formula = formula_at places form;
    steps = λ h values. steps_at form (places form.task form.components) h (assignment_of values);
  }

  -- the formula of a horizon is too large, when its turn comes
  pub record IsTooLarge (task : Task) (settings : Settings) (horizon : ℕ) (count : ℕ) : Type 0 where
    pub clauses : List (ℕ × ℕ)
    pub components : List (List ℕ)
    pub ordered : IsOrdered task clauses components
    pub ended : stage.race_of (input_of (form_of task clauses components) settings) ≡ stage.TooLarge horizon
    pub count_is : count ≡ literals_of (formula_at places (form_of task clauses components) horizon)

  -- an ending that tells so
  abbrev pub TellsTooLarge : Task → Settings → Ending → Type 0
  TellsTooLarge task settings end = (horizon : ℕ) × (count : ℕ) × (end ≡ TooLarge horizon count) × IsTooLarge task settings horizon count

-- where they go, and which sets are plans
module _ (places : Task → List (List ℕ) → List (List ℕ × ℕ)) (is_plan : Task → List ℕ → (ℕ → ℕ → Bool) → ℕ → Type 0) where
  -- lists of actions are a plan of a task
  abbrev pub ArePlan : OrderedTask → ℕ → List (List ℕ) → Type 0
  ArePlan form n steps = AreSets is_plan form.task (order_of form.components) steps n

  -- a race on a task comes to this end, and what the end says is so
  pub record ComesTo (task : Task) (settings : Settings) (race : RaceEnd) : Type 0 where
    pub clauses : List (ℕ × ℕ)
    pub components : List (List ℕ)
    pub ordered : IsOrdered task clauses components
    pub ended : stage.race_of (input_of places (form_of task clauses components) settings) ≡ stage.Ended (end_view race)
    pub lines : AreLines (input_of places (form_of task clauses components) settings) (lines_of race)
    pub refuted : EachRefuted (λ h. (steps : List (List ℕ)) → ArePlan (form_of task clauses components) h steps → ⊥) (lines_of race)
    pub plan : WherePlanned race (ArePlan (form_of task clauses components))
    pub steps : WherePlanned race (AreStepsOf (input_of places (form_of task clauses components) settings))
    pub members : WherePlanned race (λ h steps. AreActions task steps)
    pub sums : SumsWithin settings.budget race

  -- What a race on a task comes to: it ends with a formula that is too large, of which the ending tells, or it has an end, of which this
  -- is known, and the ending is its report, with this text.
  pub data OnceRaced (task : Task) (settings : Settings) (is_known : EndView → Type 0) (text : EndView → List ℕ) (end : Ending) : Type 0 where
    too_large : TellsTooLarge places task settings end → OnceRaced task settings is_known text end
    ended : (race : RaceEnd) → ComesTo task settings race → is_known (end_view race) → end ≡ Report (outcome_of (end_view race)) (text (end_view race))
        → OnceRaced task settings is_known text end
