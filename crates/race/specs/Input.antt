-- What a race is run on. Workers and slices are no part of it.
use Rattle.std.specs.Prelude.{ℕ, List, Bool, Option}
use Rattle.clause_base.specs.Choice.{Known}
use Rattle.clause_base.specs.Formula.{Cnf}
use Rattle.step_encoding.specs.declared.form.StepForm.{Ghosts}
use Rattle.horizon_rates.specs.declared.rates.Rates.{Rates}
use Rattle.horizon_rates.specs.declared.settings.Settings.{Settings}
use Rattle.horizon_run.specs.Run.{choice_of}

-- rates and budget, and for each horizon the choice by which its solver decides, its formula, and the steps that values of the
-- formula's variables stand for
pub record RaceInput : Type 0 where
  pub rates : Rates
  pub budget : ℕ
  pub choose : ℕ → Known → Option ℕ
  pub formula : ℕ → Cnf
  pub steps : ℕ → List Bool → List (List ℕ)

module _ {F : Type 0} (g : Ghosts F) where
  -- the input of a race over a form of a task
  abbrev pub input_of : F → Settings → RaceInput
  input_of form settings = record {
    rates = settings.rates;
    budget = settings.budget;
    choose = λ h. choice_of (g.task form) (g.layout_of form h);
    formula = g.formula_of form;
    steps = g.stands_for form;
  }
