-- What a generated task comes to.
use Rattle.std.specs.Prelude.{◌≡◌, ℕ, List, ◌++◌, codes, decimal}
use Rattle.horizon_rates.specs.declared.settings.Settings.{Settings}
use Rattle.plan_gen.specs.declared.Kind.{Kind}
use Rattle.plan_gen.specs.declared.Kind.TheVariants.{Corridor, Gripper}
use Rattle.plan_gen.specs.Task.{domain_of, problem_of}
use Rattle.race_outcome.specs.Ends.{EndView}
use Rattle.pd_model.specs.declared.parts.Parts.{Parts}
use Rattle.grounding_defs.specs.Grounded.{Grounded}
use Rattle.plan_report.specs.Report.{summary_of}
use Rattle.requests.specs.declared.request.Show.{Show}
use Rattle.requests.specs.declared.request.Show.TheVariants as shows
use Rattle.commands.specs.Tasks.{OnceGrounded}
use Rattle.gt_core.specs.Step.{IsStepPlan}
use Rattle.formula_defs.specs.Variables.{chain_places}
use Rattle.commands.specs.Raced.{OnceRaced}
use Rattle.plan_endings.specs.declared.ending.Ending.{Ending}
use Rattle.plan_endings.specs.declared.ending.Ending.TheVariants.{Listing}

-- the word for a kind of task
abbrev pub kind_text : Kind → List ℕ
kind_text Corridor = codes "corridor"
kind_text Gripper = codes "gripper"

-- the first line of the report on a generated task
abbrev pub generated_line : Kind → ℕ → List ℕ
generated_line kind number = codes "; generated " ++ (kind_text kind ++ (codes " " ++ (decimal number ++ codes "\n")))

-- the report on a race on the task: the first line, the conflicts, and how it ended
abbrev pub generated_report : Kind → ℕ → Settings → EndView → List ℕ
generated_report kind number settings race = generated_line kind number ++ summary_of settings.budget race

-- what a race on the task comes to, with its report
abbrev pub RacesGenerated : Kind → ℕ → Settings → Parts → Grounded → Ending → Type 0
RacesGenerated kind number settings task g end = OnceRaced chain_places IsStepPlan g.task settings (λ race. Unit {0}) (generated_report kind number settings) end

-- `gen`: the text that is shown, or what the race on the task of both comes to
abbrev pub AnswersGenerated : Kind → ℕ → Settings → Show → Ending → Type 0
AnswersGenerated kind number settings shows.Domain end = end ≡ Listing (domain_of kind)
AnswersGenerated kind number settings shows.Problem end = end ≡ Listing (problem_of kind number)
AnswersGenerated kind number settings shows.None end =
    OnceGrounded (domain_of kind) (problem_of kind number) (RacesGenerated kind number settings) end
