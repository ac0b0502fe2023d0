-- What an ending says that stops no run, and the report of a race.
use Rattle.std.proofs.Common.{◌≡◌, ◌≤◌, ◌+◌, ℕ, true, List, [], ◌∷◌, refl, sym, ap, subst, ◌∙◌, arith, inl, inr}
use Rattle.std.specs.Prelude.{IsTrue}
use Rattle.pl_io.specs.Outside.{Heard}
use Rattle.report_lines.specs.Horizons.{Says, is_word}
use Rattle.horizon_rates.specs.declared.settings.Settings.{Settings}
use Rattle.pd_model.specs.declared.parts.Parts.{Parts}
use Rattle.plan_endings.specs.declared.ending.File.{File}
use Rattle.pd_plan.specs.Fault as plan
use Rattle.grounding_defs.specs.Grounded.{Grounded}
use Rattle.race_outcome.specs.declared.end.RaceEnd.{RaceEnd}
use Rattle.race_outcome.specs.declared.end.RaceEnd.TheVariants as races
use Rattle.race_outcome.specs.Ends.{end_view, lines_in}
use Rattle.plan_report.specs.Report.{report_of}
use Rattle.plan_report.specs.Laws.{IsSmall as IsSmallReport, HasCalls, Tells}
use Rattle.requests.specs.Seen.{numbers}
use Rattle.requests.specs.declared.request.Stepping.{Stepping}
use Rattle.plan_endings.specs.declared.ending.Ending.{Ending}
use Rattle.plan_endings.specs.declared.ending.Ending.TheVariants.{Report}
use Rattle.plan_tasks.specs.Files.{StopsFrom}
use Rattle.commands.specs.Stepping.{places_by, is_plan_by}
use Rattle.commands.specs.Tasks.{AreTask, RefusesTask, IsReady, StopsTask, refused, past, OnceGrounded, not_grounded, grounded}
use Rattle.commands.specs.Raced.{ComesTo, too_large, ended, outcome_of}
use Rattle.commands.specs.Answers.{AnswersPlan, refusal_of_plan}
use Rattle.requests.specs.declared.request.Stepping.TheVariants.{All}
use Rattle.plan_endings.specs.Ending.{status_of, status_of_race, text_of}
use Rattle.plan_top.specs.Headline.{PlanRuns, EveryOrderRuns, TellsExhausted, SpendsAll}
use Rattle.plan_top.specs.Laws.{Laws}
use Rattle.plan_top.proofs.published.Claims as claims
use Rattle.plan_top.proofs.published.EveryOrder.{every_order}
use Rattle.plan_top.proofs.Told.{task_refusal}
use Rattle.plan_top.proofs.Reports.{is_stop, stop_status}

-- ---- endings that stop a run

pub not_low : {A : Type 0} (end : Ending) → is_stop end ≡ true → status_of end ≤ 2 → A
not_low end stop low = let high = stop_status end stop in absurd (omega (arith, high, low))

pub refused_stops : (domain problem : List ℕ) (end : Ending) → RefusesTask domain problem end → is_stop end ≡ true
refused_stops domain problem end r = ap is_stop (task_refusal domain problem end r).3

pub fault_stops : (f : plan.Fault) → is_stop (refusal_of_plan f) ≡ true
fault_stops (plan.syntax at) = refl
fault_stops (plan.unknown at) = refl
fault_stops (plan.arity at) = refl
fault_stops (plan.mistyped at) = refl

pub files_stop : (old new : List (List ℕ)) (file : ℕ → File) (place : ℕ) (names : List (List ℕ)) (took : List Heard) (end : Ending) → StopsFrom old new file place names took end → is_stop end ≡ true
files_stop old new file place [] took end h = absurd h
files_stop old new file place (name ∷ names) [] end (inl fault) = ap is_stop fault.0
files_stop old new file place (name ∷ names) [] end (inr long) = ap is_stop long.0
files_stop old new file place (name ∷ names) (e ∷ es) end (inl (inl fault)) = ap is_stop fault.0
files_stop old new file place (name ∷ names) (e ∷ es) end (inl (inr long)) = ap is_stop long.0
files_stop old new file place (name ∷ names) (e ∷ es) end (inr after) = files_stop old new file (place + 1) names es end after.1

pub task_stops : (domain problem : List ℕ) (end : Ending) → StopsTask domain problem end → is_stop end ≡ true
task_stops domain problem end (refused r) = refused_stops domain problem end r
task_stops domain problem end (past task are over) = ap is_stop over.2

-- two files that do not stop the run are a task of which the ending tells
pub goes_on : (domain problem : List ℕ) (answers : Parts → Grounded → Ending → Type 0) (end : Ending) → (is_stop end ≡ true → ⊥) → OnceGrounded domain problem answers end
    → (task : Parts) × (g : Grounded) × AreTask domain problem task × IsReady task g × answers task g end
goes_on domain problem answers end on (not_grounded s) = absurd (on (task_stops domain problem end s))
goes_on domain problem answers end on (grounded task g are ready h) = (task, g, are, ready, h)

-- ---- the report of a race

-- a race on two files came to an end, of which the ending is the report
pub record Raced (how : Stepping) (settings : Settings) (domain problem : List ℕ) (end : Ending) : Type 0 where
  pub task : Parts
  pub g : Grounded
  pub are : AreTask domain problem task
  pub ready : IsReady task g
  pub race : RaceEnd
  pub comes : ComesTo (places_by how) (is_plan_by how) g.task settings race
  pub small : IsSmallReport settings.budget (end_view race)
  pub told : end ≡ Report (outcome_of (end_view race)) (report_of task g settings.budget (end_view race))

pub raced : (how : Stepping) (settings : Settings) (domain problem : List ℕ) (end : Ending) → (is_stop end ≡ true → ⊥) → OnceGrounded domain problem (AnswersPlan how settings) end → Raced how settings domain problem end
raced how settings domain problem end on h = let r = goes_on domain problem (AnswersPlan how settings) end on h in step r.0 r.1 r.2 r.3 r.4
  where
    step : (task : Parts) (g : Grounded) → AreTask domain problem task → IsReady task g → AnswersPlan how settings task g end → Raced how settings domain problem end
    step task g are ready (too_large over) = absurd (on (ap is_stop over.2))
    step task g are ready (ended race comes small told) = record { task = task; g = g; are = are; ready = ready; race = race; comes = comes; small = small; told = told }

module _ (laws : Laws) (how : Stepping) (settings : Settings) (domain problem : List ℕ) (end : Ending) (r : Raced how settings domain problem end) where
  -- a report of status 0 is that of a plan, and one of status 2 that the budget is spent
  pub plan_of : status_of end ≡ 0 → PlanRuns how (text_of end) r.task
  plan_of zero = subst (λ (e : Ending). PlanRuns how (text_of e) r.task) (sym r.told) (step r.race r.comes r.small (sym (ap status_of r.told) ∙ zero))
    where
      step : (race : RaceEnd) → ComesTo (places_by how) (is_plan_by how) r.g.task settings race → IsSmallReport settings.budget (end_view race) → status_of_race (outcome_of (end_view race)) ≡ 0
          → PlanRuns how (report_of r.task r.g settings.budget (end_view race)) r.task
      step (races.Plan horizon steps lines) comes small zero = claims.plan_runs laws how settings r.task r.g r.ready horizon steps lines comes small
      step (races.Exhausted horizon lines) comes small zero = absurd (omega arith)
      step (races.Unfinished lines) comes small zero = absurd (omega arith)

  -- of a plan in all-steps, the calls run in every order
  pub orders_of : how ≡ All → status_of end ≡ 0 → EveryOrderRuns (text_of end) r.task
  orders_of all zero = subst (λ (e : Ending). EveryOrderRuns (text_of e) r.task) (sym r.told) (step r.race (subst (λ (h : Stepping). ComesTo (places_by h) (is_plan_by h) r.g.task settings r.race) all r.comes) r.small (sym (ap status_of r.told) ∙ zero))
    where
      step : (race : RaceEnd) → ComesTo (places_by All) (is_plan_by All) r.g.task settings race → IsSmallReport settings.budget (end_view race) → status_of_race (outcome_of (end_view race)) ≡ 0
          → EveryOrderRuns (report_of r.task r.g settings.budget (end_view race)) r.task
      step (races.Plan horizon steps lines) comes small zero = every_order laws settings r.task r.g r.ready horizon steps lines comes small
      step (races.Exhausted horizon lines) comes small zero = absurd (omega arith)
      step (races.Unfinished lines) comes small zero = absurd (omega arith)

  pub spent_of : status_of end ≡ 2 → SpendsAll (text_of end) settings.budget
  spent_of two = subst (λ (e : Ending). SpendsAll (text_of e) settings.budget) (sym r.told) (step r.race r.comes r.small (sym (ap status_of r.told) ∙ two))
    where
      step : (race : RaceEnd) → ComesTo (places_by how) (is_plan_by how) r.g.task settings race → IsSmallReport settings.budget (end_view race) → status_of_race (outcome_of (end_view race)) ≡ 2
          → SpendsAll (report_of r.task r.g settings.budget (end_view race)) settings.budget
      step (races.Plan horizon steps lines) comes small two = absurd (omega arith)
      step (races.Exhausted horizon lines) comes small two = absurd (omega arith)
      step (races.Unfinished lines) comes small two = claims.spends_all laws how settings r.task r.g r.ready lines comes small

  -- one of status 1 that the last horizon is refuted
  pub exhausted_of : status_of end ≡ 1 → TellsExhausted (text_of end) (numbers settings)
  exhausted_of one = subst (λ (e : Ending). TellsExhausted (text_of e) (numbers settings)) (sym r.told) (step r.race r.comes r.small (sym (ap status_of r.told) ∙ one))
    where
      step : (race : RaceEnd) → ComesTo (places_by how) (is_plan_by how) r.g.task settings race → IsSmallReport settings.budget (end_view race) → status_of_race (outcome_of (end_view race)) ≡ 1
          → TellsExhausted (report_of r.task r.g settings.budget (end_view race)) (numbers settings)
      step (races.Plan horizon steps lines) comes small one = absurd (omega arith)
      step (races.Exhausted horizon lines) comes small one = claims.tells_exhausted laws how settings r.task r.g r.ready horizon lines comes small
      step (races.Unfinished lines) comes small one = absurd (omega arith)

  its_calls : HasCalls r.task r.g (end_view r.race)
  its_calls = step r.race r.comes
    where
      step : (race : RaceEnd) → ComesTo (places_by how) (is_plan_by how) r.g.task settings race → HasCalls r.task r.g (end_view race)
      step (races.Plan horizon steps lines) comes = claims.has_calls laws how settings r.task r.g r.ready horizon steps lines comes
      step (races.Exhausted horizon lines) comes = tt
      step (races.Unfinished lines) comes = tt

  -- what the report says of a horizon its end tells
  pub said_of : (horizon : ℕ) (word : List ℕ) (conflicts : ℕ) → IsTrue (is_word word) → Says (text_of end) horizon word conflicts → Tells (lines_in (end_view r.race)) horizon word conflicts
  said_of horizon word conflicts one says =
      laws.horizons r.task r.g settings.budget (end_view r.race) horizon word conflicts r.ready.well r.small its_calls one
      (subst (λ (e : Ending). Says (text_of e) horizon word conflicts) r.told says)
