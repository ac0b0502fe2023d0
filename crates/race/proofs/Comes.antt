-- What a round that ended says of the whole race.
use Rattle.std.proofs.Common.{arith, ◌≡◌, ℕ, ◌+◌, ◌≤◌, List, length, refl, sym, ap, ◌∙◌, subst, Result, Ok, Err, IfOk}
use Rattle.containers.specs.declared.memory.Memory.{Memory}
use Rattle.horizon_rates.specs.declared.settings.Settings.{Settings}
use Rattle.horizon_rates.specs.Ledger.{Account}
use Rattle.step_encoding.specs.declared.form.StepForm.{Ghosts}
use Rattle.horizon_run.specs.Run.{RunView}
use Rattle.race_outcome.specs.declared.end.RaceEnd.{RaceEnd}
use Rattle.race_outcome.specs.Ends.{end_view, lines_of}
use Rattle.race.specs.declared.begun.Begun.{Begun}
use Rattle.race.specs.declared.racing.Step.{Step}
use Rattle.race.specs.declared.racing.Step.TheVariants.{On as OnStep, End as EndStep}
use Rattle.race.specs.Begun.{race_after, HasRun, Comes}
use Rattle.race.specs.Ends.{WherePlanned, AreActions, AreStepsOf}
use Rattle.race.specs.Grants.{advanced}
use Rattle.race.specs.Input.{RaceInput, input_of}
use Rattle.race.specs.Race.{Ended, judged, after_rounds}
use Rattle.race.specs.Tied.{race_state, Stands, SpendsMore, HasEnded}
use Rattle.race.proofs.published.Advances.{race-advanced}
use Rattle.race.proofs.Rounds.{after-next, ends-by}
use Rattle.race.proofs.Told.{each-refuted, planned}

-- the race once its runs are back is the one that was advanced
pub is-advanced : (input : RaceInput) (begun : Begun) (runs : List RunView) (h : HasRun input begun runs)
    → race_after begun runs ≡ advanced input (race_state h.began.racing)
is-advanced input begun runs h = ap (race_after begun) h.moved ∙ race-advanced input h.began.racing h.first h.gs begun h.began.tied h.began.out

-- one more round comes to what the round is judged to be
next-round : (input : RaceInput) (begun : Begun) (runs : List RunView) (h : HasRun input begun runs)
    → after_rounds input (begun.rounds + 1) ≡ judged input (race_after begun runs)
next-round input begun runs h =
    after-next input begun.rounds h.began.since h.began.after ∙ (h.began.comes ∙ ap (judged input) (sym (is-advanced input begun runs h)))

-- no more rounds ended than conflicts were spent
few-rounds : (input : RaceInput) (begun : Begun) (runs : List RunView) → HasRun input begun runs → begun.rounds ≤ input.budget
few-rounds input begun runs h =
    let few = h.began.few in
    let spent = ap (λ (a : Account). a.spent) h.began.out.ledger in
    let within = h.began.tied.within in
    omega (arith, few, spent, within)

module _ {F : Type 0} (g : Ghosts F) (form : F) (settings : Settings) (lawful : g.is_form form) (begun : Begun) (runs : List RunView)
    (h : HasRun (input_of g form settings) begun runs) where
  plan-is : (end : RaceEnd) → WherePlanned end (AreStepsOf (input_of g form settings)) → WherePlanned end (g.is_plan form)
  plan-is end modelled = planned (AreStepsOf (input_of g form settings)) (g.is_plan form)
      (λ n steps is. subst (g.is_plan form n) (sym is.2) (g.plans form n is.0 lawful is.1)) end modelled

  comes : (step : Step) → Stands (input_of g form settings) step (judged (input_of g form settings) (race_after begun runs))
      → SpendsMore begun.ledger.spent step → HasEnded (begun.rounds + 1) step → Comes g form settings (begun.rounds + 1) step
  comes (OnStep racing) s more n =
      let input = input_of g form settings in
      let few = h.began.few in (
        record {
          tied = s.tied;
          low = s.low;
          after = ap (after_rounds input) n ∙ (next-round input begun runs h ∙ s.on);
          few = omega (arith, few, more, n);
        },
        n,
      )
  comes (EndStep end) s more n =
      let input = input_of g form settings in
      let few = few-rounds input begun runs h in
      record {
        gives = ends-by input (begun.rounds + 1) (input.budget + 1) (Ended (end_view end)) (next-round input begun runs h ∙ s.told) refl (omega (arith, few));
        lines = s.lines;
        refuted = each-refuted input (λ n. (steps : List (List ℕ)) → g.is_plan form n steps → ⊥) (λ n none. g.refutes form n lawful none) (lines_of end) s.lines;
        sums = s.sums;
        modelled = s.modelled;
        plan = plan-is end s.modelled;
        long = planned (g.is_plan form) (λ n steps. length steps ≡ n) (g.long form) end (plan-is end s.modelled);
        members = planned (g.is_plan form) (λ n steps. AreActions (g.task form) steps) (g.members form) end (plan-is end s.modelled);
      }

  pub comes-if : (r : Result Step Memory) → IfOk r (λ step. Stands (input_of g form settings) step (judged (input_of g form settings) (race_after begun runs)))
      → IfOk r (SpendsMore begun.ledger.spent) → IfOk r (HasEnded (begun.rounds + 1)) → IfOk r (Comes g form settings (begun.rounds + 1))
  comes-if (Ok step) s more n = comes step s more n
  comes-if (Err e) s more n = tt
