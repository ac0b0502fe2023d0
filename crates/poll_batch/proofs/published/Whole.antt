-- A race that is run anew comes to what its future may give.
use Rattle.std.proofs.Common.{◌≡◌, ℕ, ◌+◌, ◌<◌, List, [], ◌∷◌, ◌++◌, take, add-one, length, slice_index_or, Result, Ok, Err, IfOk, refl, sym, subst}
use Rattle.std.specs.List.{AllByRecursion, AllZip}
use Rattle.gt_core.specs.Task.{Task}
use Rattle.horizon_rates.specs.declared.settings.Settings.{Settings}
use Rattle.step_encoding.specs.declared.form.StepForm.{Ghosts}
use Rattle.step_encoding.specs.Limits.{planner_literals}
use Rattle.step_encoding.specs.Numbers.{literals_of}
use Rattle.race_outcome.specs.declared.end.RaceEnd.{RaceEnd}
use Rattle.race_outcome.specs.Ends.{end_view, lines_of}
use Rattle.race.specs.declared.error.RaceError.{RaceError}
use Rattle.race.specs.declared.error.RaceError.TheVariants.{Literals, Memory}
use Rattle.race.specs.Begun.{Gives}
use Rattle.race.specs.Ends.{AreStepsOf, SumsWithin, WherePlanned, AreActions}
use Rattle.race.specs.Input.{input_of}
use Rattle.race.specs.Lines.{AreLines, EachRefuted}
use Rattle.race.specs.Race.{race_of, Ended, TooLarge}
use Rattle.poll_batch.specs.View.{RaceView, Gives as MayGive}
use Rattle.race.proofs.published.Starts.{all-push}
use Rattle.poll_run.proofs.published.Slots.{all-read, zip-push}
use Rattle.poll_batch.specs.declared.anew.Kept.{Kept}
use Rattle.poll_batch.specs.Batch.{IsKeptOf, KeptGives}

-- what `race` ensures, as one
pub whole : {F : Type 0} (g : Ghosts F) (form : F) (settings : Settings) (task : Task) (r : Result RaceEnd RaceError) → g.task form ≡ task
    → IfOk r (λ end. race_of (input_of g form settings) ≡ Ended (end_view end))
    → IfOk r (λ end. AreLines (input_of g form settings) (lines_of end))
    → IfOk r (λ end. EachRefuted (λ h. (steps : List (List ℕ)) → g.is_plan form h steps → ⊥) (lines_of end))
    → IfOk r (λ end. SumsWithin settings.budget end)
    → IfOk r (λ end. WherePlanned end (AreStepsOf (input_of g form settings)))
    → IfOk r (λ end. WherePlanned end (g.is_plan form))
    → IfOk r (λ end. WherePlanned end (λ h steps. length steps ≡ h))
    → IfOk r (λ end. WherePlanned end (λ h steps. AreActions task steps))
    → ((h n : ℕ) → r ≡ Err (Literals h n) → (race_of (input_of g form settings) ≡ TooLarge h) × (n ≡ literals_of (g.formula_of form h)) × (planner_literals < n))
    → Gives g form settings r
whole g form settings task (Ok end) of gives lines refuted sums modelled plan long members literals =
    let of_form : WherePlanned end (λ h steps. AreActions (g.task form) steps) = subst (λ (t : Task). WherePlanned end (λ h steps. AreActions t steps)) (sym of) members in
    assumption (of_form)
whole g form settings task (Err (Literals h n)) of gives lines refuted sums modelled plan long members literals = literals h n refl
whole g form settings task (Err Memory) of gives lines refuted sums modelled plan long members literals = tt

pub anew : {F : Type 0} (g : Ghosts F) (race : RaceView F) (kept : Kept F) (end : Result RaceEnd RaceError) → IsKeptOf g race kept → KeptGives g kept end
    → MayGive g race end
anew g race kept end same gives =
    subst (λ (s : Settings). Gives g race.form s end) same.1 (subst (λ f. Gives g f kept.settings end) same.0 gives)

-- what holds of each holds of the one at a place
pub all-here : {X : Type 0} (P : X → Type 0) (xs : List X) (i : ℕ) (x : X) → AllByRecursion P xs → i < length xs → x ≡ slice_index_or xs i x → P x
all-here P xs i x a l e = subst P (sym e) (all-read P xs i x a l)

-- one more at the place come to, in a list that was pushed to
pub zip-pushed : {X Y : Type 0} (R : X → Y → Type 0) (xs : List X) (ys more : List Y) (i : ℕ) (x : X) (y : Y) → more ≡ ys ++ y ∷ [] → i < length xs
    → x ≡ slice_index_or xs i x → R x y → AllZip R (take i xs) ys → AllZip R (take (i + 1) xs) more
zip-pushed R xs ys more i x y is l e r z = subst (λ zs. AllZip R (take (i + 1) xs) zs) (sym is) (rw add-one (zip-push R xs ys i x y l e r z))

pub all-pushed : {X : Type 0} (P : X → Type 0) (xs more : List X) (x : X) → more ≡ xs ++ x ∷ [] → AllByRecursion P xs → P x → AllByRecursion P more
all-pushed P xs more x is a p = subst (AllByRecursion P) (sym is) (all-push P xs x a p)
