use Rattle.std.proofs.Common.{sym, subst, ◌∙◌}
use Rattle.std.specs.List.{AllZip}
use Rattle.poll_batch.specs.View.{Gives}
use Rattle.poll_batch.specs.Batch.{IsKeptOf, KeptGives}
use Rattle.poll_batch.proofs.published.Whole.{anew}
use Rattle.poll_run.proofs.published.Slots.{zip-then}
use Rattle.poll_batch.proofs.batch.batch_race.Goals as goal

pub returns-in-Err-Driver-clause-ends : goal.returns-in-Err-Driver-clause-ends
returns-in-Err-Driver-clause-ends g c =
    let kept = c.in_ok-kept.kept.items in
    let races = c.as_slice.ensures.value ∙ c.into_vec-races.ensures in
    let of_races = subst (λ xs. AllZip (IsKeptOf g.F.StepForm) xs kept) races c.in_ok-kept.ensures.of in
    let anew_gave = subst (λ xs. AllZip (KeptGives g.F.StepForm) xs c.in_ok-run_anew-in-Err-Driver.field-0.items) c.as_slice-in-Err-Driver.ensures.value c.in_ok-run_anew-in-Err-Driver.ensures in
    subst (λ es. AllZip (Gives g.F.StepForm) c.args.races es) (sym c.of-in-Err-Driver.ensures)
    (zip-then (IsKeptOf g.F.StepForm) (KeptGives g.F.StepForm) (Gives g.F.StepForm) (anew g.F.StepForm) c.args.races kept c.in_ok-run_anew-in-Err-Driver.field-0.items of_races anew_gave)
