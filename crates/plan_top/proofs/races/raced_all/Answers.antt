use Rattle.std.proofs.Common.{◌≡◌, ℕ, false, refl, sym, subst, arith}
use Rattle.poll_batch.specs.Batch.{IsOrder}
use Rattle.plan_top.specs.own.Parts.{IsRaceOf}
use Rattle.plan_top.proofs.Lists.{zip_length, zip_right}
use Rattle.plan_top.proofs.RaceEnds.{all_came}
use Rattle.plan_top.proofs.races.raced_all.Goals as goal

pub batch_race-requires-clause-few : goal.batch_race-requires-clause-few
batch_race-requires-clause-few g c κs within =
    let same = zip_length (IsRaceOf c.args.settings.now) c.args.runs.now c.in_ok-races.races.items c.in_ok-races.ensures.races in
    let few = c.requires.few in
    rw c.of.ensures (omega (arith, same, few))

pub batch_race-requires-clause-live : goal.batch_race-requires-clause-live
batch_race-requires-clause-live g c κs within =
    rw c.of.ensures (zip_right (IsRaceOf c.args.settings.now) (λ race. race.given ≡ false) (λ run race is. is.live) c.args.runs.now c.in_ok-races.races.items c.in_ok-races.ensures.races)

pub batch_race-requires-clause-turns : goal.batch_race-requires-clause-turns
batch_race-requires-clause-turns g c κs within =
    let same = zip_length (IsRaceOf c.args.settings.now) c.args.runs.now c.in_ok-races.races.items c.in_ok-races.ensures.races in
    rw (c.of.ensures, c.as_slice.ensures.value) (subst (λ (n : ℕ). IsOrder n c.in_ok-places.places.items) (sym same) c.in_ok-places.ensures.places)

pub returns-clause-came : goal.returns-clause-came
returns-clause-came g c =
    all_came _ (λ form settings. refl) refl (λ form. refl) c.args.settings.now c.args.runs.now c.in_ok-races.races.items c.in_ok-ends.ends c.in_ok-races.ensures.races (rw c.of.ensures at c.in_ok-ends.ensures.ends)
