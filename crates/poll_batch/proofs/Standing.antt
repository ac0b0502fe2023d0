-- A polled race stands as the definition says.
use Rattle.std.proofs.Common.{◌≡◌, false, true≢false, refl}
use Rattle.gt_core.specs.Task.{Task}
use Rattle.horizon_rates.specs.declared.settings.Settings.{Settings}
use Rattle.step_encoding.specs.declared.form.StepForm.{Ghosts}
use Rattle.race.specs.Input.{input_of}
use Rattle.race.specs.Tied.{race_state}
use Rattle.poll_batch.specs.declared.phase.Phase.{Phase}
use Rattle.poll_batch.specs.declared.phase.Phase.TheVariants.{Between, Within, Given}
use Rattle.poll_batch.specs.own.Tied.{IsTied, is_given, numbers_at, runs_at, spent_at, lines_at}
use Rattle.poll_batch.specs.View.{RaceView, Stands}

-- the race that is seen in a phase
abbrev pub view_of : {F : Type 0} → F → Settings → Task → Phase → RaceView F
view_of form settings task phase = record {
  task = task;
  form = form;
  settings = settings;
  stage = numbers_at phase;
  runs = runs_at phase;
  spent = spent_at phase;
  lines = lines_at phase;
  given = is_given phase;
}

pub standing : {F : Type 0} (g : Ghosts F) (form : F) (settings : Settings) (task : Task) (phase : Phase) → IsTied settings.slice (input_of g form settings) phase
    → is_given phase ≡ false → Stands g (view_of form settings task phase)
standing g form settings task (Between racing) tied live = record { state = race_state racing; after = tied.after; ledger = tied.tied.spent; closed = refl }
standing g form settings task (Within round) tied live =
    let began = tied.run.began in
    record { state = began.since; after = began.after; ledger = began.spent; closed = began.closed }
standing g form settings task Given tied live = absurd (true≢false live)
