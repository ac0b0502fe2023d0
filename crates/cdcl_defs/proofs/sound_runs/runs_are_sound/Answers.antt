use Rattle.cdcl_defs.proofs.published.Start.{start_sound}
use Rattle.cdcl_defs.proofs.published.Fuel.{sound_after, after_is}
use Rattle.cdcl_defs.proofs.published.Cuts.{adds_up, settled_stays, after_within, quiet_short, log_short}
use Rattle.cdcl_defs.proofs.published.Stops.{grants, rests_always}
use Rattle.cdcl_defs.proofs.sound_runs.runs_are_sound.Goals as goal

pub returns-clause-start : goal.returns-clause-start
returns-clause-start c = start_sound

pub returns-clause-sound : goal.returns-clause-sound
returns-clause-sound c = sound_after

pub returns-clause-only : goal.returns-clause-only
returns-clause-only c = after_is

pub returns-clause-adds_up : goal.returns-clause-adds_up
returns-clause-adds_up c = adds_up

pub returns-clause-short : goal.returns-clause-short
returns-clause-short c = quiet_short

pub returns-clause-settled : goal.returns-clause-settled
returns-clause-settled c = settled_stays

pub returns-clause-within : goal.returns-clause-within
returns-clause-within c = after_within

pub returns-clause-rests : goal.returns-clause-rests
returns-clause-rests c = rests_always

pub returns-clause-grants : goal.returns-clause-grants
returns-clause-grants c = grants

pub returns-clause-short_log : goal.returns-clause-short_log
returns-clause-short_log c = log_short
