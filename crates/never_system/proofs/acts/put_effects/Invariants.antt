use Rattle.std.proofs.Common.{◌≡◌, ◌++◌, drop}
use Rattle.never_system.specs.Blif.{effect_tables}
use Rattle.never_system.proofs.acts.put_effects.Given as goal

abbrev pub invariant-loop-place : goal.invariant-loop-place
invariant-loop-place l = l.initial.text.items ++ effect_tables l.act 0 l.effects ≡ l.text.items ++ effect_tables l.act l.place (drop l.place l.effects)
