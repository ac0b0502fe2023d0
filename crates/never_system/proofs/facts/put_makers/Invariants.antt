use Rattle.std.proofs.Common.{◌≡◌, ◌++◌, drop}
use Rattle.never_system.specs.Blif.{maker_names}
use Rattle.never_system.proofs.facts.put_makers.Given as goal

abbrev pub invariant-loop-place : goal.invariant-loop-place
invariant-loop-place l = l.initial.text.items ++ maker_names l.lit l.act 0 l.effects ≡ l.text.items ++ maker_names l.lit l.act l.place (drop l.place l.effects)
