use Rattle.std.proofs.Common.{◌≡◌, take}
use Rattle.std.specs.List.{flat_map}
use Rattle.pd_model.specs.State.{SameState}
use Rattle.pd_model.specs.Exec.{active, of_sign}
use Rattle.pd_model.proofs.exec.active_atoms.Given as goal

abbrev pub invariant-loop-effect : goal.invariant-loop-effect
invariant-loop-effect l = (l.tuple.items ≡ l.objects) × SameState l.atoms (flat_map (active l.p l.state l.objects) (of_sign l.sign (take l.effect-index l.effects)))
