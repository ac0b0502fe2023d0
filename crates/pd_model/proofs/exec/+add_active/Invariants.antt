use Rattle.std.proofs.Common.{◌≡◌, ◌++◌, ◌∷◌, length, take}
use Rattle.std.specs.List.{flat_map}
use Rattle.pd_model.specs.State.{SameState}
use Rattle.pd_model.specs.Exec.{active_at}
use Rattle.pd_model.specs.Fits.{tuples}
use Rattle.pd_model.proofs.exec.+add_active.Given as goal

abbrev pub decreases-add_active : goal.decreases-add_active
decreases-add_active l = length l.over.now

abbrev pub invariant-loop-o : goal.invariant-loop-o
invariant-loop-o l =
    (l.objects.items ≡ l.fn.objects.items)
    × SameState l.into (flat_map (λ o. flat_map (λ more. active_at l.state l.effect (l.fn.objects.items ++ o ∷ more)) (tuples l.p l.rest)) (take l.o-index l.o-items) ++ l.fn.into)
