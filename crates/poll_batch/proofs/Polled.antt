-- What one poll makes of the run at hand.
use Rattle.std.proofs.Common.{◌≡◌, ℕ, List, [], ◌∷◌, ◌++◌, Option, Some, None, append_assoc, refl, sym, ap, ◌∙◌, subst}
use Rattle.std.specs.Option.{IsSomeAnd}
use Rattle.horizon_run.specs.Run.{RunView, moved_to}
use Rattle.horizon_run.specs.contracts.turns.StartedResume.TheImpl.{ghosts}
use Rattle.poll_run.specs.Polls.{IsSame, GoesNext}
use Rattle.race.specs.declared.begun.Begun.{Begun}
use Rattle.race.specs.Begun.{HasRun}
use Rattle.race.specs.Input.{RaceInput}
use Rattle.poll_batch.specs.declared.work.Work.{Work}
use Rattle.poll_batch.specs.own.Works.{at_targets}
use Rattle.poll_batch.proofs.Lists.{targets-first}

-- a run of the same horizon and origin is at the same place at its target
pub same-place : (r x : RunView) (k : ℕ) → IsSame ghosts r x → moved_to x k ≡ moved_to r k
same-place r x k same = ap (λ (y : RunView). moved_to y k) same.1

ended-by : (w : Work) (ws : List Work) (x : RunView) (o : Option RunView) → w.poll.run ≡ o
    → IsSomeAnd o (λ r. GoesNext ghosts w.poll.slice w.poll.target r x) → moved_to x w.poll.target ∷ at_targets ws ≡ at_targets (w ∷ ws)
ended-by w ws x (Some r) e next = ap (λ (y : RunView). y ∷ at_targets ws) (same-place r x w.poll.target next.0) ∙ sym (targets-first w ws r e)
ended-by w ws x None e next = absurd next

-- the first run is done
pub ended : (w : Work) (ws : List Work) (x : RunView) → IsSomeAnd w.poll.run (λ r. GoesNext ghosts w.poll.slice w.poll.target r x)
    → moved_to x w.poll.target ∷ at_targets ws ≡ at_targets (w ∷ ws)
ended w ws x next = ended-by w ws x w.poll.run refl next

-- once the first run is done, the runs at their targets are the same
pub done-first : (input : RaceInput) (begun : Begun) (done done' : List RunView) (works rest : List Work) (w : Work) (x run : RunView)
    → works ≡ w ∷ rest → IsSomeAnd w.poll.run (λ r. GoesNext ghosts w.poll.slice w.poll.target r x) → run ≡ moved_to x w.poll.target
    → done' ≡ done ++ run ∷ [] → HasRun input begun (done ++ at_targets works) → HasRun input begun (done' ++ at_targets rest)
done-first input begun done done' works rest w x run whole next is more has =
    let same : done ++ at_targets works ≡ done' ++ at_targets rest =
    ap (λ (ws : List Work). done ++ at_targets ws) whole
    ∙ (ap (λ (rs : List RunView). done ++ rs) (sym (ended w rest x next))
    ∙ (ap (λ (r : RunView). done ++ (r ∷ at_targets rest)) (sym is)
    ∙ (sym (append_assoc done (run ∷ []) (at_targets rest))
    ∙ ap (λ (rs : List RunView). rs ++ at_targets rest) (sym more)))) in
    subst (HasRun input begun) same has
