-- Lists of runs at work.
use Rattle.std.proofs.Common.{arith, ◌≡◌, ◌<◌, List, [], ◌∷◌, ◌++◌, length, drop, slice_set, slice_index_or, Option, Some, None, refl, sym, ap, ◌∙◌}
use Rattle.horizon_run.specs.Run.{RunView, moved_to}
use Rattle.poll_batch.specs.declared.work.Work.{Work}
use Rattle.poll_batch.specs.own.Works.{at_targets}

pub targets-first : (w : Work) (ws : List Work) (r : RunView) → w.poll.run ≡ Some r → at_targets (w ∷ ws) ≡ moved_to r w.poll.target ∷ at_targets ws
targets-first w ws r e = ap (λ (o : Option RunView). elim o [ Some x ↦ moved_to x w.poll.target ∷ at_targets ws | None ↦ at_targets ws ]) e

targets-none : (w : Work) (ws : List Work) → w.poll.run ≡ None → at_targets (w ∷ ws) ≡ at_targets ws
targets-none w ws e = ap (λ (o : Option RunView). elim o [ Some x ↦ moved_to x w.poll.target ∷ at_targets ws | None ↦ at_targets ws ]) e

-- the first one before others
after-push : (x : Work) (all ws : List Work) (r : RunView) (o : Option RunView) → x.poll.run ≡ o → at_targets all ≡ at_targets ws ++ r ∷ []
    → at_targets (x ∷ all) ≡ at_targets (x ∷ ws) ++ r ∷ []
after-push x all ws r (Some y) f e =
    targets-first x all y f ∙ (ap (λ (rs : List RunView). moved_to y x.poll.target ∷ rs) e ∙ ap (λ (rs : List RunView). rs ++ r ∷ []) (sym (targets-first x ws y f)))
after-push x all ws r None f e =
    targets-none x all f ∙ (e ∙ ap (λ (rs : List RunView). rs ++ r ∷ []) (sym (targets-none x ws f)))

pub targets-push : (ws : List Work) (w : Work) (r : RunView) → w.poll.run ≡ Some r → at_targets (ws ++ w ∷ []) ≡ at_targets ws ++ moved_to r w.poll.target ∷ []
targets-push [] w r e = ap (λ (o : Option RunView). elim o [ Some x ↦ moved_to x w.poll.target ∷ [] | None ↦ [] ]) e
targets-push (x ∷ ws) w r e = after-push x (ws ++ w ∷ []) ws (moved_to r w.poll.target) x.poll.run refl (targets-push ws w r e)

pub first-of : {X : Type 0} (xs : List X) (x : X) → 0 < length xs → x ≡ slice_index_or xs 0 x → xs ≡ x ∷ drop 1 xs
first-of [] x l e = absurd (omega (arith, l))
first-of (y ∷ xs) x l e = ap (λ z. z ∷ xs) (sym e)

pub set-first : {X : Type 0} (xs : List X) (x : X) → 0 < length xs → slice_set xs 0 x ≡ x ∷ drop 1 xs
set-first [] x l = absurd (omega (arith, l))
set-first (y ∷ xs) x l = refl
