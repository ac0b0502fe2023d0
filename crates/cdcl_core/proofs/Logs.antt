-- A log that goes on from another.
use Rattle.std.proofs.Common.{◌≡◌, ℕ, zero, suc, List, [], ◌∷◌, ◌++◌, map, Bool, true, false, if◌then◌else◌, Result, Ok, Err, OnErr, refl, sym, ap, ◌∙◌, append_assoc, subst, Option}
use Rattle.std.proofs.lemmas.List.{append-nil}
use Rattle.clause_base.specs.Choice.{Known}
use Rattle.clause_base.specs.declared.log.Entry.{Entry}
use Rattle.clause_base.specs.declared.log.Entry.TheVariants.{Learn, Drop}
use Rattle.cdcl_defs.specs.State.{State}
use Rattle.cdcl_defs.specs.declared.event.Event.{Event}
use Rattle.cdcl_defs.specs.declared.event.Event.TheVariants.{Conflict, Force, Decide, Finish}
use Rattle.cdcl_defs.specs.Event.{event_of}
use Rattle.cdcl_defs.specs.Learn.{learned}
use Rattle.cdcl_defs.specs.Machine.{turns}
use Rattle.cdcl_defs.specs.Run.{apply, next, rests, dropped_after}
use Rattle.cdcl_defs.proofs.published.Cutting.{Reaches}
use Rattle.cdcl_core.specs.own.Search.{GoesOn}

pub goes_same : (old new : List Entry) → new ≡ old → GoesOn old new
goes_same old new e = ([], e ∙ sym (append-nil old))

pub goes_then : (a b c : List Entry) → GoesOn a b → GoesOn b c → GoesOn a c
goes_then a b c f g = (f.0 ++ g.0, g.1 ∙ ap (λ (xs : List Entry). xs ++ g.0) f.1 ∙ append_assoc a f.0 g.0)

-- after an event, and after any number of them
goes_applied : (s : State) (e : Event) → GoesOn s.log (apply s e).log
goes_applied s (Conflict i) =
    let new = learned s.clauses s.trail i in (Learn new.clause new.hints ∷ map Drop (dropped_after s new.clause), refl)
goes_applied s (Force l i) = goes_same s.log s.log refl
goes_applied s (Decide l) = goes_same s.log s.log refl
goes_applied s Finish = goes_same s.log s.log refl

goes_step : (choose : Known → Option ℕ) (limit m : ℕ) (s : State) (r : Bool) → ((t : State) → GoesOn t.log (turns (next choose) (rests choose) limit m t).log) → GoesOn s.log (turns (next choose) (rests choose) limit m (if r then s else next choose s)).log
goes_step choose limit m s true f = f s
goes_step choose limit m s false f =
    goes_then s.log (next choose s).log (turns (next choose) (rests choose) limit m (next choose s)).log (goes_applied s (event_of choose s)) (f (next choose s))

goes_turns : (choose : Known → Option ℕ) (limit m : ℕ) (s : State) → GoesOn s.log (turns (next choose) (rests choose) limit m s).log
goes_turns choose limit zero s = goes_same s.log s.log refl
goes_turns choose limit (suc m) s = goes_step choose limit m s (rests choose limit s) (λ t. goes_turns choose limit m t)

pub goes_reached : (choose : Known → Option ℕ) (limit : ℕ) (s t : State) → Reaches (next choose) (rests choose) limit s t → GoesOn s.log t.log
goes_reached choose limit s t r = let f : State → Type 0 = λ u. GoesOn s.log u.log in subst f r.1 (goes_turns choose limit r.0 s)

-- so where a call has failed or not
pub goes_err : {T E P : Type 0} → (r : Result T E) → P → OnErr r P
goes_err (Ok x) p = tt
goes_err (Err e) p = p
