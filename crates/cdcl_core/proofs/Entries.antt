-- The entry of an event that makes a literal true.
use Rattle.std.proofs.Common.{◌≡◌, ℕ, ◌/◌, ◌<◌, [], ◌∷◌, ◌++◌, Some, None, true, refl, sym, subst}
use Rattle.clause_base.specs.Formula.{Cnf}
use Rattle.cdcl_defs.specs.declared.event.Event.{Event}
use Rattle.cdcl_defs.specs.declared.event.Event.TheVariants.{Conflict, Force, Decide, Finish}
use Rattle.cdcl_defs.specs.declared.trail.Assigned.{Assigned}
use Rattle.cdcl_defs.specs.State.{State, value_of}
use Rattle.cdcl_defs.specs.Run.{apply, is_going}
use Rattle.cdcl_defs.specs.Sound.{IsSound}
use Rattle.cdcl_core.specs.own.Search.{IsNextEvent}
use Rattle.cdcl_core.proofs.Keeps.{next_sound, next_open}

-- an entry is that of an event
abbrev pub IsEntry : Event → Assigned → Type 0
IsEntry (Conflict i) a = ⊥
IsEntry (Force l i) a = a ≡ record { literal = l; reason = Some i }
IsEntry (Decide l) a = a ≡ record { literal = l; reason = None }
IsEntry Finish a = ⊥

-- an entry may be made, and this is to apply the event
pub record MayAssign (f : Cnf) (s : State) (e : Event) (a : Assigned) : Type 0 where
  pub below : a.literal / 2 < f.variables
  pub opened : value_of s.trail (a.literal / 2) ≡ None
  pub sound : IsSound f (record s { trail = s.trail ++ a ∷ [] })
  pub applied : apply s e ≡ record s { trail = s.trail ++ a ∷ [] }

pub may_assign : (f : Cnf) (s : State) (e : Event) (a : Assigned) → IsSound f s → is_going s.standing ≡ true → IsNextEvent f s e → IsEntry e a → MayAssign f s e a
may_assign f s (Conflict i) a o g n is = absurd is
may_assign f s (Force l i) a o g n is =
    let b = next_open f s (Force l i) o n in
    subst (MayAssign f s (Force l i)) (sym is) (record {
      below = subst (λ (k : ℕ). l / 2 < k) o.many b.0;
      opened = b.1;
      sound = next_sound f s (Force l i) o g n;
      applied = refl;
    })
may_assign f s (Decide l) a o g n is =
    let b = next_open f s (Decide l) o n in
    subst (MayAssign f s (Decide l)) (sym is) (record {
      below = subst (λ (k : ℕ). l / 2 < k) o.many b.0;
      opened = b.1;
      sound = next_sound f s (Decide l) o g n;
      applied = refl;
    })
may_assign f s Finish a o g n is = absurd is
