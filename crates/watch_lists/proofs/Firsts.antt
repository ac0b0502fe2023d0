-- What is asked first, and the number of the clause that asks it.
use Rattle.std.proofs.Common.{◌≡◌, ℕ, List, [], ◌∷◌, Bool, length, Option, Some, None, refl, sym, ap, ◌∙◌}
use Rattle.clause_base.specs.Clause.{has_literal}
use Rattle.cdcl_defs.specs.declared.event.Event.{Event}
use Rattle.cdcl_defs.specs.Event.{asked}
use Rattle.cdcl_defs.specs.Pending.{is_pending_in, least_from}
use Rattle.cdcl_tables.specs.Assignment.{literals}
use Rattle.propagation.specs.Front.{asked_at, first_asked}
use Rattle.propagation.specs.Pending.{PropagatorView}
use Rattle.watch_lists.specs.own.First.{number_in}

asked_number : (n : ℕ) (xs : List ℕ) → number_in (asked n xs) ≡ Some n
asked_number n [] = refl
asked_number n (x ∷ xs) = refl

-- of an event, if there is one
abbrev numbered : Option Event → Option ℕ
numbered o = elim o [ Some e ↦ number_in e | None ↦ None ]

by_least : (cl : List (List ℕ)) (on : ℕ → Bool) (o : Option ℕ)
    → numbered (elim o as (λ _. Option Event) [ Some number ↦ Some (asked_at cl on number) | None ↦ None ]) ≡ o
by_least cl on None = refl
by_least cl on (Some n) = asked_number n _

pub first_none : (cl : List (List ℕ)) (kept : List Bool) (on : ℕ → Bool) (o : Option Event) → o ≡ first_asked cl kept on → None ≡ o
    → None ≡ least_from (is_pending_in cl kept on) 0 (length cl)
first_none cl kept on o e n = ap numbered (n ∙ e) ∙ by_least cl on (least_from (is_pending_in cl kept on) 0 (length cl))

pub first_some : (cl : List (List ℕ)) (kept : List Bool) (on : ℕ → Bool) (o : Option Event) (event : Event) → o ≡ first_asked cl kept on
    → Some event ≡ o → number_in event ≡ least_from (is_pending_in cl kept on) 0 (length cl)
first_some cl kept on o event e s = ap numbered (s ∙ e) ∙ by_least cl on (least_from (is_pending_in cl kept on) 0 (length cl))

-- what is asked first is known once it was looked for
pub known : (p p' : PropagatorView) (o : Option Event) → o ≡ first_asked p.clauses p.kept (has_literal (literals p.entries)) → p' ≡ p
    → o ≡ first_asked p'.clauses p'.kept (has_literal (literals p'.entries))
known p p' o first same = first ∙ ap (λ (q : PropagatorView). first_asked q.clauses q.kept (has_literal (literals q.entries))) (sym same)
