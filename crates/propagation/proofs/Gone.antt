-- The member that forces a literal is taken out where this becomes true: its clause is pending no more, so that none is missed.
use Rattle.std.proofs.Common.{◌≡◌, ℕ, List, Bool, true, false, not, ◌||◌, ◌&&◌, ◌⊎◌, inl, inr, leb, length, Option, Some, None, refl, sym, ap, ◌∙◌, subst}
use Rattle.std.specs.Prelude.{MatchOption}
use Rattle.std.specs.Option.{is_some}
use Rattle.clause_base.specs.Clause.{has_literal}
use Rattle.cdcl_defs.specs.declared.trail.Assigned.{Assigned}
use Rattle.cdcl_defs.specs.State.{clause_at}
use Rattle.cdcl_defs.specs.Pending.{is_pending, open_ones}
use Rattle.bit_sets.specs.Layered.{IsLeast, words_have}
use Rattle.cdcl_tables.specs.declared.chains.Node.{Node}
use Rattle.propagation.specs.declared.pending.Pending.{Pending}
use Rattle.propagation.specs.own.Asks.{IsWithoutOne}
use Rattle.propagation.specs.Pending.{HasOwn, is_pending_on}
use Rattle.propagation.specs.own.Visit.{AllSettled, Grows}
use Rattle.propagation.proofs.Asks.{clash, pending_kept}
use Rattle.propagation.proofs.Filters.{any_from_has}

-- what is in a set, and what is gone from it
abbrev pub or_gone : (was now is : ℕ → Bool) → ℕ → Bool
or_gone was now is k = is k || (was k && not (now k))

or_true : (b : Bool) → (b || true) ≡ true
or_true true = refl
or_true false = refl

pub gone_more : (was now is : ℕ → Bool) → Grows is (or_gone was now is)
gone_more was now is k h = ap (λ (b : Bool). b || (was k && not (now k))) h

pub gone_grows : (was now is : ℕ → Bool) → Grows now is → Grows was (or_gone was now is)
gone_grows was now is grows k h = by (now k) refl
  where
    by : (b : Bool) → now k ≡ b → or_gone was now is k ≡ true
    by true e = gone_more was now is k (grows k e)
    by false e = ap (λ (b : Bool). is k || (b && not (now k))) h ∙ ap (λ (b : Bool). is k || not b) e ∙ or_true (is k)

-- what is settled by a set is so by a larger one
pub settled_more : (cl : List (List ℕ)) (nodes : List Node) (on s s' : ℕ → Bool) (code : ℕ) (kept : List Bool) → Grows s s'
    → AllSettled cl nodes on s code kept → AllSettled cl nodes on s' code kept
settled_more cl nodes on s s' code kept grows a node real keep at =
    let z = a node real keep at in
    record { not_loose = z.not_loose; in_set = λ p. grows _ (z.in_set p) }

gone_parts : (a b c : Bool) → (a || (b && not c)) ≡ true → (a ≡ true) ⊎ ((b ≡ true) × (c ≡ false))
gone_parts true b c e = inl refl
gone_parts false true true e = clash (sym e)
gone_parts false true false e = inr (refl, refl)
gone_parts false false c e = clash (sym e)

-- a clause with a true literal is not pending
not_pending : (on : ℕ → Bool) (xs : List ℕ) (x : ℕ) → has_literal xs x ≡ true → on x ≡ true → is_pending on xs ≡ false
not_pending on xs x own e = ap (λ (b : Bool). not b && leb (length (open_ones on xs)) 1) (any_from_has on xs x own e)

-- what is gone is not pending, where its literal is true
pub not_gone : (cl : List (List ℕ)) (kept : List Bool) (trail : List ℕ) (x : ℕ) (reason : Option ℕ) (old new : Pending) (is : ℕ → Bool)
    → IsWithoutOne reason old new → ((k : ℕ) → reason ≡ Some k → has_literal (clause_at cl k) x ≡ true) → has_literal trail x ≡ true
    → ((k : ℕ) → is_pending_on cl kept trail k ≡ true → or_gone (words_have old.numbers) (words_have new.numbers) is k ≡ true) → (k : ℕ)
    → is_pending_on cl kept trail k ≡ true → is k ≡ true
not_gone cl kept trail x reason old new is without own on all k p =
    by (gone_parts (is k) (words_have old.numbers k) (words_have new.numbers k) (all k p))
  where
    out : words_have new.numbers k ≡ false → (words_have new.numbers k ≡ true) ⊎ (reason ≡ Some k) → is k ≡ true
    out now (inl there) = clash (sym there ∙ now)
    out now (inr forced) = clash (sym (pending_kept cl kept trail k p) ∙ not_pending (has_literal trail) (clause_at cl k) x (own k forced) on)

    by : (is k ≡ true) ⊎ ((words_have old.numbers k ≡ true) × (words_have new.numbers k ≡ false)) → is k ≡ true
    by (inl e) = e
    by (inr r) = out r.1 (without.others k r.0)

-- the clause that forced an entry has its literal
pub own_of : (cl : List (List ℕ)) (entry : Assigned) → HasOwn cl entry → (k : ℕ) → entry.reason ≡ Some k → has_literal (clause_at cl k) entry.literal ≡ true
own_of cl entry own k e = subst (λ (reason : Option ℕ). MatchOption reason (Unit {0}) (λ n. has_literal (clause_at cl n) entry.literal ≡ true)) e own

-- a set has no least member, where it was found to have none
pub least_none : (s : ℕ → Bool) (o : Option ℕ) (b : Bool) → IsLeast s o → is_some o ≡ not b → b ≡ true → IsLeast s None
least_none s None b least is e = least
least_none s (Some m) b least is e = clash (is ∙ ap (λ (z : Bool). not z) e)
