-- Where the facts are given as a list, the initial atoms that are no facts are the constant ones.
use Rattle.std.proofs.Common.{◌≡◌, List, [], ◌∷◌, true, false, IsTrue, ◌↔◌, ◌⊎◌, inl, inr}
use Rattle.std.specs.List.{AllByRecursion}
use Rattle.std.proofs.lemmas.Bool.{cases_Bool, both_ways, false_from_ne_true, true_from_ne_false}
use Rattle.pd_model.specs.State.{is_in}
use Rattle.pd_model.specs.declared.atoms.Atom.{Atom}
use Rattle.pd_model.specs.declared.parts.Parts.{Parts}
use Rattle.grounding_defs.specs.Instance.{Change, instance_of}
use Rattle.grounding_defs.specs.Reach.{IsReachable, NeverDeletes, IsConstant, IsFact}
use Rattle.grounding_defs.proofs.Reaching.{least_is_closed}

-- what is said of each change is a denial, so it holds where it is not denied
never_deleted : (p : Parts) (a : Atom) (changes : List Change) → ((AllByRecursion (NeverDeletes p a) changes → ⊥) → ⊥) → AllByRecursion (NeverDeletes p a) changes
never_deleted p a [] h = tt
never_deleted p a (e ∷ changes) h = (
  λ del may same. h (λ all. all.0 del may same),
  never_deleted p a changes (λ n. h (λ all. n all.1)),
)

module _ (p : Parts) (facts : List Atom) (fact_is : (a : Atom) → IsTrue (is_in a facts) ↔ IsFact p a) where
  pub constant_no_fact : (a : Atom) → IsConstant p a → is_in a facts ≡ false
  constant_no_fact a is = false_from_ne_true (is_in a facts) (λ t. ((fact_is a).0 t).varies is)

  -- a reachable atom that is no fact is not other than constant
  not_other : (a : Atom) → IsReachable p a → is_in a facts ≡ false → (IsConstant p a → ⊥) → ⊥
  not_other a reachable n other = both_ways (is_in a facts) n ((fact_is a).1 (record { reachable = reachable; varies = other }))

  pub is_constant : (a : Atom) → is_in a p.init ≡ true → is_in a facts ≡ false → IsConstant p a
  is_constant a initial n = record {
    initial = initial;
    stays = λ c kept. never_deleted p a (instance_of p c).changes (λ deleted.
        not_other a ((least_is_closed p).initial a initial) n (λ is. deleted (is.stays c kept)));
  }

  -- a reachable atom is a fact or initial
  pub initial_or_fact : (a : Atom) → IsReachable p a → is_in a facts ≡ false → is_in a p.init ≡ true
  initial_or_fact a reachable n = true_from_ne_false (is_in a p.init) (λ f. not_other a reachable n (λ is. both_ways (is_in a p.init) f is.initial))

  pub fact_or_constant : (a : Atom) → IsReachable p a → IsFact p a ⊎ IsConstant p a
  fact_or_constant a reachable = elim (cases_Bool (is_in a facts)) [
    | inl t ↦ inl ((fact_is a).0 t)
    | inr f ↦ inr (is_constant a (initial_or_fact a reachable f) f)
  ]
