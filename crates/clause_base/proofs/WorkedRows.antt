-- The definitions, computed on small formulas and logs whose answers are known by hand.
use Rattle.std.proofs.Common.{◌≡◌, ℕ, List, [], ◌∷◌, true, false, Some, None, refl}
use Rattle.clause_base.specs.Clause.{clause_of}
use Rattle.clause_base.specs.Choice.{plain_choice}
use Rattle.clause_base.specs.declared.log.Entry.{Entry}
use Rattle.clause_base.specs.declared.log.Entry.TheVariants.{Learn, Drop}
use Rattle.clause_base.specs.Derivation.{is_derived_after}

abbrev learned : List ℕ → List ℕ → Entry
learned clause hints = Learn clause hints

abbrev pair_of_facts : List (List ℕ)
pair_of_facts = (1 ∷ []) ∷ (0 ∷ []) ∷ []

-- two opposite facts are refuted by both, in either order, and by neither alone
both_facts : is_derived_after 1 pair_of_facts [] (Some (learned [] (0 ∷ 1 ∷ []))) ≡ true
both_facts = refl

both_facts_turned : is_derived_after 1 pair_of_facts [] (Some (learned [] (1 ∷ 0 ∷ []))) ≡ true
both_facts_turned = refl

one_fact : is_derived_after 1 pair_of_facts [] (Some (learned [] (0 ∷ []))) ≡ false
one_fact = refl

-- a fact follows from itself
own_fact : is_derived_after 1 pair_of_facts [] (Some (learned (0 ∷ []) (1 ∷ []))) ≡ true
own_fact = refl

-- no hint, or one that names the entry itself, derives nothing
no_hint : is_derived_after 1 pair_of_facts [] (Some (learned [] [])) ≡ false
no_hint = refl

later_hint : is_derived_after 1 pair_of_facts [] (Some (learned [] (0 ∷ 2 ∷ []))) ≡ false
later_hint = refl

-- a clause is over the formula's variables
past_variables : is_derived_after 1 pair_of_facts [] (Some (learned (2 ∷ []) (0 ∷ 1 ∷ []))) ≡ false
past_variables = refl

-- what is dropped was kept, is dropped once, and is no hint after that
dropped : is_derived_after 1 pair_of_facts [] (Some (Drop 1)) ≡ true
dropped = refl

dropped_twice : is_derived_after 1 pair_of_facts (Drop 1 ∷ []) (Some (Drop 1)) ≡ false
dropped_twice = refl

dropped_before_its_beginning : is_derived_after 1 pair_of_facts [] (Some (Drop 2)) ≡ false
dropped_before_its_beginning = refl

dropped_hint : is_derived_after 1 pair_of_facts (Drop 1 ∷ []) (Some (learned [] (0 ∷ 1 ∷ []))) ≡ false
dropped_hint = refl

-- a drop takes no number: the clause that is learned after it has number 2
number_after_drop : is_derived_after 1 pair_of_facts (Drop 1 ∷ learned (0 ∷ []) (1 ∷ []) ∷ []) (Some (learned [] (0 ∷ 2 ∷ []))) ≡ true
number_after_drop = refl

abbrev two_choices : List (List ℕ)
two_choices = (0 ∷ 2 ∷ []) ∷ (0 ∷ 3 ∷ []) ∷ (1 ∷ 4 ∷ []) ∷ (1 ∷ 5 ∷ []) ∷ []

-- variable 0 is learned from the first two clauses, and then refuted by the other two; not with a hint that is not unit yet
first_learned : is_derived_after 3 two_choices [] (Some (learned (0 ∷ []) (0 ∷ 1 ∷ []))) ≡ true
first_learned = refl

then_refuted : is_derived_after 3 two_choices (learned (0 ∷ []) (0 ∷ 1 ∷ []) ∷ []) (Some (learned [] (4 ∷ 2 ∷ 3 ∷ []))) ≡ true
then_refuted = refl

loose_hint : is_derived_after 3 two_choices (learned (0 ∷ []) (0 ∷ 1 ∷ []) ∷ []) (Some (learned [] (2 ∷ 4 ∷ 3 ∷ []))) ≡ false
loose_hint = refl

-- a clause is sorted and has each literal once; a literal with its negation gives none
sorted_clause : clause_of (5 ∷ 2 ∷ 5 ∷ 0 ∷ []) ≡ Some (0 ∷ 2 ∷ 5 ∷ [])
sorted_clause = refl

opposite_pair : clause_of (0 ∷ 1 ∷ []) ≡ None
opposite_pair = refl

-- the plain chooser makes the least open variable false
least_open : plain_choice (Some true ∷ None ∷ None ∷ []) ≡ Some 3
least_open = refl
