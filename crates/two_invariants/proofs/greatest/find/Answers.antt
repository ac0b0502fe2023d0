use Rattle.std.proofs.Common.{◌≡◌, ◌∙◌, ap, sym, subst, true, ℕ, List}
use Rattle.gt_core.specs.Literal.{opposite}
use Rattle.implied_literals.specs.Rows.{clause_in}
use Rattle.two_invariants.proofs.Truth.{invariants_hold}
use Rattle.two_invariants.proofs.greatest.find.Goals as goal

pub list_clauses-requires-clause-either : goal.list_clauses-requires-clause-either
list_clauses-requires-clause-either g c = subst (λ (r : List (List ℕ)). (l m : ℕ) → clause_in r l m ≡ clause_in r m l) (sym c.as_slice.ensures.value) c.in_ok-rows.ensures.either

pub list_clauses-requires-clause-apart : goal.list_clauses-requires-clause-apart
list_clauses-requires-clause-apart g c = subst (λ (r : List (List ℕ)). (l : ℕ) → clause_in r l (opposite l) ≡ true → ⊥) (sym c.as_slice.ensures.value) c.in_ok-rows.ensures.apart

pub returns : goal.returns
returns g c =
    let facts = c.in_ok-pairs.ensures.facts ∙ c.facts-facts.ensures.facts in
    let are = c.in_ok-rows.ensures.greatest c.in_ok-pairs.pairs c.in_ok-pairs.ensures.lawful facts (λ l m. c.in_ok-pairs.ensures.clauses l m ∙ ap (λ (r : List (List ℕ)). clause_in r l m) c.as_slice.ensures.value) in
    record { facts = facts; greatest = are; holds = invariants_hold c.args.task.now c.in_ok-pairs.pairs.clauses are }
