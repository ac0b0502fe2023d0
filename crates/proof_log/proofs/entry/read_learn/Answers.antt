use Rattle.std.proofs.Common.{◌≡◌, [], ◌∷◌, codes, rules, subst}
use Rattle.clause_base.specs.Clause.{IsClause}
use Rattle.proof_log.proofs.Cuts.{learn_no_clause, learn_no_codes, learn_no_hints}
use Rattle.proof_log.proofs.entry.read_learn.Goals as goal

pub returns-in_default-clause-none : goal.returns-in_default-clause-none
returns-in_default-clause-none c = λ none.
    let end : c.as_slice.result.now ≡ codes " by" = search rules in
    learn_no_codes c.as_slice.result.now c.args.bytes.now end (c.in_ok-rest.ensures.none c.in_default.is)

pub returns-in_default-2-clause-none : goal.returns-in_default-2-clause-none
returns-in_default-2-clause-none c = λ none.
    let end : c.as_slice.result.now ≡ codes " by" = search rules in
    let text = rw c.in-Some.is at c.in_ok-rest.ensures.text in
    let small = rw c.in-Some.is at c.in_ok-rest.ensures.small in
    learn_no_clause c.as_slice.result.now c.args.bytes.now c.read_numbers_to.new.numbers.items c.in-Some.rest.now end text small
    (subst (λ ns. IsClause ns → ⊥) c.deref.ensures.value (c.in_ok-clause.ensures.none c.in_default-2.is))

pub returns-in_default-3-clause-none : goal.returns-in_default-3-clause-none
returns-in_default-3-clause-none c = λ none.
    let end : c.as_slice.result.now ≡ codes " by" = search rules in
    let feed : c.as_slice-2.result.now ≡ 10 ∷ [] = search rules in
    let text = rw c.in-Some.is at c.in_ok-rest.ensures.text in
    let small = rw c.in-Some.is at c.in_ok-rest.ensures.small in
    learn_no_hints c.as_slice.result.now c.as_slice-2.result.now c.args.bytes.now c.read_numbers_to.new.numbers.items c.in-Some.rest.now end feed text small
    (c.in_ok-rest-2.ensures.none c.in_default-3.is)
