use Rattle.std.proofs.Common.{◌≡◌, ◌∙◌, ◌==◌, ◌*◌, inl, inr, ap, sym, subst, true, length, ℕ, List}
use Rattle.bit_sets.specs.Rows.{row_has}
use Rattle.gt_core.proofs.published.Basics.{cases}
use Rattle.implied_literals.specs.Rows.{row_at, clause_in, IsClosure}
use Rattle.implied_literals.proofs.Renewing.{row_was, none_was}
use Rattle.implied_literals.proofs.published.Steps.{nothing_in}
use Rattle.implied_literals.specs.Tested.{IsSetOf}
use Rattle.implied_literals.proofs.again.renew_known.Goals as goal

pub renew_rows-requires-clause-were : goal.renew_rows-requires-clause-were
renew_rows-requires-clause-were c = row_was (clause_in c.args.clauses.now) (row_has c.args.stale.now) (2 * c.args.facts) (row_has c.args.asked.now) c.args.known.now c.requires.were

pub renew_none-requires-clause-was : goal.renew_none-requires-clause-was
renew_none-requires-clause-was c = none_was (clause_in c.args.clauses.now) (row_has c.args.stale.now) (2 * c.args.facts) (row_has c.args.asked.now) c.args.known.now c.requires.were

pub returns-clause-moved : goal.returns-clause-moved
returns-clause-moved c = record {
  rows = λ k m f. ap (λ (r : List ℕ). row_has r m) (c.in_ok-rows.ensures.same k f);
  none = λ f m. c.in_ok-lits.ensures.same m (nothing_in (row_has c.in_ok-lits.lits) c.least.result c.least.ensures (c.is_none.ensures ∙ f) m);
  lacking = λ k m a f. elim (cases (row_has c.in_ok-lits.lits m)) [
    | inl t ↦ inr (subst (λ (rows : List (List ℕ)). clause_in rows k m ≡ true) c.as_slice-2.ensures.value (c.in_ok-lacking.ensures k m a f t))
    | inr n ↦ inl (c.in_ok-lits.ensures.same m n)
  ];
}

pub renew_rows-requires-clause-rules : goal.renew_rows-requires-clause-rules
renew_rows-requires-clause-rules c = record { clauses = c.requires.clauses; either = c.requires.either; bound = c.in_ok-bound.ensures }

pub renew_none-requires-clause-done : goal.renew_none-requires-clause-done
renew_none-requires-clause-done c = record {
  rules = record { clauses = c.requires.clauses; either = c.requires.either; bound = c.in_ok-bound.ensures };
  long = ap length c.as_slice.ensures.value ∙ c.in_ok-rows.ensures.long;
  each = λ k a lt. subst (λ (rows : List (List ℕ)). IsClosure (clause_in c.args.clauses.now) (λ m. k == m) (row_has (row_at rows k))) (sym c.as_slice.ensures.value) (c.in_ok-rows.ensures.each k a);
}

pub returns-clause-known : goal.returns-clause-known
returns-clause-known c = record {
  none = c.in_ok-lits.ensures.closure;
  long = c.in_ok-rows.ensures.long;
  inside = c.requires.asked;
  each = c.in_ok-rows.ensures.each;
  other = λ k m f. ap (λ (r : List ℕ). row_has r m) (c.in_ok-rows.ensures.others k f) ∙ c.requires.were.other k m f;
}

pub find_lacking-requires-clause-asked : goal.find_lacking-requires-clause-asked
find_lacking-requires-clause-asked c = subst (λ (n : ℕ). IsSetOf n (row_has c.args.asked.now)) (sym (ap length c.as_slice-2.ensures.value ∙ c.in_ok-rows.ensures.long)) c.requires.asked
