use Rattle.std.proofs.Common.{◌∙◌, ◌==◌, ◌*◌, ap, subst, sym, length, Bool, ℕ, List, ◌≡◌, ◌||◌, true, false, refl}
use Rattle.std.specs.Prelude.{if◌then◌else◌}
use Rattle.bit_sets.specs.Rows.{row_has}
use Rattle.implied_literals.specs.Rows.{row_at, clause_in, IsClosure}
use Rattle.implied_literals.specs.Renewed.{WasTold}
use Rattle.gt_core.proofs.published.Basics.{apart, same_test}
use Rattle.implied_literals.proofs.renew.renew_at.Goals as goal

pub returns-in_ok-insert-clause-closure : goal.returns-in_ok-insert-clause-closure
returns-in_ok-insert-clause-closure c =
    let Closed : List ℕ → Type 0 = λ r. IsClosure (clause_in c.args.rules.now.clauses.now) (λ m. c.args.x == m) (row_has r) in
    subst Closed (sym c.in_ok-set_row.ensures.same)
    (subst (λ (b : Bool). Closed (if b then c.renew_row.new.next else row_at c.as_slice.result.now c.args.x)) c.if-branch.true c.in_ok-renew_row.ensures)

pub returns-else-branch-clause-closure : goal.returns-else-branch-clause-closure
returns-else-branch-clause-closure c =
    let Closed : List ℕ → Type 0 = λ r. IsClosure (clause_in c.args.rules.now.clauses.now) (λ m. c.args.x == m) (row_has r) in
    subst (λ (rows : List (List ℕ)). Closed (row_at rows c.args.x)) c.as_slice.ensures.value
    (subst (λ (b : Bool). Closed (if b then c.renew_row.new.next else row_at c.as_slice.result.now c.args.x)) c.if-branch.false c.in_ok-renew_row.ensures)

pub renew_row-requires-clause-done : goal.renew_row-requires-clause-done
renew_row-requires-clause-done c = record {
  rules = c.requires.rules;
  long = ap length c.as_slice.ensures.value ∙ c.requires.long;
  each = λ k a lt. subst (λ (rows : List (List ℕ)). IsClosure (clause_in c.args.rules.now.clauses.now) (λ m. k == m) (row_has (row_at rows k))) (sym c.as_slice.ensures.value) (c.requires.done k a lt);
}

pub renew_row-requires-clause-was : goal.renew_row-requires-clause-was
renew_row-requires-clause-was c =
    subst (λ (rows : List (List ℕ)). WasTold (clause_in c.args.rules.now.clauses.now) (row_has c.args.stale.now) (2 * c.args.rules.now.facts) c.args.x (row_has (row_at rows c.args.x))) (sym c.as_slice.ensures.value) c.requires.was

pub returns-in_ok-insert-clause-same : goal.returns-in_ok-insert-clause-same
returns-in_ok-insert-clause-same c f =
    let moved = row_has c.insert.new.self c.args.x in
    absurd (apart moved (c.in_ok-insert.ensures.has c.args.x ∙ ap (λ (b : Bool). b || row_has c.args.moved.now c.args.x) (same_test c.args.x c.args.x refl)) f)

-- the second of two tests of which neither is passed
second_not : (a b : Bool) → (a || b) ≡ false → b ≡ false
second_not true b e = absurd (let w : ⊥ = cc in w)
second_not false b e = e

pub returns-in_ok-insert-clause-more : goal.returns-in_ok-insert-clause-more
returns-in_ok-insert-clause-more c k f = second_not (c.args.x == k) (row_has c.args.moved.now k) (sym (c.in_ok-insert.ensures.has k) ∙ f)
