use Rattle.std.proofs.Common.{◌≡◌, ◌==◌, ◌&&◌, ◌||◌, ◌∙◌, not, true, false, refl, sym, Bool, ap, ℕ}
use Rattle.bit_sets.specs.Rows.{row_has}
use Rattle.implied_literals.specs.Rows.{clause_in}
use Rattle.implied_literals.proofs.published.Steps.{nothing_in}
use Rattle.gt_core.proofs.published.Basics.{apart}
use Rattle.two_invariants.proofs.Dropping.{dropped_twice, row_dropped}
use Rattle.two_invariants.proofs.Grouping.{some_in}
use Rattle.two_invariants.proofs.drop.drop_row.Goals as goal

pub returns-clause-dropped : goal.returns-clause-dropped
returns-clause-dropped c =
    dropped_twice _ c.take_out_of_all.new.rows.items _ _ _ _ c.take_out_of_all.ensures.dropped
    (row_dropped c.take_out_of_all.new.rows.items c.take_all_out.new.rows.items _ _ c.args.l (row_has c.args.others.now) c.take_all_out.ensures.has c.take_all_out.ensures.stale)

-- one test and another are taken out
both_out : (o f q p : Bool) → ((o && not (f && q)) && not p) ≡ (o && not (p || (q && f)))
both_out false f q p = refl
both_out true true true true = refl
both_out true true true false = refl
both_out true true false true = refl
both_out true true false false = refl
both_out true false true true = refl
both_out true false true false = refl
both_out true false false true = refl
both_out true false false false = refl

pub returns-clause-has : goal.returns-clause-has
returns-clause-has c a b =
    let others = row_has c.args.others.now in
    let l = c.args.l in
    c.take_all_out.ensures.has a b
    ∙ ap (λ (x : Bool). x && not ((l == a) && others b)) (c.take_out_of_all.ensures.has a b)
    ∙ both_out (clause_in c.args.rows.now.items a b) (others a) (l == b) ((l == a) && others b)

pub returns-clause-some : goal.returns-clause-some
returns-clause-some c = λ t. some_in (row_has c.args.others.now) c.least.result c.least.ensures (c.is_none.ensures ∙ ap not c.if-is_none.false)

empty : (o : ℕ → Bool) → ((k : ℕ) → o k ≡ false) → (r p q : Bool) (a b : ℕ) → r ≡ (r && not ((p && o b) || (q && o a)))
empty o none r p q a b = kept r p q ∙ (λ i. r && not ((p && sym (none b) i) || (q && sym (none a) i)))
  where
    kept : (r p q : Bool) → r ≡ (r && not ((p && false) || (q && false)))
    kept true true true = refl
    kept true true false = refl
    kept true false true = refl
    kept true false false = refl
    kept false p q = refl

pub returns-then-is_none-clause-has : goal.returns-then-is_none-clause-has
returns-then-is_none-clause-has c = λ a b.
    empty (row_has c.args.others.now) (nothing_in (row_has c.args.others.now) c.least.result c.least.ensures (c.is_none.ensures ∙ ap not c.if-is_none.true)) (clause_in c.args.rows.now.items a b) (c.args.l == a) (c.args.l == b) a b

pub returns-then-is_none-clause-dropped : goal.returns-then-is_none-clause-dropped
returns-then-is_none-clause-dropped c = record { more = λ k t. t; gone = λ a b t f. absurd (apart (clause_in c.args.rows.now.items a b) t f) }

pub returns-then-is_none-clause-none : goal.returns-then-is_none-clause-none
returns-then-is_none-clause-none c = λ f. nothing_in (row_has c.args.others.now) c.least.result c.least.ensures (c.is_none.ensures ∙ ap not c.if-is_none.true)
