use Rattle.std.proofs.Common.{◌*◌, ap, ℕ, sym, ◌∙◌, ◌&&◌, not, Bool, List, inl, inr}
use Rattle.bit_sets.specs.Rows.{row_has}
use Rattle.gt_core.specs.Literal.{opposite}
use Rattle.implied_literals.specs.Rows.{clause_in, HasNoPair}
use Rattle.implied_literals.proofs.Renewing.{same_closed, pair_closed}
use Rattle.gt_core.proofs.published.Basics.{cases, and_both}
use Rattle.implied_literals.proofs.renew.renew.Goals as goal

pub returns-then-is_same : goal.returns-then-is_same
returns-then-is_same c = same_closed (clause_in c.args.done.now.rules.now.clauses.now) (2 * c.args.done.now.rules.now.facts) (row_has c.args.next.now) (row_has c.args.old.now) c.requires.was (ap row_has c.if-is_same.ensures)

pub returns-then-has_pair : goal.returns-then-has_pair
returns-then-has_pair c = pair_closed (clause_in c.args.done.now.rules.now.clauses.now) (row_has c.args.next.now) c.if-has_pair.ensures

pub returns-then-branch : goal.returns-then-branch
returns-then-branch c = record {
  given = λ m t. t;
  sound = λ other chained part. part;
  chained = λ free x y in_next told. elim (cases (next y)) [
    | inl t ↦ t
    | inr f ↦ absurd (c.in_ok-none_follows.ensures c.if-branch.true x y in_next
        (c.subtract.ensures.has y ∙ ap (λ (r : List ℕ). row_has r y && not (next y)) c.in_ok-make_same.ensures ∙ and_both _ _ (c.requires.was.chained old_free x y (c.requires.was.part old_free x in_next) told) (ap not f))
        (sym (c.requires.done.rules.either (opposite x) y) ∙ told))
  ];
}
  where
    next : ℕ → Bool
    next = row_has c.args.next.now

    old_free : HasNoPair (row_has c.args.old.now)
    old_free = c.if-not-has_pair.ensures
