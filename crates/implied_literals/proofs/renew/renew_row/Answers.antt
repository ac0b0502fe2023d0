use Rattle.std.proofs.Common.{◌≡◌, ◌∙◌, ◌&&◌, ◌*◌, ◌<◌, subst, sym, false, ℕ, List, [], inl, inr}
use Rattle.std.specs.Prelude.{if◌then◌else◌}
use Rattle.std.proofs.lemmas.List.{get_or_read}
use Rattle.bit_sets.specs.Rows.{row_has}
use Rattle.implied_literals.specs.Rows.{row_at, clause_in, HasNoPair, IsClosure}
use Rattle.implied_literals.specs.Renewed.{WasClosed}
use Rattle.implied_literals.proofs.Renewing.{untouched_closed, was_closed, first_closed}
use Rattle.gt_core.specs.Literal.{opposite}
use Rattle.gt_core.proofs.published.Basics.{or_split, test_same}
use Rattle.implied_literals.proofs.renew.renew_row.Goals as goal

pub returns-then-is_untouched : goal.returns-then-is_untouched
returns-then-is_untouched c =
    let read = sym c.index-done-done.is ∙ get_or_read c.args.done.now.rows.now c.args.done.now.below c.index-done-done.result (subst (λ (n : ℕ). c.args.done.now.below < n) (sym c.requires.done.long) c.requires.below) c.index-done-done.is [] in
    untouched_closed (clause_in c.args.done.now.rules.now.clauses.now) (row_has c.args.stale.now) (2 * c.args.done.now.rules.now.facts) c.args.done.now.below (row_has (row_at c.args.done.now.rows.now c.args.done.now.below)) c.requires.was
    (subst (λ (r : List ℕ). HasNoPair (row_has r)) read c.if-is_untouched.ensures.free)
    (subst (λ (r : List ℕ). (m : ℕ) → (row_has r m && row_has c.args.stale.now m) ≡ false) read c.if-is_untouched.ensures.apart)

pub renew-requires-clause-was : goal.renew-requires-clause-was
renew-requires-clause-was c =
    let read = sym c.index-done-done.is ∙ get_or_read c.args.done.now.rows.now c.args.done.now.below c.index-done-done.result (subst (λ (n : ℕ). c.args.done.now.below < n) (sym c.requires.done.long) c.requires.below) c.index-done-done.is [] in
    subst (λ (r : List ℕ). WasClosed (clause_in c.args.done.now.rules.now.clauses.now) (2 * c.args.done.now.rules.now.facts) (row_has c.fill_first.new.row) (row_has r)) (sym read)
    (was_closed (clause_in c.args.done.now.rules.now.clauses.now) (row_has c.args.stale.now) (2 * c.args.done.now.rules.now.facts) c.args.done.now.below (row_has (row_at c.args.done.now.rows.now c.args.done.now.below)) c.requires.was (row_has c.fill_first.new.row) c.requires.below c.in_ok-fill_first.ensures)

pub returns : goal.returns
returns c =
    let V = clause_in c.args.done.now.rules.now.clauses.now in
    let first = row_has c.fill_first.new.row in
    let read = sym c.index-done-done.is ∙ get_or_read c.args.done.now.rows.now c.args.done.now.below c.index-done-done.result (subst (λ (n : ℕ). c.args.done.now.below < n) (sym c.requires.done.long) c.requires.below) c.index-done-done.is [] in
    first_closed V c.args.done.now.below first _ c.in_ok-fill_first.ensures
    (subst (λ (r : List ℕ). IsClosure V first (row_has (if c.in_ok-anew.anew then c.renew.new.next else r))) read c.in_ok-anew.ensures)

pub renew-requires-clause-within : goal.renew-requires-clause-within
renew-requires-clause-within c m t = elim (or_split _ _ (sym (c.in_ok-fill_first.ensures m) ∙ t)) [
  | inl e ↦ subst (λ (k : ℕ). k < 2 * c.args.done.now.rules.now.facts) (test_same c.args.done.now.below m e) c.requires.below
  | inr v ↦ c.requires.done.rules.clauses.within (opposite c.args.done.now.below) m v
]
