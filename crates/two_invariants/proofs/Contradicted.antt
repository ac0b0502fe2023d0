use Rattle.std.proofs.Common.{◌≡◌, ◌==◌, ℕ, ◌*◌, List, Bool, true, false, not}
use Rattle.bit_sets.specs.Rows.{row_has, IsPairAcross}
use Rattle.gt_core.specs.Literal.{opposite}
use Rattle.gt_core.specs.Task.{Action}
use Rattle.gt_core.proofs.published.Basics.{passing, or_left, and_split, not_true}
use Rattle.implied_literals.specs.Tested.{IsSetOf, AreRowsOf, with_more, has_no_pair, may_take, is_sure, breaks_with, breaks_by}
use Rattle.implied_literals.specs.declared.known.Known.{Known}
use Rattle.implied_literals.proofs.published.Exact.{no_pair_to}
use Rattle.two_invariants.proofs.Steps.{more_within}

-- An action that knows a contradiction breaks nothing.

module _ (facts : ℕ) (known : Known) (x : Action) (rows : AreRowsOf (2 * facts) known.rows.items) (none : IsSetOf (2 * facts) (row_has known.none)) where
  abbrev before : ℕ → Bool
  before = with_more known.rows.items (row_has known.none) x.precondition

  still_pair : IsPairAcross before before true → (c : List ℕ) → has_no_pair facts (with_more known.rows.items before c) ≡ true → ⊥
  still_pair p c h =
      let within = more_within (2 * facts) known.rows.items before c rows (more_within (2 * facts) known.rows.items (row_has known.none) x.precondition rows none) in
      no_pair_to facts (with_more known.rows.items before c) within h p.0 (or_left _ _ p.1) (or_left _ _ p.2)

  pub breaks_nothing : IsPairAcross before before true → (l m : ℕ) → breaks_by facts known x l m ≡ false
  breaks_nothing p l m = not_true _ (λ t.
      let q = passing (breaks_with facts known.rows.items before x.effects l m) x.effects t in
      let c = q.one.condition in
      let e = and_split (q.one.literal == opposite l) _ q.passes in
      let may = and_split (may_take facts (with_more known.rows.items before c) x.effects l) (not (is_sure facts known.rows.items (with_more known.rows.items before c) x.effects m)) e.1 in
      still_pair p c (and_split (has_no_pair facts (with_more known.rows.items before c)) _ may.0).0)
