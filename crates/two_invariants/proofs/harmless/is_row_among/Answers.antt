use Rattle.std.proofs.Common.{◌∙◌, inl, inr, ap, sym, ℕ, List, []}
use Rattle.std.proofs.lemmas.List.{get_or_read}
use Rattle.std.proofs.lemmas.Bool.{OnTrue_at}
use Rattle.bit_sets.specs.Rows.{row_has}
use Rattle.gt_core.proofs.published.Basics.{apart, or_split}
use Rattle.implied_literals.specs.Rows.{clause_in}
use Rattle.two_invariants.proofs.harmless.is_row_among.Goals as goal

pub returns : goal.returns
returns c = λ t m v f.
    let row = get_or_read c.args.clauses.now c.args.l c.index-clauses-l.result c.requires.clauses c.index-clauses-l.is [] in
    let lost = get_or_read c.args.lost.now c.args.l c.index-lost-l.result c.requires.lost c.index-lost-l.is [] in
    let inside = OnTrue_at t c.is_part_of-covered.ensures m (ap (λ (r : List ℕ). row_has r m) row ∙ v) in
    elim (or_split _ _ (sym (c.in_ok-unite.ensures.has m) ∙ inside)) [
      | inl h ↦ ap (λ (r : List ℕ). row_has r m) (sym c.in_ok-make_same.ensures) ∙ h
      | inr h ↦ absurd (apart (clause_in c.args.lost.now c.args.l m) (ap (λ (r : List ℕ). row_has r m) (sym lost) ∙ h) f)
    ]

pub returns-then-within : goal.returns-then-within
returns-then-within c = λ _ m v _.
    let row = get_or_read c.args.clauses.now c.args.l c.index-clauses-l.result c.requires.clauses c.index-clauses-l.is [] in
    OnTrue_at c.if-within.true c.is_part_of-within.ensures m (ap (λ (r : List ℕ). row_has r m) row ∙ v)
