use Rattle.std.proofs.Common.{◌≡◌, ◌∙◌, ◌&&◌, inl, inr, ap, sym, true, List, [], ℕ}
use Rattle.std.proofs.lemmas.List.{get_or_read}
use Rattle.std.proofs.lemmas.Bool.{cases_lt}
use Rattle.bit_sets.specs.Rows.{row_has}
use Rattle.gt_core.proofs.published.Basics.{apart, or_left, or_right, and_split, and_both}
use Rattle.implied_literals.specs.Rows.{clause_in}
use Rattle.implied_literals.proofs.Bounding.{next_too}
use Rattle.implied_literals.proofs.renew.add_partners.Goals as goal

pub loop-y-preserved : goal.loop-y-preserved
loop-y-preserved c = λ y m lt l v.
    let clauses = c.args.rules.now.clauses.now in
    let lits = row_has c.args.lits.now in
    let has = c.in_ok-unite.ensures.has in
    let read = sym c.index-rules-y.is ∙ get_or_read clauses c.in-Some.y c.index-rules-y.result (c.requires.lits c.in-Some.y (and_split _ _ c.in-Some.ensures.1).0) c.index-rules-y.is [] in
    next_too (λ (k : ℕ). (n : ℕ) → lits k ≡ true → clause_in clauses k n ≡ true → row_has c.unite.new.self n ≡ true) c.loop-y.from c.in-Some.y
    (λ j g b n t w. absurd (apart (lits j && row_has c.args.rules.now.bound.now.literals j) (and_both _ _ t (c.requires.bound.literals j n w)) (c.in-Some.ensures.2 j g b)))
    (λ j b n t w. has n ∙ or_left _ _ (c.loop-y.invariant j n b t w))
    (λ n t w. has n ∙ or_right _ _ (ap (λ (r : List ℕ). row_has r n) read ∙ w))
    y lt m l v

pub returns : goal.returns
returns c = λ y m l v. elim (cases_lt y c.loop-y.from) [
  | inl b ↦ c.loop-y.invariant y m b l v
  | inr g ↦ absurd (apart (row_has c.args.lits.now y && row_has c.args.rules.now.bound.now.literals y) (and_both _ _ l (c.requires.bound.literals y m v)) (c.in_default.ensures y g))
]
