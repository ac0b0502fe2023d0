use Rattle.std.proofs.Common.{◌≡◌, ◌∙◌, ◌<◌, ◌&&◌, ◌||◌, ◌⊎◌, inl, inr, ap, sym, subst, Bool, true, length, List, [], ℕ}
use Rattle.std.proofs.lemmas.List.{get_or_read}
use Rattle.std.proofs.lemmas.Bool.{cases_lt}
use Rattle.bit_sets.specs.Rows.{row_has}
use Rattle.gt_core.specs.Literal.{opposite}
use Rattle.gt_core.proofs.published.Basics.{apart, or_left, or_right, or_split, and_split, and_both}
use Rattle.implied_literals.specs.Rows.{row_at, clause_in, IsChained, IsPart}
use Rattle.implied_literals.proofs.Bounding.{next_too}
use Rattle.implied_literals.proofs.bound.add_told.Goals as goal

pub loop-x-preserved : goal.loop-x-preserved
loop-x-preserved c = record {
  all = λ x y lt s v. next_too (λ (k : ℕ). (m : ℕ) → set k ≡ true → clause_in clauses (opposite k) m ≡ true → row_has c.unite.new.self m ≡ true) c.loop-x.from c.in-Some.x
      (λ j g l m t w. absurd (apart (set j && row_has c.args.bound.now.opposites j) (and_both _ _ t (c.requires.bound.opposites j m w)) (c.in-Some.ensures.2 j g l)))
      (λ j l m t w. has m ∙ or_left _ _ (c.loop-x.invariant.all j m l t w))
      (λ m t w. has m ∙ or_right _ _ (ap (λ (r : List ℕ). row_has r m) read ∙ w))
      x lt y s v;
  only = λ other ch part old m h. by other ch part old m (or_split _ _ (sym (has m) ∙ h));
}
  where
    clauses : List (List ℕ)
    clauses = c.args.clauses.now

    set : ℕ → Bool
    set = row_has c.args.set.now

    has : (m : ℕ) → row_has c.unite.new.self m ≡ (row_has c.loop-x.told m || row_has c.index-clauses-opposite.result m)
    has = c.in_ok-unite.ensures.has

    in_set : set c.in-Some.x ≡ true
    in_set = (and_split _ _ c.in-Some.ensures.1).0

    long : c.opposite.result < length clauses
    long = subst (λ (k : ℕ). k < length clauses) (sym c.opposite.ensures) (c.requires.even c.in-Some.x (c.requires.set c.in-Some.x in_set))

    read : c.index-clauses-opposite.result ≡ row_at clauses (opposite c.in-Some.x)
    read = get_or_read clauses c.opposite.result c.index-clauses-opposite.result long c.index-clauses-opposite.is [] ∙ ap (row_at clauses) c.opposite.ensures

    by : (other : ℕ → Bool) → IsChained (clause_in clauses) other → IsPart set other → IsPart (row_has c.args.told.now) other → (m : ℕ)
        → (row_has c.loop-x.told m ≡ true) ⊎ (row_has c.index-clauses-opposite.result m ≡ true) → other m ≡ true
    by other ch part old m (inl t) = c.loop-x.invariant.only other ch part old m t
    by other ch part old m (inr t) = ch c.in-Some.x m (part c.in-Some.x in_set) (ap (λ (r : List ℕ). row_has r m) (sym read) ∙ t)

pub returns : goal.returns
returns c = record {
  all = λ x y s v. elim (cases_lt x c.loop-x.from) [
    | inl l ↦ c.loop-x.invariant.all x y l s v
    | inr g ↦ absurd (apart (row_has c.args.set.now x && row_has c.args.bound.now.opposites x) (and_both _ _ s (c.requires.bound.opposites x y v)) (c.in_default.ensures x g))
  ];
  only = c.loop-x.invariant.only;
}
