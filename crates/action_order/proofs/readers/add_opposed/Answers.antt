use Rattle.std.proofs.Common.{arith, ◌≡◌, ◌∙◌, ◌<◌, ◌||◌, inl, inr, ap, sym, subst, Bool, true, length, List, [], ℕ}
use Rattle.std.proofs.lemmas.List.{get_or_read}
use Rattle.std.proofs.lemmas.Bool.{cases_lt}
use Rattle.bit_sets.specs.Rows.{row_has}
use Rattle.gt_core.specs.Literal.{opposite}
use Rattle.gt_core.proofs.published.Basics.{apart, or_left, or_right, or_split}
use Rattle.action_order.specs.own.Graph.{row_at}
use Rattle.action_order.proofs.readers.add_opposed.Goals as goal

pub loop-m-preserved : goal.loop-m-preserved
loop-m-preserved c = record {
  old = λ b t. has b ∙ or_left _ _ (c.loop-m.invariant.old b t);
  all = λ k lt short s b t. elim (cases_lt k c.loop-m.from) [
    | inl l ↦ has b ∙ or_left _ _ (c.loop-m.invariant.all k l short s b t)
    | inr g ↦ elim (cases_lt k c.in-Some.m) [
      | inl l ↦ absurd (apart (lits k) s (c.in-Some.ensures.2 k g l))
      | inr h ↦ let e : c.in-Some.m ≡ k = omega arith in
          has b ∙ or_right _ _ (ap (λ (r : List ℕ). row_has r b) read ∙ subst (λ (j : ℕ). row_has (row_at needing (opposite j)) b ≡ true) (sym e) t)
    ]
  ];
  only = λ b t. elim (or_split _ _ (sym (has b) ∙ t)) [
    | inl o ↦ c.loop-m.invariant.only b o
    | inr n ↦ inr (c.in-Some.m, below, c.in-Some.ensures.1, ap (λ (r : List ℕ). row_has r b) (sym read) ∙ n)
  ];
}
  where
    needing : List (List ℕ)
    needing = c.args.needing.now

    lits : ℕ → Bool
    lits = row_has c.args.lits.now

    below : c.in-Some.m < length needing
    below = let l = c.if-m-needing.false in omega arith

    has : (b : ℕ) → row_has c.unite.new.self b ≡ (row_has c.loop-m.row b || row_has c.index-needing-opposite.result b)
    has = c.in_ok-unite.ensures.has

    long : c.opposite.result < length needing
    long = subst (λ (k : ℕ). k < length needing) (sym c.opposite.ensures) (c.requires.even c.in-Some.m below)

    read : c.index-needing-opposite.result ≡ row_at needing (opposite c.in-Some.m)
    read = get_or_read needing c.opposite.result c.index-needing-opposite.result long c.index-needing-opposite.is [] ∙ ap (row_at needing) c.opposite.ensures

pub returns-clause-all : goal.returns-clause-all
returns-clause-all c = λ m short s. elim (cases_lt m c.loop-m.from) [
  | inl l ↦ c.loop-m.invariant.all m l short s
  | inr g ↦ absurd (apart (row_has c.args.lits.now m) s (c.in_default.ensures m g))
]
