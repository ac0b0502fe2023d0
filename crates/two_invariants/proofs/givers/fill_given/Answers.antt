use Rattle.std.proofs.Common.{◌&&◌, inl, inr, arith, ◌≡◌, ◌==◌, ◌∙◌, ℕ, List, ap, sym}
use Rattle.std.proofs.lemmas.Bool.{cases_lt}
use Rattle.bit_sets.specs.Rows.{row_has}
use Rattle.gt_core.proofs.published.Basics.{apart, and_split, and_both}
use Rattle.two_invariants.proofs.Indexing.{all_given}
use Rattle.std.specs.List.{list_any}
use Rattle.two_invariants.specs.own.Numbers.{numbers_for}
use Rattle.two_invariants.proofs.givers.fill_given.Goals as goal

pub returns : goal.returns
returns c =
    all_given (row_has c.args.set.now) (row_has c.loop-lit.given) c.args.groups.now c.args.givers.now c.requires.givers c.loop-lit.invariant.more c.loop-lit.invariant.sound
    (λ k n m g s f at gives. elim (cases_lt k c.loop-lit.from) [
      | inl l ↦ c.loop-lit.invariant.done k n m g l s f at gives
      | inr ge ↦ absurd (apart (row_has c.args.givers.now.by.literals k && row_has c.args.set.now k) (and_both _ _ (and_split _ _ f).0 s) (c.in_default.ensures k ge))
    ])

pub loop-lit-preserved : goal.loop-lit-preserved
loop-lit-preserved c =
    let i = c.loop-lit.invariant in
    let h = c.in-Some.ensures in
    let lit = c.in-Some.lit in
    let one = c.in_ok-give_listed.ensures in
    let lists = c.args.givers.now.by.lists.items in
    record {
      more = λ m t. one.more m (i.more m t);
      sound = λ m t. elim (one.sound m t) [
        | inl o ↦ i.sound m o
        | inr n ↦ n
      ];
      done = λ k n m g lt s f at gives. elim (cases_lt k c.loop-lit.from) [
        | inl l ↦ one.more m (i.done k n m g l s f at gives)
        | inr ge ↦ elim (cases_lt k lit) [
          | inl l ↦ absurd (apart (row_has c.args.givers.now.by.literals k && row_has c.args.set.now k) (and_both _ _ (and_split _ _ f).0 s) (h.2 k ge l))
          | inr le ↦ let e : k ≡ lit = omega (arith, lt, le) in
              one.done n m g (ap (λ (ns : List ℕ). list_any (λ x. x == n) ns) ((rw c.deref.ensures.value at c.list_of.ensures) ∙ ap (numbers_for lists) (sym e)) ∙ (and_split _ _ f).1) at gives
        ]
      ];
    }
