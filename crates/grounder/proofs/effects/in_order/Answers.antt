use Rattle.std.proofs.Common.{◌≡◌, ◌∙◌, ap, refl, subst}
use Rattle.std.specs.List.{dedup}
use Rattle.std.specs.List.Sorted as sort
use Rattle.std.proofs.lemmas.List.Filters.{dedup_is}
use Rattle.std.proofs.lemmas.List.Sorted.{IsPermutation-refl}
use Rattle.grounder.proofs.Compared.{effects_sorted, in_order_already, key_cmp, same_key}
use Rattle.grounder.proofs.effects.in_order.Goals as goal
use Rattle.grounder.proofs.effects.in_order.Goals.{then-not-is_sorted, else-not-is_sorted}

pub returns : goal.returns
returns c =
    let old = c.args.effects.items in
    let filtered = dedup_is _ c.if-not-is_sorted.effects.items c.dedup.new.self.items c.dedup.ensures.filtered in
    elim c.if-not-is_sorted.branch [
      | then-not-is_sorted w ↦
          let ordered : c.if-not-is_sorted.effects.items ≡ w.sort_unstable.new.self.items = rw w.effects-is refl in
          effects_sorted old w.sort_unstable.new.self.items c.dedup.new.self.items w.sort_unstable.ensures.permutation w.sort_unstable.ensures.sorted (filtered ∙ ap (dedup same_key) ordered)
      | else-not-is_sorted w ↦
          let ordered : c.if-not-is_sorted.effects.items ≡ old = rw w.effects-is refl in
          let sorted = in_order_already c.deref.result.now c.is_sorted.result c.is_sorted.ensures.cases w.if-not-is_sorted.false in
          effects_sorted old old c.dedup.new.self.items (IsPermutation-refl old) (subst (sort.IsSorted key_cmp) c.deref.ensures.value sorted) (filtered ∙ ap (dedup same_key) ordered)
    ]
