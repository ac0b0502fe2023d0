use Rattle.std.proofs.Common.{◌≡◌, ◌∷◌, [], ◌++◌, ◌∙◌, List, ℕ, ap, subst}
use Rattle.gt_core.specs.Task.{Effect}
use Rattle.successors.specs.Moves.{AreMade}
use Rattle.successors.proofs.moves.Moves.add.Goals as goal

pub returns : goal.returns
returns c = record {
  plain = c.in_ok-plain.plain;
  needs = c.pre.result.now;
  deletes = c.gather.new.deletes.items;
  adds = c.gather.new.adds.items;
  is = record {
    needing = c.pre.ensures;
    deleting = λ plain. subst (λ (es : List Effect). AreMade c.args.facts es 1 c.gather.new.deletes.items) c.effects.ensures (c.in_ok-plain.ensures.deletes plain);
    adding = λ plain. subst (λ (es : List Effect). AreMade c.args.facts es 0 c.gather.new.adds.items) c.effects.ensures (c.in_ok-plain.ensures.adds plain);
  };
  plains = c.in_ok-push.ensures.items;
  lists =
      c.in_ok-push-4.ensures.ok
      ∙ ap (λ (ls : List (List ℕ)). ls ++ c.as_slice-2.result.now ∷ []) (c.in_ok-push-3.ensures.ok ∙ ap (λ (ls : List (List ℕ)). ls ++ c.as_slice.result.now ∷ []) c.in_ok-push-2.ensures.ok)
      ∙ ap (λ (xs : List ℕ). ((c.args.self.now.lists ++ c.pre.result.now ∷ []) ++ c.as_slice.result.now ∷ []) ++ xs ∷ []) c.as_slice-2.ensures.value
      ∙ ap (λ (xs : List ℕ). ((c.args.self.now.lists ++ c.pre.result.now ∷ []) ++ xs ∷ []) ++ c.gather.new.adds.items ∷ []) c.as_slice.ensures.value;
}
