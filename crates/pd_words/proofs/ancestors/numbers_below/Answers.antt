use Rattle.std.proofs.Common.{List, ℕ, [], ◌∷◌, ◌++◌, ap, sym, ◌∙◌}
use Rattle.pd_words.proofs.Lineage.{numbers_more}
use Rattle.pd_words.proofs.ancestors.numbers_below.Goals as goal

pub loop-i-preserved : goal.loop-i-preserved
loop-i-preserved c = c.in_ok-push.ensures.items ∙ ap (λ (xs : List ℕ). xs ++ c.loop-i.i ∷ []) c.loop-i.invariant ∙ sym (numbers_more c.loop-i.i)
