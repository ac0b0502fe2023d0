use Rattle.std.proofs.lemmas.List.{take_all}
use Rattle.std.proofs.Common.{ℕ, [], ◌∷◌, ◌++◌, slice_index, ap, ◌∙◌}
use Rattle.pd_words.proofs.Lineage.{map_more}
use Rattle.pd_words.proofs.ancestors.composed.Goals as goal

pub loop-i-preserved : goal.loop-i-preserved
loop-i-preserved c =
    map_more (slice_index c.args.outer.now) c.args.inner.now c.loop-i.i-index 0 c.loop-i.numbers.items c.push.new.self.items c.loop-i-test.true c.loop-i.invariant
    (c.in_ok-push.ensures.items ∙ ap (λ (x : ℕ). c.loop-i.numbers.items ++ x ∷ []) c.number_at.ensures)

pub returns-clause-composed : goal.returns-clause-composed
returns-clause-composed c = rw (take_all c.loop-i.i-index c.args.inner.now c.loop-i-test.false) at c.loop-i.invariant
