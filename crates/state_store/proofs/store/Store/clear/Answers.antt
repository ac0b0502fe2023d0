use Rattle.std.proofs.Common.{arith, ◌∙◌, ap, sym}
use Rattle.state_store.proofs.StoreLaw.{kept_none}
use Rattle.state_store.proofs.store.Store.clear.Goals as goal

pub invariant_of-self : goal.invariant_of-self
invariant_of-self c =
    let old = c.self.invariant.0 in
    let le = rw (← c.self.view_is) at c.requires in
    let most = ap (λ b. b.most) c.clear.ensures in (
      kept_none c.self.inside.facts c.args.most c.clear.new.self c.clear-2.new.self.items c.clear-3.new.self.items c.restart.new.self old.facts (ap (λ b. b.width) c.clear.ensures ∙ old.width) (omega (arith, most, le)) (omega (arith, most, old.room))
          (ap (λ b. b.rows) c.clear.ensures) c.clear-2.ensures.items c.clear-3.ensures.items (c.restart.ensures.most ∙ old.kept.room ∙ sym most) c.restart.ensures.trees,
      record {
        parents = omega (arith, most, c.self.invariant.1.parents, c.clear-2.ensures.capacity);
        actions = omega (arith, most, c.self.invariant.1.actions, c.clear-3.ensures.capacity);
      },
    )
