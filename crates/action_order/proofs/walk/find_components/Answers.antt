use Rattle.std.proofs.Common.{arith, ◌≡◌, ℕ, subst, inl, inr}
use Rattle.std.proofs.lemmas.Bool.{cases_lt}
use Rattle.action_order.specs.own.Walk.{mark_of}
use Rattle.action_order.specs.declared.walk.Mark.TheVariants.{Unseen}
use Rattle.action_order.proofs.ClassLaw.{classed}
use Rattle.action_order.proofs.walk.find_components.Goals as goal

pub loop-root-preserved : goal.loop-root-preserved
loop-root-preserved c =
    let entered = c.in_ok-enter.ensures in
    let walked = c.in_ok-walk_on.ensures in
    record {
      walk = walked.walk;
      start = walked.end;
      seen = λ v lt. walked.keeps v (elim (cases_lt v c.loop-root.root) [
        | inl h ↦ entered.keeps v (c.loop-root.invariant.seen v h)
        | inr h ↦ subst (λ (u : ℕ). mark_of c.enter.new.self.marks.items u ≡ Unseen → ⊥) (omega arith) entered.seen
      ]);
    }

pub returns : goal.returns
returns c =
    let i = c.loop-root.invariant in
    rw (c.in_ok-numbers.ensures, c.as_slice.ensures.value) (classed c.args.targets.now c.loop-root.walk.marks.items _ _ _ _ i.walk.walk i.start (λ v lt. i.seen v (omega arith)))
