use Rattle.std.proofs.Common.{sym, subst}
use Rattle.pd_model.specs.Sameness.{Under, IsSame, last_under, no_under}
use Rattle.pd_model.proofs.published.Marks.{same_under, same_pushed}
use Rattle.pd_task.proofs.found.Found.push.Goals as goal

pub push-requires : goal.push-requires
push-requires c =
    subst (λ (u : Under). IsSame (last_under no_under c.self.inside.effects) u c.self.inside.same) (sym (same_under _ _ c.in_ok-copy.ensures c.in_ok-copy-2.ensures)) c.self.invariant

pub invariant_of-self-2 : goal.invariant_of-self-2
invariant_of-self-2 c = same_pushed no_under _ c.self.inside.effects c.push.new.self _ _ c.in_ok-push.ensures.ok (same_under _ _ c.in_ok-copy.ensures c.in_ok-copy-2.ensures)
