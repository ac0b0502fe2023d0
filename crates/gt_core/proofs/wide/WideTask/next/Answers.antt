use Rattle.std.proofs.Common.{arith, ◌∙◌}
use Rattle.gt_core.specs.Limits.{wide_limits}
use Rattle.gt_core.specs.Literal.{state_of}
use Rattle.gt_core.proofs.published.Within.{precondition_in, action_effects_in}
use Rattle.gt_core.proofs.published.NextLaw.{next_after}
use Rattle.gt_core.proofs.wide.WideTask.next.Goals as goal

pub all_hold-requires : goal.all_hold-requires
all_hold-requires c =
    let w = precondition_in wide_limits c.args.self.now c.args.act c.act-does.ensures.lawful c.requires.act in
    rw (c.pre.ensures, c.act-does.ensures.act, c.requires.state) w

pub take_deletes-requires-clause-within : goal.take_deletes-requires-clause-within
take_deletes-requires-clause-within c =
    let w = action_effects_in wide_limits c.args.self.now c.args.act c.act-does.ensures.lawful c.requires.act in
    rw (c.effects.ensures, c.act-does.ensures.act, c.requires.state) w

pub take_adds-requires-clause-within : goal.take_adds-requires-clause-within
take_adds-requires-clause-within c =
    let w = action_effects_in wide_limits c.args.self.now c.args.act c.act-does.ensures.lawful c.requires.act in
    rw (c.effects-2.ensures, c.act-does.ensures.act, c.requires.state) w

pub returns-clause-next : goal.returns-clause-next
returns-clause-next c =
    next_after c.args.self.now (state_of c.args.state.now) c.args.act c.take_adds.new.into (omega arith) (λ f lt.
    let adds = c.take_adds.ensures f (omega arith) in
    let deletes = c.take_deletes.ensures f in
    adds ∙ rw (deletes, c.copy_from_slice.ensures.after, c.effects.ensures, c.effects-2.ensures, c.act-does.ensures.act))
