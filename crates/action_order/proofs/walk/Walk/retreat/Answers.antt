use Rattle.std.proofs.Common.{◌≡◌, false, sym, ◌∙◌}
use Rattle.action_order.specs.own.Walk.{ends_with}
use Rattle.action_order.proofs.MoveLaw.{no_start}
use Rattle.action_order.proofs.walk.Walk.retreat.Goals as goal

pub leave-requires-clause-no_start : goal.leave-requires-clause-no_start
leave-requires-clause-no_start c =
    let none : ends_with c.args.place c.args.self.now.starts.items ≡ false = rw (← c.as_slice.ensures.value) (sym c.ends_with.ensures ∙ c.if-ends_with.false) in
    no_start c.args.targets.now _ _ _ _ _ c.requires.walk.walk c.args.place c.requires.last none
