use Rattle.std.proofs.Common.{◌≡◌, length, rules}
use Rattle.action_order.proofs.WalkLaw.{opened_alone}
use Rattle.action_order.proofs.walk.Walk.push_alone.Goals as goal

pub returns-clause-walk : goal.returns-clause-walk
returns-clause-walk c =
    let place : c.len-place.result ≡ length c.args.self.now.stack.items = search rules in
    let e = c.in_ok-stack_up.ensures in
    record {
      walk = rw (e.marks, e.stack, e.work, e.starts, e.roots, c.in_ok-push.ensures.items, place)
          (opened_alone c.args.targets.now _ _ _ _ _ c.requires.walk.walk c.args.v c.requires.vertex c.requires.unseen c.requires.reached c.requires.alone);
      sets = e.sets;
    }
