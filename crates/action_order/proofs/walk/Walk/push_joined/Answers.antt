use Rattle.std.proofs.Common.{arith, ◌<◌, length}
use Rattle.action_order.proofs.WalkLaw.{opened_joined, marked_below, unseen_at}
use Rattle.action_order.proofs.walk.Walk.push_joined.Goals as goal

pub returns-clause-walk : goal.returns-clause-walk
returns-clause-walk c =
    let e = c.in_ok-stack_up.ensures in
    let w = c.requires.walk.walk in
    let l = c.requires.lowest in
    let u = l.0 in
    let below : u.0 < length c.args.targets.now = let m = marked_below c.args.self.now.marks.items u.0 (λ un. unseen_at _ c.args.to un u.2) in let long = w.marks_long in omega arith in
    record {
      walk = rw (e.marks, e.stack, e.work, e.starts, e.roots)
          (opened_joined c.args.targets.now _ _ _ _ _ w c.args.v c.requires.vertex c.requires.unseen c.requires.reached c.args.to u.0 u.1 u.2 below l.1 c.requires.joined);
      sets = e.sets;
    }
