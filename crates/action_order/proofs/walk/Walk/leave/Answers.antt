use Rattle.std.proofs.Common.{◌≡◌, vec_len, length, rules}
use Rattle.action_order.proofs.published.Lists.{front_last}
use Rattle.action_order.proofs.WalkLaw.{left}
use Rattle.action_order.proofs.walk.Walk.leave.Goals as goal

pub returns-clause-walk : goal.returns-clause-walk
returns-clause-walk c =
    let long : vec_len c.args.self.now.work ≡ length c.args.self.now.work.items = search rules in
    record {
      walk = rw (c.pop.ensures.rest, long)
          (left c.args.targets.now _ _ _ _ _ c.args.place _ c.requires.walk.walk (front_last _ c.args.place c.requires.last) c.requires.spent c.requires.no_start);
      sets = c.requires.walk.sets;
    }
