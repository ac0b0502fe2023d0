use Rattle.std.proofs.Common.{arith, ◌≡◌, ◌<◌, ℕ, List, ◌+◌, vec_len, length, take, ◌-◌, rules}
use Rattle.std.proofs.lemmas.List.{get_or_read, length-take-le}
use Rattle.action_order.specs.own.Walk.{MarksFrom, TakesFrom}
use Rattle.action_order.specs.declared.walk.Mark.TheVariants.{Done}
use Rattle.action_order.proofs.published.Lists.{front_last, last_in}
use Rattle.action_order.proofs.MoveLaw.{same_unseen}
use Rattle.action_order.proofs.CloseLaw.{closed, closed_sets, closed_keeps, closed_unseen}
use Rattle.action_order.proofs.walk.Walk.close.Goals as goal

taken_one : (xs : List ℕ) → 0 < length xs → length (take (length xs - 1) xs) + 1 ≡ length xs
taken_one xs some = let l = length-take-le (length xs - 1) xs (omega arith) in omega arith

pub index-requires : goal.index-requires
index-requires c =
    let long : vec_len c.args.self.now.stack ≡ length c.args.self.now.stack.items = search rules in
    let lt = c.requires.walk.walk.work_within c.args.place (last_in _ c.args.place c.requires.last) in omega arith

pub finish-requires-clause-place : goal.finish-requires-clause-place
finish-requires-clause-place c =
    let lt = c.requires.walk.walk.work_within c.args.place (last_in _ c.args.place c.requires.last) in
    rw c.as_slice.ensures.value (omega arith)

pub unstack-requires : goal.unstack-requires
unstack-requires c =
    let lt = c.requires.walk.walk.work_within c.args.place (last_in _ c.args.place c.requires.last) in
    rw c.as_slice-2.ensures.value (omega arith)

pub returns : goal.returns
returns c =
    let w = c.requires.walk.walk in
    let starts_long : vec_len c.args.self.now.starts ≡ length c.args.self.now.starts.items = search rules in
    let work_long : vec_len c.args.self.now.work ≡ length c.args.self.now.work.items = search rules in
    let after_long : vec_len c.pop-2.new.self ≡ length c.pop-2.new.self.items = search rules in
    let number : c.len-number.result ≡ length c.args.self.now.roots.items = search rules in
    let lt = w.work_within c.args.place (last_in _ c.args.place c.requires.last) in
    let root = get_or_read c.args.self.now.stack.items c.args.place c.index.result.now lt c.index.ensures 0 in
    let finish : MarksFrom c.args.self.now.marks.items c.finish.new.marks.items c.args.self.now.stack.items c.args.place (length c.args.self.now.stack.items) (Done (length c.args.self.now.roots.items)) = rw (← number, ← c.as_slice.ensures.value) c.finish.ensures in
    let takes : TakesFrom c.args.self.now.stack.items c.args.place (length c.args.self.now.stack.items) c.args.self.now.stacked c.unstack.new.stacked = rw (← c.as_slice-2.ensures.value) c.unstack.ensures in
    let start = front_last _ c.args.place c.requires.start in
    let last = front_last _ c.args.place c.requires.last in
    let same = same_unseen c.args.self.now.marks.items c.finish.new.marks.items finish.long (closed_unseen c.args.targets.now _ _ _ _ _ _ _ _ c.args.place w lt start last c.requires.spent finish) in
    let some = c.requires.last.some in
    let popped = c.pop-2.ensures.rest in
    let shorter : length c.pop-2.new.self.items + 1 ≡ length c.args.self.now.work.items = rw (popped, work_long) (taken_one c.args.self.now.work.items some) in
    record {
      walk = record {
        walk = rw (c.truncate.ensures.items, c.pop.ensures.rest, c.pop-2.ensures.rest, c.in_ok-push.ensures.items, starts_long, work_long, root)
            (closed c.args.targets.now _ _ _ _ _ _ _ _ c.args.place w lt start last c.requires.spent finish);
        sets = closed_sets c.args.targets.now _ _ _ _ _ _ _ _ c.args.place w lt start last c.requires.spent finish _ _ _ c.requires.walk.sets takes;
      };
      keeps = closed_keeps c.args.targets.now _ _ _ _ _ _ _ _ c.args.place w lt start last c.requires.spent finish;
      less = omega (arith, same);
    }
