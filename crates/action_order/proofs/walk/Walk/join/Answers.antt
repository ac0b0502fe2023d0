use Rattle.std.proofs.Common.{◌≡◌, vec_len, length, true, false, sym, ◌∙◌, rules}
use Rattle.action_order.specs.own.Walk.{ends_past}
use Rattle.action_order.proofs.published.Lists.{front_last, last_past, none_past}
use Rattle.action_order.proofs.WalkLaw.{joined_once}
use Rattle.action_order.proofs.walk.Walk.join.Goals as goal

pub loop-self-preserved : goal.loop-self-preserved
loop-self-preserved c =
    let i = c.loop-self.invariant in
    let starts = c.loop-self.self.starts.items in
    let long : vec_len c.loop-self.self.starts ≡ length starts = search rules in
    let past : ends_past c.args.to starts ≡ true = rw (← c.as_slice.ensures.value) (sym c.ends_past.ensures ∙ c.loop-self-test.true) in
    let last = last_past starts c.args.to past in
    record {
      walk = record {
        walk = rw (c.pop.ensures.rest, long)
            (joined_once c.args.targets.now _ _ starts _ _ _ _ c.args.to i.walk.walk (front_last starts _ last.0) (rw i.stack c.requires.to) last.1 (rw i.stack c.requires.reached));
        sets = i.walk.sets;
      };
      marks = i.marks;
      stack = i.stack;
      work = i.work;
    }

pub returns-clause-joined : goal.returns-clause-joined
returns-clause-joined c =
    let i = c.loop-self.invariant in
    let none : ends_past c.args.to c.loop-self.self.starts.items ≡ false = rw (← c.as_slice.ensures.value) (sym c.ends_past.ensures ∙ c.loop-self-test.false) in
    none_past c.loop-self.self.starts.items c.args.to i.walk.walk.starts_rising none
