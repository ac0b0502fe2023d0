use Rattle.std.proofs.Common.{arith, rules, ◌≡◌, length}
use Rattle.lrat_judge.specs.Ids.{Rises}
use Rattle.lrat_judge.proofs.Places.{added_dense, follow_more}
use Rattle.lrat_judge.proofs.ids.IdTable.push.Goals as goal

pub invariant_of-self-in-Continue-1 : goal.invariant_of-self-in-Continue-1
invariant_of-self-in-Continue-1 c =
    let rises : Rises c.args.id c.args.self.now = record {
      positive = omega arith;
      above = λ k h. let most = c.last.ensures.most k h in omega (arith, most);
    } in
    follow_more c.self.inside.dense c.self.inside.later.items c.args.self.now c.push.new.self.items c.args.id c.self.view_is c.self.invariant rises c.in_ok-push.ensures.items

pub returns-then-id-self-clause-added : goal.returns-then-id-self-clause-added
returns-then-id-self-clause-added c _ =
    let none : length c.self.inside.later.items ≡ 0 = search rules in
    added_dense c.self.inside.dense c.self.inside.later.items c.args.self.now c.args.id c.self.view_is none (omega arith)
