use Rattle.std.proofs.Common.{◌≡◌, ◌∷◌, ◌++◌, [], codes, rules}
use Rattle.proof_log.proofs.Lengths.{learn_written}
use Rattle.proof_log.proofs.write.push_learn.Goals as goal

pub returns : goal.returns
returns c =
    let first : c.extend_from_slice.new.self.items ≡ c.args.text.now.items ++ codes "learn" = search rules in
    let by : c.extend_from_slice-2.new.self.items ≡ c.push_row.new.text.items ++ codes " by" = search rules in
    let whole : c.push.new.self.items ≡ c.push_row-2.new.text.items ++ 10 ∷ [] = search rules in
    learn_written c.args.clause.now c.args.hints.now c.args.text.now.items c.extend_from_slice.new.self.items c.push_row.new.text.items c.extend_from_slice-2.new.self.items
    c.push_row-2.new.text.items c.push.new.self.items first c.in_ok-push_row.ensures by c.in_ok-push_row-2.ensures whole
