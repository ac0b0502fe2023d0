use Rattle.std.proofs.Common.{◌≡◌, ◌∷◌, ◌++◌, [], codes, decimal, rules}
use Rattle.proof_log.proofs.Lengths.{drop_written}
use Rattle.proof_log.proofs.write.push_drop.Goals as goal

pub returns : goal.returns
returns c =
    let first : c.extend_from_slice.new.self.items ≡ c.args.text.now.items ++ codes "drop " = search rules in
    let digits : c.push_number.new.text.items ≡ c.extend_from_slice.new.self.items ++ decimal c.args.number = search rules in
    let whole : c.push.new.self.items ≡ c.push_number.new.text.items ++ 10 ∷ [] = search rules in
    drop_written c.args.number c.args.text.now.items c.extend_from_slice.new.self.items c.push_number.new.text.items c.push.new.self.items first digits whole
