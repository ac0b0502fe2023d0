use Rattle.std.proofs.Common.{arith}
use Rattle.proof_log.proofs.NumberLaws.{few_bytes}
use Rattle.proof_log.proofs.number.put_number.Goals as goal

pub put_within-requires : goal.put_within-requires
put_within-requires c =
    let few = few_bytes c.args.number (omega arith) in
    omega (arith, few, c.in_ok-reserve.ensures.ok, c.reserve.new.self.ok)
