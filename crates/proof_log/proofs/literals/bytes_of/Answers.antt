-- bytes_of
use Rattle.std.proofs.Common.{arith, rules, ◌≡◌, ◌++◌, ◌<◌, ◌^◌, length}
use Rattle.proof_log.specs.own.Number.{bytes_of}
use Rattle.proof_log.specs.own.Numbers.{steps_of}
use Rattle.proof_log.proofs.LiteralLaws.{counted_back}
use Rattle.proof_log.proofs.literals.bytes_of.Goals as goal

pub returns : goal.returns
returns c =
    let same : c.in_ok-exact.exact ≡ c.put_numbers.new.bytes.items = search rules in
    let put : c.put_numbers.new.bytes.items ≡ bytes_of (length c.args.codes.now) ++ steps_of 0 c.args.codes.now = search rules in
    let few : length c.args.codes.now < 2 ^ 64 = omega arith in
    counted_back c.args.codes.now c.put_numbers.new.bytes.items c.in_ok-exact.exact few c.in_ok-put_numbers.ensures.small put same
