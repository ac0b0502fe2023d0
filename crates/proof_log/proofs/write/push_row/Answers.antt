use Rattle.std.proofs.Common.{◌≡◌, ◌∷◌, ◌++◌, [], ap, decimal, rules}
use Rattle.proof_log.specs.own.Reading.{numbered}
use Rattle.proof_log.proofs.Lengths.{row_written, row_done}
use Rattle.proof_log.proofs.write.push_row.Goals as goal

pub loop-number-init : goal.loop-number-init
loop-number-init c = ap (λ ns. c.args.text.now.items ++ numbered ns []) c.copy-rest.ensures

pub loop-number-preserved : goal.loop-number-preserved
loop-number-preserved c =
    let blank : c.push.new.self.items ≡ c.loop-number.text.items ++ 32 ∷ [] = search rules in
    let next : c.push_number.new.text.items ≡ c.push.new.self.items ++ decimal c.in-Some.number = search rules in
    row_written c.loop-number.rest c.next.new.self c.loop-number.text.items c.push.new.self.items c.push_number.new.text.items _ c.in-Some.number c.in-Some.ensures.some c.loop-number.invariant blank next

pub returns : goal.returns
returns c =
    let none : c.loop-number.rest ≡ [] = search rules in
    row_done c.loop-number.rest c.loop-number.text.items _ none c.loop-number.invariant
