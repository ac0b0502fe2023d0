use Rattle.std.proofs.Common.{◌≡◌, ◌≤◌, [], sym, subst, rules}
use Rattle.proof_log.specs.Text.{AreSmall}
use Rattle.proof_log.proofs.Lengths.{small_by}
use Rattle.proof_log.proofs.every_log.row_is_small.Goals as goal

pub loop-number-init : goal.loop-number-init
loop-number-init c = subst AreSmall c.copy-rest.ensures

pub loop-number-preserved : goal.loop-number-preserved
loop-number-preserved c =
    let small : c.in-Some.number ≤ 4294967295 = search rules in
    small_by c.loop-number.rest c.next.new.self c.args.numbers.now c.in-Some.number c.in-Some.ensures.some small c.loop-number.invariant

pub returns : goal.returns
returns c =
    let none : c.loop-number.rest ≡ [] = search rules in
    c.loop-number.invariant (subst AreSmall (sym none) tt)
