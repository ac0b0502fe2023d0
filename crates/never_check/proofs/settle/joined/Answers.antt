use Rattle.std.proofs.Common.{arith, ◌<◌, ◌+◌, ◌++◌, ◌∙◌, ℕ, List, length, drop, ap}
use Rattle.never_check.proofs.Settling.{joined_next}
use Rattle.never_check.proofs.settle.joined.Goals as goal

pub loop-number-preserved : goal.loop-number-preserved
loop-number-preserved c =
    let second = c.args.second.now in
    let lt : c.loop-number.number < length second = let t = c.loop-number-test.true in let l = c.len-number-end.ensures in omega (arith, t, l) in
    ap (λ (cs : List (List ℕ)). cs ++ drop (c.loop-number.number + 1) second) c.in_ok-push.ensures.ok
    ∙ joined_next c.loop-number.clauses second (c.args.first.now ++ second) c.loop-number.number c.at.result.now lt c.at.ensures c.loop-number.invariant
