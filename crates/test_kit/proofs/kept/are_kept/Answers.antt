use Rattle.std.proofs.Common.{arith, sym, ◌∙◌}
use Rattle.test_kit.proofs.KeptLaw.{one_more, all_kept}
use Rattle.test_kit.proofs.kept.are_kept.Goals as goal

pub loop-i-preserved : goal.loop-i-preserved
loop-i-preserved c =
    one_more c.args.task.now c.args.pairs.now.clauses c.loop-i.i c.at-l.result c.loop-i.invariant c.at-l.ensures (sym c.is_kept.ensures ∙ c.if-not-is_kept.false)

pub returns : goal.returns
returns c _ =
    all_kept c.args.task.now c.args.pairs.now.clauses (λ k lt. c.loop-i.invariant k (let a = c.loop-i-test.false in let e = c.count-i-end.ensures.count in omega (arith, a, e, lt)))
