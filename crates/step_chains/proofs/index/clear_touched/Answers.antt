use Rattle.std.proofs.Common.{arith, ◌<◌, length, refl, ◌∙◌}
use Rattle.std.proofs.Math.ListN.{length-set}
use Rattle.step_chains.proofs.IndexLaw.{still_touched, below_next, none_anywhere}
use Rattle.step_chains.proofs.index.clear_touched.Goals as goal

pub loop-lit-init : goal.loop-lit-init
loop-lit-init c = record {
  long = refl;
  touched = c.requires.touched;
  below = λ k lt. c.requires.touched k (c.next_touched-lit.ensures.none k (omega arith) lt);
  within = c.next_touched-lit.ensures.within;
}

pub loop-lit-preserved : goal.loop-lit-preserved
loop-lit-preserved c =
    let lists = c.loop-lit.lists.items in
    let lit = c.loop-lit.lit in
    let lt : lit < length lists = let a = c.loop-lit-test.true in let b = c.requires.long in let e = c.loop-lit.invariant.long in omega (arith, a, b, e) in
    record {
      long = length-set lists lit c.clear.new.self ∙ c.loop-lit.invariant.long;
      touched = still_touched c.args.touched.now lists lit c.clear.new.self c.clear.ensures lt c.loop-lit.invariant.touched;
      below = below_next c.args.touched.now lists lit c.next_touched-next.result c.clear.new.self c.clear.ensures lt c.loop-lit.invariant.touched c.loop-lit.invariant.below c.next_touched-next.ensures.none;
      within = c.next_touched-next.ensures.within;
    }

pub returns-clause-empty : goal.returns-clause-empty
returns-clause-empty c =
    none_anywhere c.loop-lit.lists.items c.loop-lit.lit (let a = c.loop-lit-test.false in let b = c.requires.long in let e = c.loop-lit.invariant.long in omega (arith, a, b, e)) c.loop-lit.invariant.below
