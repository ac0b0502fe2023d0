use Rattle.std.proofs.Common.{arith, ◌≡◌, true, false, subst}
use Rattle.clause_base.specs.Clause.{has_literal}
use Rattle.clause_base.specs.declared.pair.Pair.{Pair}
use Rattle.bit_sets.specs.Layered.{words_have}
use Rattle.propagation.proofs.Asks.{marked_more}
use Rattle.propagation.proofs.marks.mark_all.Goals as goal

pub loop-place-init : goal.loop-place-init
loop-place-init c = record {
  in_set = λ i h. absurd (omega (arith, h));
  grows = λ k h. h;
  asks = c.requires.asks;
}

pub loop-place-preserved : goal.loop-place-preserved
loop-place-preserved c =
    let i = c.loop-place.invariant in
    let e = c.mark.ensures in
    let own = subst (λ (p : Pair). has_literal c.args.assignment.now.trail p.other ≡ false → words_have c.mark.new.pending.numbers p.number ≡ true) c.at.ensures e.in_set in
    record {
      in_set = marked_more c.args.pairs.now c.loop-place.place (has_literal c.args.assignment.now.trail) (words_have c.loop-place.pending.numbers)
          (words_have c.mark.new.pending.numbers) i.in_set e.grows own;
      grows = λ k h. e.grows k (i.grows k h);
      asks = e.asks;
    }
