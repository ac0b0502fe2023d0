use Rattle.std.proofs.Common.{arith, ◌∙◌}
use Rattle.bit_sets.specs.Layered.{words_have}
use Rattle.propagation.proofs.Asks.{cleaned_least}
use Rattle.propagation.proofs.pending.Pending.clear.Goals as goal

pub clearing-preserved : goal.clearing-preserved
clearing-preserved c =
    let i = c.clearing.invariant in
    record {
      room = c.remove_least.ensures.room ∙ i.room;
      asks = i.asks;
      none = cleaned_least (words_have c.clearing.self.numbers) (words_have c.remove_least.new.self) c.in-Some.number c.in-Some.ensures
          (c.remove_least.ensures.has c.in-Some.number c.in-Some.ensures);
      low = omega arith;
    }
