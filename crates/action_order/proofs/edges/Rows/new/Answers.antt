use Rattle.std.proofs.Common.{arith, ◌*◌, ◌<◌, ℕ, subst}
use Rattle.std.specs.List.{AllByRecursion}
use Rattle.action_order.proofs.EdgesLaw.{each_row}
use Rattle.action_order.specs.own.Edges.{surely}
use Rattle.action_order.specs.own.Readers.{AreRowsOf, AreExclusions}
use Rattle.action_order.proofs.edges.Rows.new.Goals as goal

pub find_makers-requires-clause-below : goal.find_makers-requires-clause-below
find_makers-requires-clause-below c =
    rw c.as_slice.ensures.value (each_row (AllByRecursion (λ l. l < 2 * c.args.facts)) c.in_ok-sure.sure.items (λ a lt. (c.in_ok-sure.ensures.each a (let l = c.in_ok-sure.ensures.long in omega arith)).below))

pub returns : goal.returns
returns c =
    let r = c.in_ok-readers.readers in
    let e = c.in_ok-readers.ensures in
    record {
      needing = e.needing;
      asking = e.asking;
      sure = c.in_ok-sure.ensures;
      making = subst (λ (n : ℕ). AreRowsOf (surely c.in_ok-sure.sure.items) (2 * c.args.facts) n c.in_ok-making.making.items) c.in_ok-sure.ensures.long (rw c.as_slice.ensures.value at c.in_ok-making.ensures);
      excluding = subst (λ (n : ℕ). AreExclusions c.args.pairs.now.clauses r.needing.items n c.in_ok-excluding.excluding.items) e.needing.long (rw c.as_slice-2.ensures.value at c.in_ok-excluding.ensures);
    }
