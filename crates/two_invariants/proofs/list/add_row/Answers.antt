use Rattle.std.proofs.Common.{arith, ◌∙◌, ◌*◌, ◌||◌, ap, Bool}
use Rattle.gt_core.specs.Interference.{has_clause}
use Rattle.two_invariants.proofs.Listing.{one_listed, all_listed}
use Rattle.two_invariants.proofs.list.add_row.Goals as goal

pub loop-m-preserved : goal.loop-m-preserved
loop-m-preserved c =
    let i = c.loop-m.invariant in
    let l = c.args.l in
    let found = c.in-Some.ensures in
    record {
      facts = c.in_ok-add.ensures.facts ∙ i.facts;
      lawful = c.in_ok-add.ensures.lawful;
      low = (let h = i.low in let k = found.0 in omega arith);
      has = λ a b. c.in_ok-add.ensures.added a b
          ∙ one_listed c.args.row.now l c.loop-m.from i.low c.in-Some.m found.0 found.1 found.2 a b (has_clause c.loop-m.pairs.clauses a b) (has_clause c.args.pairs.now.clauses a b) (i.has a b);
    }

pub returns-clause-has : goal.returns-clause-has
returns-clause-has c = λ a b.
    let i = c.loop-m.invariant in
    i.has a b ∙ ap (λ (f : Bool). has_clause c.args.pairs.now.clauses a b || f) (all_listed c.args.row.now c.args.l c.loop-m.from i.low (2 * c.args.facts) a b c.requires.within c.in_default.ensures)
