use Rattle.std.proofs.Common.{arith, ◌∙◌, ◌*◌, ◌<◌, ap, sym, ℕ, List, [], length}
use Rattle.std.proofs.lemmas.List.{get_or_read}
use Rattle.bit_sets.specs.Rows.{row_has}
use Rattle.gt_core.specs.Interference.{has_clause}
use Rattle.implied_literals.specs.Rows.{clause_in}
use Rattle.two_invariants.proofs.Listing.{listed_more}
use Rattle.two_invariants.proofs.list.list_clauses.Goals as goal

pub add_row-requires-clause-within : goal.add_row-requires-clause-within
add_row-requires-clause-within c m t =
    let lt : c.loop-l.l < length c.args.rows.now = let h = c.loop-l-test.true in let n = c.requires.rows.long in omega arith in
    let read = get_or_read c.args.rows.now c.loop-l.l c.index-rows-l.result lt c.index-rows-l.is [] in
    c.requires.rows.within c.loop-l.l m (ap (λ (r : List ℕ). row_has r m) (sym read) ∙ t)

pub loop-l-preserved : goal.loop-l-preserved
loop-l-preserved c =
    let lt : c.loop-l.l < length c.args.rows.now = let h = c.loop-l-test.true in let n = c.requires.rows.long in omega arith in
    let read = get_or_read c.args.rows.now c.loop-l.l c.index-rows-l.result lt c.index-rows-l.is [] in
    record {
      facts = c.in_ok-add_row.ensures.facts;
      lawful = c.in_ok-add_row.ensures.lawful;
      has = λ a b. c.in_ok-add_row.ensures.has a b
          ∙ listed_more (clause_in c.args.rows.now) (2 * c.args.facts) c.index-rows-l.result c.loop-l.l c.requires.either c.requires.rows.within (λ m. ap (λ (r : List ℕ). row_has r m) read)
          a b (has_clause c.loop-l.pairs.clauses a b) (c.loop-l.invariant.has a b);
    }
