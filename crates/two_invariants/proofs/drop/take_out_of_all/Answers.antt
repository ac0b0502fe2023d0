use Rattle.std.proofs.Common.{◌≡◌, ◌∙◌, ◌==◌, ◌&&◌, subst, true, ℕ}
use Rattle.bit_sets.specs.Rows.{row_has}
use Rattle.gt_core.proofs.published.Basics.{and_split}
use Rattle.implied_literals.specs.Rows.{clause_in}
use Rattle.two_invariants.proofs.Grouping.{taken_next, taken_all, own_part}
use Rattle.two_invariants.proofs.Dropping.{not_in_row, dropped_twice, row_dropped}
use Rattle.two_invariants.proofs.drop.take_out_of_all.Goals as goal

pub loop-m-preserved : goal.loop-m-preserved
loop-m-preserved c =
    let h = c.in-Some.ensures in
    let i = c.loop-m.invariant in
    let first = c.args.rows.now.items in
    let cur = c.loop-m.rows.items in
    let lit = c.args.lit in
    let others = row_has c.args.others.now in
    record {
      long = c.take_out.ensures.long ∙ i.long;
      room = c.take_out.ensures.room ∙ i.room;
      has = λ a b.
          taken_next c.loop-m.from c.in-Some.m a (others a && (lit == b)) (lit == b) (clause_in first a b) (clause_in cur a b) (clause_in c.take_out.new.rows.items a b) h.0 (i.has a b) (c.take_out.ensures.has a b)
          (λ e. own_part (others a) (lit == b) (subst (λ (k : ℕ). others k ≡ true) e (and_split _ _ h.1).0))
          (λ low lt. not_in_row first cur others lit c.loop-m.from c.requires.either i.has c.index.result.now c.requires.lit i.long c.index.ensures a b low (h.2 a low lt));
      dropped = dropped_twice first cur c.take_out.new.rows.items _ _ _ i.dropped (row_dropped cur c.take_out.new.rows.items _ _ c.in-Some.m (λ b. lit == b) c.take_out.ensures.has c.take_out.ensures.stale);
    }

pub returns-clause-has : goal.returns-clause-has
returns-clause-has c = λ a b.
    let i = c.loop-m.invariant in
    let others = row_has c.args.others.now in
    taken_all c.loop-m.from a (others a && (c.args.lit == b)) (clause_in c.args.rows.now.items a b) (clause_in c.loop-m.rows.items a b) (i.has a b)
    (λ low. not_in_row c.args.rows.now.items c.loop-m.rows.items others c.args.lit c.loop-m.from c.requires.either i.has c.index.result.now c.requires.lit i.long c.index.ensures a b low (c.in_default.ensures a low))
