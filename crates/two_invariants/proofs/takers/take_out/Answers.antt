use Rattle.std.proofs.Common.{◌≡◌, ◌&&◌, not, Bool, ℕ, true, subst, arith}
use Rattle.bit_sets.specs.Rows.{row_has}
use Rattle.gt_core.proofs.published.Basics.{and_split}
use Rattle.implied_literals.specs.Breaks.{is_add}
use Rattle.two_invariants.proofs.Grouping.{taken_next, less_apart, own_part}
use Rattle.two_invariants.proofs.takers.take_out.Goals as goal

pub loop-l-preserved : goal.loop-l-preserved
loop-l-preserved c m =
    let h = c.in-Some.ensures in
    let lits : Bool = row_has c.args.lits.now m in
    let t : Bool = not (is_add m && row_has c.args.given.now m) in
    taken_next c.loop-l.from c.in-Some.l m (lits && t) t (row_has c.args.sure.now m) (row_has c.loop-l.sure m) (row_has c.take_one.new.sure m) h.0 (c.loop-l.invariant m) (c.take_one.ensures m)
    (λ e. own_part lits t (subst (λ (k : ℕ). row_has c.args.lits.now k ≡ true) e (and_split _ _ h.1).0))
    (λ low lt. less_apart lits t (row_has c.loop-l.sure m) (h.2 m low lt))

pub loop-l-smaller : goal.loop-l-smaller
loop-l-smaller c = omega (arith, c.in-Some.ensures.0, c.requires c.in-Some.l (and_split _ _ c.in-Some.ensures.1).0)

pub overflow_add-from : goal.overflow_add-from
overflow_add-from c = omega (arith, c.requires c.in-Some.l (and_split _ _ c.in-Some.ensures.1).0)
