use Rattle.std.proofs.Common.{◌≡◌, ◌&&◌, not, ap, Bool, ℕ, true, refl, subst, ◌||◌, ◌∙◌, inl, inr, false, sym}
use Rattle.bit_sets.specs.Rows.{row_has}
use Rattle.implied_literals.specs.Breaks.{is_add}
use Rattle.implied_literals.specs.Rows.{clause_in}
use Rattle.two_invariants.proofs.Grouping.{lost_next, own_part, part_none}
use Rattle.std.specs.Prelude.{nat_lt}
use Rattle.std.proofs.lemmas.Bool.{cases_lt, lt-ltb}
use Rattle.two_invariants.proofs.broken.add_losses.Goals as goal

pub loop-l-preserved : goal.loop-l-preserved
loop-l-preserved c =
    let h = c.in-Some.ensures in record {
      lost = λ a m.
          let clause : Bool = clause_in c.args.clauses.now a m in
          let lits : Bool = row_has c.args.lits.now a in
          let t : Bool = not (is_add a && row_has c.args.given.now a) && not (row_has c.args.sure.now m) in
          lost_next c.loop-l.from c.in-Some.l a (clause && (lits && t)) (clause && t) (clause_in c.args.lost.now.items a m) (clause_in c.loop-l.lost.items a m) (clause_in c.add_loss.new.lost.items a m) h.0
          (c.loop-l.invariant.lost a m) (c.in_ok-add_loss.ensures.lost a m)
          (λ e. ap (λ (b : Bool). clause && b) (own_part lits t (subst (λ (k : ℕ). row_has c.args.lits.now k ≡ true) e h.1)))
          (λ low lt. part_none clause lits t (h.2 a low lt));
      long = c.add_loss.ensures.long ∙ c.loop-l.invariant.long;
    }

-- a test that fails where it is asked for, and is not asked for elsewhere
asked_or_not : (o b t : Bool) → t ≡ false → (o || (b && t)) ≡ (o || t)
asked_or_not o true t e = refl
asked_or_not o false t e = ap (λ (x : Bool). o || x) (sym e)

pub returns-clause-lost : goal.returns-clause-lost
returns-clause-lost c a m =
    let clause : Bool = clause_in c.args.clauses.now a m in
    let lits : Bool = row_has c.args.lits.now a in
    let t : Bool = not (is_add a && row_has c.args.given.now a) && not (row_has c.args.sure.now m) in
    let old : Bool = clause_in c.args.lost.now.items a m in
    c.loop-l.invariant.lost a m ∙ elim (cases_lt a c.loop-l.from) [
      | inl l ↦ ap (λ (b : Bool). old || (b && (clause && (lits && t)))) (lt-ltb a c.loop-l.from l)
      | inr g ↦ asked_or_not old (nat_lt a c.loop-l.from) (clause && (lits && t)) (part_none clause lits t (c.in_default.ensures a g))
    ]
