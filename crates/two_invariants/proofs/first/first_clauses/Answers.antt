use Rattle.std.proofs.Common.{arith, rules, ◌≡◌, ◌∙◌, ◌*◌, ℕ, List, length, subst, sym}
use Rattle.bit_sets.specs.Rows.{row_has}
use Rattle.gt_core.specs.Literal.{state_of}
use Rattle.implied_literals.specs.Rows.{clause_in}
use Rattle.two_invariants.specs.own.First.{is_first}
use Rattle.gt_core.proofs.published.Lists.{pushed_each}
use Rattle.two_invariants.proofs.Steps.{first_everywhere, first_are_rows}
use Rattle.two_invariants.proofs.first.first_clauses.Goals as goal

pub loop-l-preserved : goal.loop-l-preserved
loop-l-preserved c =
    let s = state_of c.args.state.now in
    let n = length c.args.state.now in
    let same = c.in_ok-push.ensures.items in
    record {
      long = (let i = c.loop-l.invariant.long in search rules);
      each = λ k m lt. subst (λ (rows : List (List ℕ)). clause_in rows k m ≡ is_first n s k m) (sym same)
          (pushed_each (λ j r. (x : ℕ) → row_has r x ≡ is_first n s j x) c.loop-l.rows.items c.in_ok-row.row c.loop-l.l c.loop-l.invariant.long (λ j jl x. c.loop-l.invariant.each j x jl) c.in_ok-row.ensures k lt m);
    }

pub returns-clause-rows : goal.returns-clause-rows
returns-clause-rows c =
    let i = c.loop-l.invariant.long in
    let end : c.loop-l.l ≡ 2 * length c.args.state.now = let a = c.loop-l.auto.l-end in let b = c.loop-l-test.false in omega arith in
    first_are_rows (length c.args.state.now) (state_of c.args.state.now) c.loop-l.rows.items c.requires (i ∙ end) (λ k m lt. c.loop-l.invariant.each k m (omega arith))

pub returns-clause-clauses : goal.returns-clause-clauses
returns-clause-clauses c =
    let i = c.loop-l.invariant.long in
    let end : c.loop-l.l ≡ 2 * length c.args.state.now = let a = c.loop-l.auto.l-end in let b = c.loop-l-test.false in omega arith in
    first_everywhere (length c.args.state.now) (state_of c.args.state.now) c.loop-l.rows.items (i ∙ end) (λ k m lt. c.loop-l.invariant.each k m (omega arith))
