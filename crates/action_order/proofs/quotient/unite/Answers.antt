use Rattle.std.proofs.Common.{arith, ◌≡◌, ◌||◌, ◌<◌, ◌+◌, ◌-◌, ℕ, List, [], length, vec_len, take, take-take, sym, ap, ◌∙◌, subst}
use Rattle.std.proofs.lemmas.List.{get_or_read}
use Rattle.bit_sets.specs.Rows.{row_has}
use Rattle.action_order.specs.own.Graph.{row_at, class_at}
use Rattle.action_order.specs.own.Quotient.{AreUnited}
use Rattle.action_order.proofs.QuotientLaw.{united_more, popped_row}
use Rattle.action_order.proofs.quotient.unite.Goals as goal

pub loop-row-preserved : goal.loop-row-preserved
loop-row-preserved c =
    let targets = c.args.targets.items in
    let numbers = c.args.numbers.now in
    let rows = c.loop-row.rows.items in
    let i = c.loop-row.invariant in
    let a = vec_len c.pop.new.self in
    let n = vec_len c.loop-row.targets in
    let one : a + 1 ≡ n = c.in-Some.ensures.cases in
    let lt : a < length targets = let f = i.few in omega arith in
    let long : c.len.result ≡ a = c.len.ensures in
    let row : c.in-Some.row ≡ row_at targets a = popped_row targets c.loop-row.targets.items n a c.pop.result c.in-Some.row one i.few i.left (c.pop.ensures.value [] (omega arith)) c.in-Some.is in
    let below : class_at numbers a < c.args.count = c.requires.below a (let l = c.requires.long in omega arith) in
    let there : class_at numbers a < length rows = let l = i.united.long in omega arith in
    let old : c.index_mut-whole.result.now ≡ row_at rows (class_at numbers a) = get_or_read rows (class_at numbers a) c.index_mut-whole.result.now there (rw long at c.index_mut-whole.ensures.value) [] in
    let more : AreUnited targets numbers c.args.count (a + 1) rows = subst (λ (k : ℕ). AreUnited targets numbers c.args.count k rows) (sym one) i.united in
    let less : n - 1 ≡ a = omega arith in
    rw long (record {
      left = c.pop.ensures.rest ∙ ap (λ (xs : List (List ℕ)). take (n - 1) xs) i.left ∙ take-take (n - 1) n targets (omega arith) ∙ ap (λ (k : ℕ). take k targets) less;
      few = omega arith;
      united = united_more targets numbers c.args.count a rows c.unite.new.self more lt below (λ b.
          c.in_ok-unite.ensures.has b
          ∙ ap (λ (xs : List ℕ). row_has xs b || row_has c.in-Some.row b) old
          ∙ ap (λ (xs : List ℕ). row_has (row_at rows (class_at numbers a)) b || row_has xs b) row);
    })
