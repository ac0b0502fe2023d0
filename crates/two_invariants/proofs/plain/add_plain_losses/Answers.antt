use Rattle.std.proofs.Common.{arith, ◌≡◌, ◌∙◌, ◌==◌, ◌&&◌, ◌||◌, not, ap, false, Bool, ℕ, List, [], drop}
use Rattle.std.proofs.lemmas.List.{drop_all}
use Rattle.bit_sets.specs.Rows.{row_has}
use Rattle.gt_core.specs.Literal.{opposite}
use Rattle.gt_core.specs.Task.{Effect}
use Rattle.gt_core.proofs.published.Basics.{and_split, apart}
use Rattle.implied_literals.specs.Breaks.{is_add}
use Rattle.implied_literals.specs.Rows.{clause_in}
use Rattle.two_invariants.specs.own.Plain.{adds_plainly, takes_plainly}
use Rattle.two_invariants.proofs.Firm.{nothing_more}
use Rattle.two_invariants.proofs.Grouping.{opposite_fits}
use Rattle.two_invariants.proofs.PlainEffects.{broken_more, in_order}
use Rattle.two_invariants.proofs.plain.add_plain_losses.Goals as goal

pub add_loss-requires-clause-clauses : goal.add_loss-requires-clause-clauses
add_loss-requires-clause-clauses c = opposite_fits c.args.facts c.args.effects.now c.requires.effects c.loop-effect-test.true c.effect-item.is c.lit.ensures c.opposite.ensures c.requires.clauses.long

pub add_loss-requires-clause-rows : goal.add_loss-requires-clause-rows
add_loss-requires-clause-rows c =
    opposite_fits c.args.facts c.args.effects.now c.requires.effects c.loop-effect-test.true c.effect-item.is c.lit.ensures c.opposite.ensures (c.loop-effect.invariant.long ∙ c.requires.rows)

pub loop-effect-preserved : goal.loop-effect-preserved
loop-effect-preserved c =
    let e : Effect = c.effect-item.result in
    let given = row_has c.insert_literals.new.row in
    let lit = c.opposite.ensures ∙ ap opposite c.lit.ensures in
    record {
      lost = λ a m.
          let old = clause_in c.loop-effect.lost.items a m in
          let clause = clause_in c.args.clauses.now a m in
          let t : Bool = not (is_add a && given a) in
          let s : Bool = not (row_has c.take_opposites.new.sure m) in
          broken_more (λ (f : Effect). (opposite f.literal == a) && not (is_add a && given a)) c.args.effects.now c.loop-effect.effect-index e clause s
          old (clause_in c.add_loss.new.lost.items a m) c.loop-effect-test.true c.effect-item.is
          (c.in_ok-add_loss.ensures.lost a m ∙ ap (λ (k : ℕ). old || ((k == a) && (clause && (t && s)))) lit ∙ in_order old (opposite e.literal == a) clause t s)
          ∙ c.loop-effect.invariant.lost a m;
      long = c.add_loss.ensures.long ∙ c.loop-effect.invariant.long;
    }

pub returns-clause-lost : goal.returns-clause-lost
returns-clause-lost c = λ l m.
    let effects = c.args.effects.now in
    let set = row_has c.args.set.now in
    let clause = clause_in c.args.clauses.now l m in
    let given : row_has c.insert_literals.new.row ≡ adds_plainly effects = λ i k. (c.in_ok-insert_literals.ensures k ∙ ap (λ (b : Bool). b || adds_plainly effects k) (c.in_ok-make_room.ensures.has k ∙ c.new-given.ensures.empty k)) i in
    let sure : row_has c.take_opposites.new.sure m ≡ ((set m || adds_plainly effects m) && not (takes_plainly (adds_plainly effects) effects m)) =
    c.take_opposites.ensures m
    ∙ (λ i. c.in_ok-unite.ensures.has m i && not (takes_plainly (row_has c.insert_literals.new.row) effects m))
    ∙ (λ i. (set m || given i m) && not (takes_plainly (given i) effects m)) in
    let none : drop c.loop-effect.effect-index effects ≡ [] = drop_all c.loop-effect.effect-index effects (let f = c.loop-effect-test.false in omega arith) in
    let rest : Bool = takes_plainly (row_has c.insert_literals.new.row) (drop c.loop-effect.effect-index effects) l in
    let idle : rest ≡ false = ap (λ (es : List Effect). takes_plainly (row_has c.insert_literals.new.row) es l) none in
    nothing_more (clause_in c.loop-effect.lost.items l m) clause (rest && not (row_has c.take_opposites.new.sure m)) (λ _ _ t. apart rest (and_split rest _ t).0 idle)
    ∙ c.loop-effect.invariant.lost l m ∙ (λ i. clause_in c.args.lost.now.items l m || (clause && (takes_plainly (given i) effects l && not (sure i))))
