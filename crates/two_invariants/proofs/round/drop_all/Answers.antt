use Rattle.std.proofs.Common.{arith, ◌≡◌, ◌∙◌, ◌&&◌, ◌||◌, ap, sym, subst, not, Bool, true, false, ℕ, ◌+◌, List, [], drop, Vec, Global}
use Rattle.std.proofs.lemmas.List.{drop_all}
use Rattle.gt_core.proofs.published.Basics.{or_left}
use Rattle.implied_literals.specs.Rows.{clause_in}
use Rattle.two_invariants.specs.own.Losses.{are_lost}
use Rattle.two_invariants.proofs.Grouping.{lost_more, and_one, any_among}
use Rattle.two_invariants.proofs.Steps.{any_rest}
use Rattle.two_invariants.proofs.Dropping.{still_either, dropped_twice, some_of, none_of}
use Rattle.two_invariants.proofs.round.drop_all.Goals as goal
use Rattle.two_invariants.proofs.round.drop_all.Goals.{then-dropped, else-dropped}

abbrev lost_in : ℕ → ℕ → Vec (List ℕ) Global → Bool
lost_in a b t = clause_in t.items a b || clause_in t.items b a

pub loop-table-preserved : goal.loop-table-preserved
loop-table-preserved c =
    let i = c.loop-table.invariant in
    let cur = c.loop-table.rows.items in
    let new = c.drop_lost-more.new.rows.items in
    let table = c.table-item.result in
    let more = c.drop_lost-more.result in
    let value = c.as_slice.ensures.value in
    let has : (a b : ℕ) → clause_in new a b ≡ (clause_in cur a b && not (lost_in a b table)) = λ a b.
    subst (λ (t : List (List ℕ)). clause_in new a b ≡ (clause_in cur a b && not (clause_in t a b || clause_in t b a))) value (c.drop_lost-more.ensures.has a b) in
    let now : c.if-dropped.dropped ≡ (c.loop-table.dropped || more) = elim c.if-dropped.branch [
      | then-dropped w ↦ w.dropped-is ∙ w.if-dropped.true ∙ sym (or_left c.loop-table.dropped _ w.if-dropped.true)
      | else-dropped w ↦ w.dropped-is ∙ ap (λ (b : Bool). b || more) (sym w.if-dropped.false)
    ] in
    let here : more ≡ true → (a b : ℕ) × (are_lost c.args.tables.now a b ≡ true) = λ r.
    let s = c.drop_lost-more.ensures.some r in
    (s.0, s.1, any_among (lost_in s.0 s.1) c.args.tables.now c.loop-table.table-index table c.loop-table-test.true c.table-item.is (or_left _ _ (subst (λ (t : List (List ℕ)). clause_in t s.0 s.1 ≡ true) value s.2))) in
    record {
      long = c.drop_lost-more.ensures.long ∙ i.long;
      room = c.drop_lost-more.ensures.room ∙ i.room;
      either = still_either cur new (clause_in table.items) i.either has;
      has = λ a b. lost_more (lost_in a b) c.args.tables.now c.loop-table.table-index table (clause_in cur a b) (clause_in new a b) c.loop-table-test.true c.table-item.is (has a b) ∙ i.has a b;
      fewer = dropped_twice _ cur new _ _ _ i.fewer c.drop_lost-more.ensures.dropped;
      some = some_of c.loop-table.dropped more c.if-dropped.dropped now i.some here;
      none = λ f a b.
          let p = none_of c.loop-table.dropped more c.if-dropped.dropped now f in
          let off : (x y : ℕ) → clause_in table.items x y ≡ false = λ x y. subst (λ (t : List (List ℕ)). clause_in t x y ≡ false) value (c.drop_lost-more.ensures.none p.1 x y) in
          i.none p.0 a b ∙ any_rest (lost_in a b) c.args.tables.now c.loop-table.table-index table c.loop-table-test.true c.table-item.is
          ∙ (λ j. (off a b j || off b a j) || are_lost (drop (c.loop-table.table-index + 1) c.args.tables.now) a b);
    }

pub returns-clause-has : goal.returns-clause-has
returns-clause-has c = λ a b.
    let cur = clause_in c.loop-table.rows.items a b in
    let none : drop c.loop-table.table-index c.args.tables.now ≡ [] = drop_all c.loop-table.table-index c.args.tables.now (let f = c.loop-table-test.false in omega arith) in
    sym (and_one cur) ∙ ap (λ (ts : List (Vec (List ℕ) Global)). cur && not (are_lost ts a b)) (sym none) ∙ c.loop-table.invariant.has a b

pub returns-clause-none : goal.returns-clause-none
returns-clause-none c = λ f a b.
    let none : drop c.loop-table.table-index c.args.tables.now ≡ [] = drop_all c.loop-table.table-index c.args.tables.now (let e = c.loop-table-test.false in omega arith) in
    c.loop-table.invariant.none f a b ∙ ap (λ (ts : List (Vec (List ℕ) Global)). are_lost ts a b) none
