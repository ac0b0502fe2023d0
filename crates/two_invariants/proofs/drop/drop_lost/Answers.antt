use Rattle.std.proofs.Common.{arith, ◌≡◌, ◌∙◌, ◌≤◌, ◌<◌, ◌+◌, ◌==◌, ◌&&◌, ◌||◌, ◌⊎◌, inl, inr, not, ap, subst, sym, Bool, true, false, ℕ, List, []}
use Rattle.std.proofs.lemmas.List.{get_or_read}
use Rattle.std.proofs.lemmas.Bool.{cases_lt}
use Rattle.bit_sets.specs.Rows.{row_has}
use Rattle.gt_core.specs.Literal.{opposite}
use Rattle.gt_core.proofs.published.Basics.{or_left}
use Rattle.implied_literals.specs.Rows.{clause_in}
use Rattle.implied_literals.proofs.published.Steps.{past_rows}
use Rattle.two_invariants.proofs.Dropping.{still_either, dropped_twice, some_of, none_of, row_lost, rows_lost}
use Rattle.two_invariants.proofs.drop.drop_lost.Goals as goal
use Rattle.two_invariants.proofs.drop.drop_lost.Goals.{then-dropped, else-dropped}

pub loop-l-preserved : goal.loop-l-preserved
loop-l-preserved c =
    let i = c.loop-l.invariant in
    let lost = c.args.lost.now in
    let l = c.loop-l.l in
    let cur = c.loop-l.rows.items in
    let new = c.drop_row-more.new.rows.items in
    let more = c.drop_row-more.result in
    let read = get_or_read lost l c.index-lost-l.result c.loop-l-test.true c.index-lost-l.is [] in
    let step : (a b : ℕ) → clause_in new a b ≡ (clause_in cur a b && not (((l == a) && clause_in lost l b) || ((l == b) && clause_in lost l a))) = λ a b.
    c.drop_row-more.ensures.has a b ∙ (λ j. clause_in cur a b && not (((l == a) && row_has (read j) b) || ((l == b) && row_has (read j) a))) in
    let now : c.if-dropped.dropped ≡ (c.loop-l.dropped || more) = elim c.if-dropped.branch [
      | then-dropped w ↦ w.dropped-is ∙ w.if-dropped.true ∙ sym (or_left c.loop-l.dropped _ w.if-dropped.true)
      | else-dropped w ↦ w.dropped-is ∙ ap (λ (b : Bool). b || more) (sym w.if-dropped.false)
    ] in
    let here : more ≡ true → (a b : ℕ) × (clause_in lost a b ≡ true) = λ r.
    (l, (c.drop_row-more.ensures.some r).0, sym (ap (λ (x : List ℕ). row_has x (c.drop_row-more.ensures.some r).0) read) ∙ (c.drop_row-more.ensures.some r).1) in
    let nothing : more ≡ false → (m : ℕ) → clause_in lost l m ≡ false = λ f m. sym (ap (λ (x : List ℕ). row_has x m) read) ∙ c.drop_row-more.ensures.none f m in
    record {
      long = c.drop_row-more.ensures.long ∙ i.long;
      room = c.drop_row-more.ensures.room ∙ i.room;
      either = still_either cur new (λ a b. (l == a) && clause_in lost l b) i.either step;
      has = λ a b. row_lost (clause_in lost) l a b (clause_in c.args.rows.now.items a b) (clause_in cur a b) (clause_in new a b) (i.has a b) (step a b);
      dropped = dropped_twice _ cur new _ _ _ i.dropped c.drop_row-more.ensures.dropped;
      some = some_of c.loop-l.dropped more c.if-dropped.dropped now i.some here;
      none = λ f a b lt. (let p = none_of c.loop-l.dropped more c.if-dropped.dropped now f in by lost l (i.none p.0) (nothing p.1) a b lt (cases_lt a l));
    }
  where
    by : (lost : List (List ℕ)) (l : ℕ) → ((a b : ℕ) → a < l → clause_in lost a b ≡ false) → ((m : ℕ) → clause_in lost l m ≡ false) → (a b : ℕ) → a < l + 1 → (a < l) ⊎ (l ≤ a) → clause_in lost a b ≡ false
    by lost l below own a b lt (inl h) = below a b h
    by lost l below own a b lt (inr h) = let e : l ≡ a = omega arith in subst (λ (k : ℕ). clause_in lost k b ≡ false) e (own b)

pub returns-clause-has : goal.returns-clause-has
returns-clause-has c = λ a b.
    let lost = c.args.lost.now in
    let all = rows_lost lost c.loop-l.l (let f = c.loop-l-test.false in omega arith) in
    c.loop-l.invariant.has a b ∙ (λ i. clause_in c.args.rows.now.items a b && not (all a b i || all b a i))

pub returns-clause-none : goal.returns-clause-none
returns-clause-none c = λ f a b. by f a b (cases_lt a c.loop-l.l)
  where
    by : c.loop-l.dropped ≡ false → (a b : ℕ) → (a < c.loop-l.l) ⊎ (c.loop-l.l ≤ a) → clause_in c.args.lost.now a b ≡ false
    by f a b (inl h) = c.loop-l.invariant.none f a b h
    by f a b (inr h) = past_rows c.args.lost.now a b (let e = c.loop-l-test.false in omega arith)

pub drop_row-more-requires-clause-few : goal.drop_row-more-requires-clause-few
drop_row-more-requires-clause-few c = subst (λ (n : ℕ). n ≤ 4096) (sym c.loop-l.invariant.long) c.requires.few

pub drop_row-more-requires-clause-even : goal.drop_row-more-requires-clause-even
drop_row-more-requires-clause-even c = λ k lt. subst (λ (n : ℕ). opposite k < n) (sym c.loop-l.invariant.room) (c.requires.even k (subst (λ (n : ℕ). k < n) c.loop-l.invariant.long lt))

pub drop_row-more-requires-clause-within : goal.drop_row-more-requires-clause-within
drop_row-more-requires-clause-within c = λ m t.
    let read = get_or_read c.args.lost.now c.loop-l.l c.index-lost-l.result c.loop-l-test.true c.index-lost-l.is [] in
    subst (λ (n : ℕ). m < n) (sym c.loop-l.invariant.long) (c.requires.within c.loop-l.l m (sym (ap (λ (x : List ℕ). row_has x m) read) ∙ t))
