use Rattle.std.proofs.Common.{arith, ◌≡◌, ℕ, List, Bool, length, true, false, sym, ap, subst}
use Rattle.clause_base.specs.Clause.{has_literal}
use Rattle.bit_sets.specs.Layered.{words_have}
use Rattle.clause_base.specs.declared.pair.Pair.{Pair}
use Rattle.clause_base.specs.Pairs.{pairs_of}
use Rattle.cdcl_tables.specs.Pairs.{IsPairOf}
use Rattle.cdcl_tables.proofs.published.Five.{EachPair, AreFive, each_of_five, five_of_each}
use Rattle.propagation.specs.own.Visit.{Grows}
use Rattle.propagation.proofs.marks.mark_pairs.Goals as goal
use Rattle.propagation.proofs.marks.mark_pairs.Goals.{After-lists-lists, After-after}

parts : (c : After-lists-lists)
    → AreFive (IsPairOf c.args.store.now.clauses c.args.falsified) c.lists-lists.result.told c.lists-lists.result.last c.lists-lists.result.next c.lists-lists.result.time c.lists-lists.result.after
parts c =
    five_of_each (IsPairOf c.args.store.now.clauses c.args.falsified) c.lists-lists.result.told c.lists-lists.result.last c.lists-lists.result.next c.lists-lists.result.time c.lists-lists.result.after
    (subst (λ (xs : List Pair). EachPair (IsPairOf c.args.store.now.clauses c.args.falsified) xs) c.lists-lists.ensures c.requires.exact)

-- a list that is read
at_list : (store : List (List ℕ)) (falsified : ℕ) {xs ys : List Pair} → xs ≡ ys → EachPair (IsPairOf store falsified) ys
    → EachPair (IsPairOf store falsified) xs
at_list store falsified e h = subst (λ (ps : List Pair). EachPair (IsPairOf store falsified) ps) (sym e) h

pub mark_list-requires-clause-exact : goal.mark_list-requires-clause-exact
mark_list-requires-clause-exact c = at_list c.args.store.now.clauses c.args.falsified c.told.ensures (parts (goal.at.mark_list-requires-clause-exact c).After-lists-lists).first

pub mark_repeated-requires-clause-listed : goal.mark_repeated-requires-clause-listed
mark_repeated-requires-clause-listed c =
    let p = parts (goal.at.mark_repeated-requires-clause-listed c).After-lists-lists in
    record { last = p.second; next = p.third; time = p.fourth }

pub mark_all-requires-clause-exact : goal.mark_all-requires-clause-exact
mark_all-requires-clause-exact c = at_list c.args.store.now.clauses c.args.falsified c.in-Some.ensures (parts (goal.at.mark_all-requires-clause-exact c).After-lists-lists).fifth

-- what is marked once the last list is
marked : (c : After-after) (set : ℕ → Bool) → Grows (words_have c.mark_repeated.new.pending.numbers) set
    → EachPair (λ p. has_literal c.args.assignment.now.trail p.other ≡ false → set p.number ≡ true) c.lists-lists.result.after
    → EachPair (λ p. has_literal c.args.assignment.now.trail p.other ≡ false → set p.number ≡ true) (pairs_of c.args.index.now c.args.falsified)
marked c set grows after =
    let P : Pair → Type 0 = λ p. has_literal c.args.assignment.now.trail p.other ≡ false → set p.number ≡ true in
    let ls = c.lists-lists.result in
    let m = c.mark_repeated.ensures in
    let told : EachPair P ls.told = subst (EachPair P) c.told.ensures (λ i h f. grows _ (m.grows _ (c.mark_list.ensures.in_set i h f))) in
    subst (EachPair P) (sym c.lists-lists.ensures) (each_of_five P ls.told ls.last ls.next ls.time ls.after told
    (λ i h f. grows _ (m.in_set.last i h f)) (λ i h f. grows _ (m.in_set.next i h f)) (λ i h f. grows _ (m.in_set.time i h f)) after)

grown : (c : After-after) → Grows (words_have c.args.pending.now.numbers) (words_have c.mark_repeated.new.pending.numbers)
grown c k h = c.mark_repeated.ensures.grows k (c.mark_list.ensures.grows k h)

pub returns-in-Some-clause-in_set : goal.returns-in-Some-clause-in_set
returns-in-Some-clause-in_set c = marked (goal.at.returns-in-Some-clause-in_set c).After-after (words_have c.mark_all.new.pending.numbers)
    c.mark_all.ensures.grows (subst (EachPair (λ p. has_literal c.args.assignment.now.trail p.other ≡ false → words_have
    c.mark_all.new.pending.numbers p.number ≡ true)) c.in-Some.ensures c.mark_all.ensures.in_set)

pub returns-in-Some-clause-grows : goal.returns-in-Some-clause-grows
returns-in-Some-clause-grows c k h = c.mark_all.ensures.grows k (grown (goal.at.returns-in-Some-clause-grows c).After-after k h)

pub returns-in-None-clause-in_set : goal.returns-in-None-clause-in_set
returns-in-None-clause-in_set c = marked (goal.at.returns-in-None-clause-in_set c).After-after (words_have c.mark_repeated.new.pending.numbers)
    (λ k h. h) (λ i h. absurd (omega (arith, h, ap (λ (ps : List Pair). length ps) c.in-None.ensures)))

pub returns-in-None-clause-grows : goal.returns-in-None-clause-grows
returns-in-None-clause-grows c = grown (goal.at.returns-in-None-clause-grows c).After-after

pub mark_list-requires-clause-fit : goal.mark_list-requires-clause-fit
mark_list-requires-clause-fit c = c.requires.fit

pub mark_repeated-requires-clause-fit : goal.mark_repeated-requires-clause-fit
mark_repeated-requires-clause-fit c = c.requires.fit

pub mark_all-requires-clause-fit : goal.mark_all-requires-clause-fit
mark_all-requires-clause-fit c = c.requires.fit
