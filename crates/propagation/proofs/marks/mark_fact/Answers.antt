use Rattle.std.proofs.Common.{List, sym, subst}
use Rattle.clause_base.specs.declared.pair.Pair.{Pair}
use Rattle.propagation.specs.own.Pairs.{AreMarked, ArePairsOf}
use Rattle.propagation.proofs.marks.mark_fact.Goals as goal

pub last-ending-requires : goal.last-ending-requires
last-ending-requires c = c.requires.origin

pub next-beginning-requires : goal.next-beginning-requires
next-beginning-requires c = c.requires.origin

pub mark_list-requires-clause-exact : goal.mark_list-requires-clause-exact
mark_list-requires-clause-exact c = subst (ArePairsOf c.args.store.now.clauses c.args.falsified) (sym c.last-ending.ensures) c.requires.listed.last

pub mark_list-requires-clause-fit : goal.mark_list-requires-clause-fit
mark_list-requires-clause-fit c = c.requires.fit

pub mark_list-requires-2-clause-fit : goal.mark_list-requires-2-clause-fit
mark_list-requires-2-clause-fit c = c.requires.fit

pub mark_list-requires-2-clause-exact : goal.mark_list-requires-2-clause-exact
mark_list-requires-2-clause-exact c = subst (ArePairsOf c.args.store.now.clauses c.args.falsified) (sym c.next-beginning.ensures) c.requires.listed.next

pub mark_list-requires-3-clause-exact : goal.mark_list-requires-3-clause-exact
mark_list-requires-3-clause-exact c = subst (ArePairsOf c.args.store.now.clauses c.args.falsified) (sym c.time-same.ensures) c.requires.listed.time

pub time-same-requires : goal.time-same-requires
time-same-requires c = c.requires.origin

pub mark_list-requires-3-clause-fit : goal.mark_list-requires-3-clause-fit
mark_list-requires-3-clause-fit c = c.requires.fit

pub returns-clause-in_set : goal.returns-clause-in_set
returns-clause-in_set c =
    let last = c.mark_list-3.new.pending in
    let trail = c.args.assignment.now.trail in
    record {
      last = subst (λ (ps : List Pair). AreMarked trail ps last) c.last-ending.ensures
          (λ i h f. c.mark_list-3.ensures.grows _ (c.mark_list-2.ensures.grows _ (c.mark_list.ensures.in_set i h f)));
      next = subst (λ (ps : List Pair). AreMarked trail ps last) c.next-beginning.ensures (λ i h f. c.mark_list-3.ensures.grows _ (c.mark_list-2.ensures.in_set i h f));
      time = subst (λ (ps : List Pair). AreMarked trail ps last) c.time-same.ensures c.mark_list-3.ensures.in_set;
    }

pub returns-clause-grows : goal.returns-clause-grows
returns-clause-grows c k h = c.mark_list-3.ensures.grows k (c.mark_list-2.ensures.grows k (c.mark_list.ensures.grows k h))
