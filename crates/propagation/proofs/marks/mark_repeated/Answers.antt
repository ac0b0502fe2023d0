use Rattle.std.proofs.Common.{arith, ◌≡◌, ℕ, List, [], length, sym, ap, subst}
use Rattle.clause_base.specs.declared.pair.Pair.{Pair}
use Rattle.propagation.specs.declared.pending.Pending.{Pending}
use Rattle.propagation.specs.own.Pairs.{AreMarked, ArePairsOf}
use Rattle.propagation.proofs.marks.mark_repeated.Goals as goal

-- of no pairs all are marked
none_marked : (trail : List ℕ) (pairs : List Pair) (p : Pending) → pairs ≡ [] → AreMarked trail pairs p
none_marked trail pairs p e i h f = absurd (omega (arith, h, ap (λ (ps : List Pair). length ps) e))

pub of_step-requires : goal.of_step-requires
of_step-requires c = sym c.in-Step.ensures.is

pub mark_list-requires-clause-exact : goal.mark_list-requires-clause-exact
mark_list-requires-clause-exact c = subst (ArePairsOf c.args.store.now.clauses c.args.falsified) (sym c.of_step.ensures) c.requires.listed.next

pub mark_list-requires-clause-fit : goal.mark_list-requires-clause-fit
mark_list-requires-clause-fit c = c.requires.fit

pub mark_fact-requires-clause-origin : goal.mark_fact-requires-clause-origin
mark_fact-requires-clause-origin c = sym c.in-Time.ensures.is

pub mark_fact-requires-clause-fit : goal.mark_fact-requires-clause-fit
mark_fact-requires-clause-fit c = c.requires.fit

pub returns-in-Step-clause-in_set : goal.returns-in-Step-clause-in_set
returns-in-Step-clause-in_set c = record {
  last = none_marked c.args.assignment.now.trail c.args.lists.now.last c.mark_list.new.pending c.in-Step.ensures.empty.0;
  next = subst (λ (ps : List Pair). AreMarked c.args.assignment.now.trail ps c.mark_list.new.pending) c.of_step.ensures c.mark_list.ensures.in_set;
  time = none_marked c.args.assignment.now.trail c.args.lists.now.time c.mark_list.new.pending c.in-Step.ensures.empty.1;
}

pub returns-in-Step-clause-grows : goal.returns-in-Step-clause-grows
returns-in-Step-clause-grows c = c.mark_list.ensures.grows

pub returns-in-Step-clause-asks : goal.returns-in-Step-clause-asks
returns-in-Step-clause-asks c = c.mark_list.ensures.asks

pub returns-in-Other-clause-in_set : goal.returns-in-Other-clause-in_set
returns-in-Other-clause-in_set c = record {
  last = none_marked c.args.assignment.now.trail c.args.lists.now.last c.args.pending.now c.in-Other.ensures.empty.0;
  next = none_marked c.args.assignment.now.trail c.args.lists.now.next c.args.pending.now c.in-Other.ensures.empty.1;
  time = none_marked c.args.assignment.now.trail c.args.lists.now.time c.args.pending.now c.in-Other.ensures.empty.2;
}

pub returns-in-Time-clause-in_set : goal.returns-in-Time-clause-in_set
returns-in-Time-clause-in_set c = c.mark_fact.ensures.in_set

pub returns-in-Time-clause-grows : goal.returns-in-Time-clause-grows
returns-in-Time-clause-grows c = c.mark_fact.ensures.grows
