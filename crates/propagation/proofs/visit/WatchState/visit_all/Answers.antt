use Rattle.std.proofs.Common.{arith, inl, refl}
use Rattle.clause_base.specs.Clause.{has_literal}
use Rattle.propagation.specs.own.Tables.{clauses_in}
use Rattle.propagation.proofs.Visits.{moves_on, all_settled, visited_node, visited_end}
use Rattle.propagation.proofs.visit.WatchState.visit_all.Goals as goal

pub visits-init : goal.visits-init
visits-init c =
    let r = c.requires.rest in
    let s = c.first-place.ensures r.on r.linked in
    record {
      visited = (s.rest, record { listed = r; walk = s.walk; settled = λ node e m. inl (s.whole node e) });
      moves = λ node real. inl refl;
      grows = λ k h. h;
      asks = c.requires.asks;
    }

pub visit-place-requires-clause-visited : goal.visit-place-requires-clause-visited
visit-place-requires-clause-visited c =
    let v = c.visits.invariant.visited in
    visited_node _ _ _ _ _ _ _ _ _ v.0 c.visits.place v.1 c.visits-test.true

pub visits-preserved : goal.visits-preserved
visits-preserved c =
    let i = c.visits.invariant in
    let v = i.visited in
    let next = visited_node _ _ _ _ _ _ _ _ _ v.0 c.visits.place v.1 c.visits-test.true in
    record {
      visited = (next.0, c.visit-place.ensures.visited next.0 next.1);
      moves = moves_on (clauses_in c.args.tables.now) c.args.self.now.chains.nodes.items c.visits.self.chains.nodes.items
          c.visit-place.new.self.chains.nodes.items (has_literal c.args.assignment.now.trail) i.moves c.visit-place.ensures.moves;
      grows = λ k h. c.visit-place.ensures.grows k (i.grows k h);
      asks = c.visit-place.ensures.asks;
    }

pub visits-smaller : goal.visits-smaller
visits-smaller c =
    let v = c.visits.invariant.visited in
    let next = visited_node _ _ _ _ _ _ _ _ _ v.0 c.visits.place v.1 c.visits-test.true in
    let after = c.visit-place.ensures.visited next.0 next.1 in
    omega (arith, next.1.walk.left, after.walk.left)

pub returns-clause-rest : goal.returns-clause-rest
returns-clause-rest c = c.visits.invariant.visited.1.listed

pub returns-clause-settled : goal.returns-clause-settled
returns-clause-settled c =
    let v = c.visits.invariant.visited in
    all_settled _ _ _ _ _ _ _ _ _ c.visits.place (visited_end _ _ _ _ _ _ _ _ _ v.0 c.visits.place v.1 c.visits-test.false)

pub visit-place-requires-clause-asks : goal.visit-place-requires-clause-asks
visit-place-requires-clause-asks c = c.visits.invariant.asks

pub returns-clause-moves : goal.returns-clause-moves
returns-clause-moves c = c.visits.invariant.moves

pub returns-clause-grows : goal.returns-clause-grows
returns-clause-grows c = c.visits.invariant.grows

pub returns-clause-asks : goal.returns-clause-asks
returns-clause-asks c = c.visits.invariant.asks
