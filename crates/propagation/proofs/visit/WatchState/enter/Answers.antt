use Rattle.std.proofs.Common.{arith, ◌≡◌, ◌*◌, ◌∙◌, ℕ, List, set, take, get_or, false, sym, ap, inr, length-set}
use Rattle.std.proofs.lemmas.List.{get_or_read}
use Rattle.clause_base.specs.Clause.{has_literal}
use Rattle.propagation.specs.Pending.{is_free}
use Rattle.propagation.proofs.Asks.{false_past, false_after}
use Rattle.propagation.proofs.Enters.{IsEntered, rests_long, free_long, quiet_long}
use Rattle.propagation.proofs.visit.WatchState.enter.Goals as goal
use Rattle.propagation.proofs.visit.WatchState.enter.Goals.{After-link_two}

pub overflow_add-result : goal.overflow_add-result
overflow_add-result c = omega (arith, c.latest_two-two.ensures.second_until.short, c.requires.small)

-- the list of where searches go on, with that of the slot
abbrev froms_of : After-link_two → List ℕ
froms_of c = set c.args.self.now.resume_at.items c.args.slot 0

entered : (c : After-link_two)
    → IsEntered c.args.clause.now c.args.slot c.args.assignment.now.trail (froms_of c) c.args.self.now.chains.heads.items
    c.args.self.now.chains.nodes.items c.link_two.new.self.heads.items c.link_two.new.self.nodes.items c.a.inside.0 c.b.inside.0
entered c = record {
  below = omega (arith, c.requires.room.in_froms, length-set c.args.self.now.resume_at.items c.args.slot 0);
  lawful = c.requires.lawful;
  first = c.latest_two-two.result.first;
  second = c.latest_two-two.result.second;
  long = c.requires.two;
  first_in = c.latest_two-two.ensures.first_in;
  second_in = c.latest_two-two.ensures.second_in;
  apart = c.latest_two-two.ensures.apart;
  most = c.latest_two-two.ensures.most;
  next = c.latest_two-two.ensures.next;
  first_is = c.a.view_is ∙ get_or_read c.args.clause.now c.latest_two-two.result.first c.index-clause-first.result c.latest_two-two.ensures.first_in c.index-clause-first.is 0;
  second_is = c.b.view_is ∙ get_or_read c.args.clause.now c.latest_two-two.result.second c.index-clause-second.result c.latest_two-two.ensures.second_in c.index-clause-second.is 0;
  linked = c.link_two.ensures.linked;
  codes = c.link_two.ensures.codes;
  room = omega (arith, c.requires.room.in_nodes, c.link_two.ensures.nodes);
  first_note = c.link_two.ensures.first;
  second_note = c.link_two.ensures.second;
  others = c.link_two.ensures.others;
}

pub returns-clause-rest : goal.returns-clause-rest
returns-clause-rest c =
    rests_long c.args.clause.now c.args.slot c.args.assignment.now.trail c.args.self.now.resume_at.items (froms_of (goal.at.returns-clause-rest c).After-link_two)
    c.args.self.now.chains.heads.items c.args.self.now.chains.nodes.items c.link_two.new.self.heads.items c.link_two.new.self.nodes.items
    c.a.inside.0 c.b.inside.0 (2 * c.args.assignment.now.variables) (entered (goal.at.returns-clause-rest c).After-link_two)

pub returns-clause-free : goal.returns-clause-free
returns-clause-free c =
    free_long c.args.clause.now c.args.slot c.args.assignment.now.trail (froms_of (goal.at.returns-clause-free c).After-link_two)
    c.args.self.now.chains.heads.items c.args.self.now.chains.nodes.items c.link_two.new.self.heads.items c.link_two.new.self.nodes.items
    c.a.inside.0 c.b.inside.0 (entered (goal.at.returns-clause-free c).After-link_two)

pub returns-clause-quiet : goal.returns-clause-quiet
unfolding entered
returns-clause-quiet c =
    let trail = c.args.assignment.now.trail in
    let two = c.latest_two-two.ensures in
    let e = entered (goal.at.returns-clause-quiet c).After-link_two in
    quiet_long c.args.clause.now c.args.slot trail (froms_of (goal.at.returns-clause-quiet c).After-link_two)
    c.args.self.now.chains.heads.items c.args.self.now.chains.nodes.items c.link_two.new.self.heads.items c.link_two.new.self.nodes.items
    c.a.inside.0 c.b.inside.0 c.latest_two-two.result.second_until e
    (λ n h. ap (is_free (has_literal (take n trail))) e.second_is ∙ two.second_until.lasts n h)

pub returns-clause-ask : goal.returns-clause-ask
unfolding entered
returns-clause-ask c h =
    let trail = c.args.assignment.now.trail in
    let k = c.args.clause.now in
    let two = c.latest_two-two.ensures in
    let e = entered (goal.at.returns-clause-ask c).After-link_two in
    let off : is_free (has_literal trail) (get_or k c.latest_two-two.result.second 0) ≡ false =
    false_past trail (get_or k c.latest_two-two.result.second 0) c.latest_two-two.result.second_until two.second_until.lasts h in
    inr (record {
      place = c.latest_two-two.result.first;
      inside = two.first_in;
      own = sym e.first_is;
      others = λ p g ne. false_after trail (get_or k c.latest_two-two.result.second 0) (get_or k p 0) (two.next p g ne) off;
    })
