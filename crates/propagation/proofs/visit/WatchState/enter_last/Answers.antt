use Rattle.std.proofs.Common.{arith, ◌≡◌, ◌-◌, ◌∙◌, [], set, refl, length-set}
use Rattle.std.proofs.lemmas.List.{get_or_read}
use Rattle.propagation.proofs.Enters.{IsEntered, rests_long}
use Rattle.propagation.proofs.Falls.{outlasts_none}
use Rattle.propagation.proofs.visit.WatchState.enter_last.Goals as goal

pub returns-clause-rest : goal.returns-clause-rest
returns-clause-rest c =
    let k = c.args.clause.now in
    let resume_at = set c.args.self.now.resume_at.items c.args.slot 0 in
    let e : IsEntered k c.args.slot [] resume_at c.args.self.now.chains.heads.items c.args.self.now.chains.nodes.items
    c.link_two.new.self.heads.items c.link_two.new.self.nodes.items c.a.inside.0 c.b.inside.0 = record {
      below = omega (arith, c.requires.room.in_froms, length-set c.args.self.now.resume_at.items c.args.slot 0);
      lawful = c.requires.lawful;
      room = omega (arith, c.requires.room.in_nodes, c.link_two.ensures.nodes);
      first = c.len-length.result - 1;
      second = c.len-length.result - 2;
      long = c.requires.two;
      first_in = omega (arith, c.len-length.ensures, c.requires.two);
      second_in = omega (arith, c.len-length.ensures, c.requires.two);
      apart = λ (q : c.len-length.result - 2 ≡ c.len-length.result - 1). absurd (omega (arith, q, c.len-length.ensures, c.requires.two));
      most = λ p h. outlasts_none [] _ _ refl;
      next = λ p h ne. outlasts_none [] _ _ refl;
      first_is = c.a.view_is ∙ get_or_read k (c.len-length.result - 1) c.get-a.result (omega (arith, c.len-length.ensures, c.requires.two)) c.get-a.ensures.item 0;
      second_is = c.b.view_is ∙ get_or_read k (c.len-length.result - 2) c.get-b.result (omega (arith, c.len-length.ensures, c.requires.two)) c.get-b.ensures.item 0;
      linked = c.link_two.ensures.linked;
      codes = c.link_two.ensures.codes;
      first_note = c.link_two.ensures.first;
      second_note = c.link_two.ensures.second;
      others = c.link_two.ensures.others;
    } in
    rests_long k c.args.slot [] c.args.self.now.resume_at.items resume_at c.args.self.now.chains.heads.items c.args.self.now.chains.nodes.items
    c.link_two.new.self.heads.items c.link_two.new.self.nodes.items c.a.inside.0 c.b.inside.0 c.args.codes e
