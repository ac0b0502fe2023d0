use Rattle.std.proofs.Common.{◌≡◌, ◌<◌, ◌*◌, ◌∙◌, ℕ, false, List, arith, refl, subst, sym}
use Rattle.gt_core.specs.Interference.{has_clause}
use Rattle.gt_core.specs.Clauses.{IsKnownClauses, AreClauseRows, IsPutIn, in_order}
use Rattle.gt_core.proofs.PutLaw.{added_known, added_same, added_rows, new_in_order, rows_stay, there_already}
use Rattle.gt_core.proofs.pairs.Pairs.add.Goals as goal

pub invariant_of-self-2 : goal.invariant_of-self-2
invariant_of-self-2 c =
    let put : IsPutIn c.self.inside.clauses.items (in_order c.args.l c.args.m) c.put_in.new.clauses.items = rw c.in_order.ensures at c.in_ok-put_in.ensures.put in
    let l : c.args.l < 2 * c.self.inside.facts = rw (← c.self.view_is) at c.requires.l in
    let m : c.args.m < 2 * c.self.inside.facts = rw (← c.self.view_is) at c.requires.m in (
      added_known c.self.inside.facts c.args.l c.args.m c.self.inside.clauses.items c.put_in.new.clauses.items c.self.invariant.0 l m c.requires.apart put,
      added_rows c.self.inside.facts c.args.l c.args.m c.self.inside.clauses.items c.put_in.new.clauses.items c.self.inside.rows.items c.make_room.new.rows.items c.make_room-2.new.rows.items c.mark.new.rows.items c.mark-2.new.rows.items c.self.invariant.1 (record { long = c.make_room.ensures.long; has = c.make_room.ensures.has }) (record { long = c.make_room-2.ensures.long; has = c.make_room-2.ensures.has }) (record { long = c.mark.ensures.long; marked = c.mark.ensures.marked }) (record { long = c.mark-2.ensures.long; marked = c.mark-2.ensures.marked }) put,
    )

pub returns-clause-added : goal.returns-clause-added
returns-clause-added c =
    let put : IsPutIn c.self.inside.clauses.items (in_order c.args.l c.args.m) c.put_in.new.clauses.items = rw c.in_order.ensures at c.in_ok-put_in.ensures.put in
    rw (← c.self.view_is) (added_same c.args.l c.args.m c.self.inside.clauses.items c.put_in.new.clauses.items put)

pub returns-clause-lawful : goal.returns-clause-lawful
returns-clause-lawful c =
    let put : IsPutIn c.self.inside.clauses.items (in_order c.args.l c.args.m) c.put_in.new.clauses.items = rw c.in_order.ensures at c.in_ok-put_in.ensures.put in
    let l : c.args.l < 2 * c.self.inside.facts = rw (← c.self.view_is) at c.requires.l in
    let m : c.args.m < 2 * c.self.inside.facts = rw (← c.self.view_is) at c.requires.m in
    added_known c.self.inside.facts c.args.l c.args.m c.self.inside.clauses.items c.put_in.new.clauses.items c.self.invariant.0 l m c.requires.apart put

pub same-self : goal.same-self
same-self c = refl

pub returns-then-has-clause-added : goal.returns-then-has-clause-added
returns-then-has-clause-added c = there_already c.args.self.now.clauses c.args.l c.args.m (sym c.has.ensures ∙ c.if-has.true)

pub invariant_of-self : goal.invariant_of-self
invariant_of-self c = (c.self.invariant.0, rows_stay c.self.inside.facts c.self.inside.clauses.items c.self.inside.rows.items c.make_room.new.rows.items c.self.invariant.1 (record { long = c.make_room.ensures.long; has = c.make_room.ensures.has }))

pub invariant_of-self-in_err-make_room-2 : goal.invariant_of-self-in_err-make_room-2
invariant_of-self-in_err-make_room-2 c =
    (c.self.invariant.0, rows_stay c.self.inside.facts c.self.inside.clauses.items c.make_room.new.rows.items c.make_room-2.new.rows.items (rows_stay c.self.inside.facts c.self.inside.clauses.items c.self.inside.rows.items c.make_room.new.rows.items c.self.invariant.1 (record { long = c.make_room.ensures.long; has = c.make_room.ensures.has })) (record { long = c.make_room-2.ensures.long; has = c.make_room-2.ensures.has }))

pub invariant_of-self-in_err-put_in : goal.invariant_of-self-in_err-put_in
invariant_of-self-in_err-put_in c =
    subst (λ (cs : List (ℕ × ℕ)). IsKnownClauses (record { facts = c.self.inside.facts; clauses = cs }) × AreClauseRows c.self.inside.facts cs c.make_room-2.new.rows.items) (sym c.in_err-put_in.ensures.kept)
    (c.self.invariant.0, rows_stay c.self.inside.facts c.self.inside.clauses.items c.make_room.new.rows.items c.make_room-2.new.rows.items (rows_stay c.self.inside.facts c.self.inside.clauses.items c.self.inside.rows.items c.make_room.new.rows.items c.self.invariant.1 (record { long = c.make_room.ensures.long; has = c.make_room.ensures.has })) (record { long = c.make_room-2.ensures.long; has = c.make_room-2.ensures.has }))

pub returns-in_err-put_in-clause-lawful : goal.returns-in_err-put_in-clause-lawful
returns-in_err-put_in-clause-lawful c = subst (λ (cs : List (ℕ × ℕ)). IsKnownClauses (record { facts = c.self.inside.facts; clauses = cs })) (sym c.in_err-put_in.ensures.kept) c.self.invariant.0

pub put_in-requires-clause-new : goal.put_in-requires-clause-new
put_in-requires-clause-new c =
    let none : has_clause c.self.inside.clauses.items c.args.l c.args.m ≡ false = rw (← c.self.view_is) at (sym c.has.ensures ∙ c.if-has.false) in
    rw c.in_order.ensures (new_in_order c.self.inside.clauses.items c.args.l c.args.m none)

pub mark-requires-clause-row : goal.mark-requires-clause-row
mark-requires-clause-row c =
    let l : c.args.l < 2 * c.self.inside.facts = rw (← c.self.view_is) at c.requires.l in
    omega (arith, l, c.self.invariant.1.long, c.make_room.ensures.long, c.make_room-2.ensures.long)

pub mark-requires-clause-room : goal.mark-requires-clause-room
mark-requires-clause-room c = omega (arith, c.in_ok-make_room.ensures.room, c.make_room-2.ensures.more c.args.l)

pub mark-requires-2-clause-row : goal.mark-requires-2-clause-row
mark-requires-2-clause-row c =
    let m : c.args.m < 2 * c.self.inside.facts = rw (← c.self.view_is) at c.requires.m in
    omega (arith, m, c.self.invariant.1.long, c.make_room.ensures.long, c.make_room-2.ensures.long, c.mark.ensures.long)

pub mark-requires-2-clause-room : goal.mark-requires-2-clause-room
mark-requires-2-clause-room c = omega (arith, c.in_ok-make_room-2.ensures.room, c.mark.ensures.same c.args.m)
