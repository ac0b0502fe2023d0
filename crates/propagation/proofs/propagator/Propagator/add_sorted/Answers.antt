use Rattle.std.proofs.Common.{arith, get_or, false, ◌≡◌, ◌*◌, ◌<◌, ◌≤◌, ℕ, List, ◌∙◌, ap, length, sym, subst, refl}
use Rattle.std.proofs.lemmas.Bool.{false≢true}
use Rattle.clause_base.specs.Clause.{HasVariablesBelow, has_literal}
use Rattle.cdcl_tables.specs.Assignment.{AssignmentView, literals}
use Rattle.propagation.specs.own.Added.{IsTaken, IsQuietBelow, IsRaised}
use Rattle.propagation.specs.own.Asks.{IsAsk}
use Rattle.propagation.specs.declared.pending.Pending.{Pending}
use Rattle.propagation.specs.declared.tables.Tables.{Tables}
use Rattle.propagation.specs.own.Tables.{clauses_in, flags_in}
use Rattle.propagation.specs.Pending.{PropagatorView}
use Rattle.propagation.specs.own.Pairs.{IsPaired}
use Rattle.propagation.specs.own.Sound.{AreSound}
use Rattle.propagation.proofs.Enters.{pair_loose, below_by, short_by}
use Rattle.propagation.proofs.Paired.{paired_add}
use Rattle.propagation.proofs.Slotted.{slots_long}
use Rattle.cdcl_tables.specs.Stored.{StoreView}
use Rattle.propagation.proofs.Sounds.{IsAddedTo, sound_add}
use Rattle.propagation.proofs.Wider.{sound_room, sound_again}
use Rattle.propagation.proofs.propagator.Propagator.add_sorted.Goals as goal
use Rattle.propagation.proofs.propagator.Propagator.add_sorted.Goals.{After-make_room, After-assignment-assignment}

below : (c : After-make_room) → HasVariablesBelow c.self.inside.variables c.args.clause.now
below c = subst (λ (v : PropagatorView). HasVariablesBelow v.variables c.args.clause.now) (sym c.self.view_is) c.requires.below

-- what holds once there is room, and nothing is added
roomy : (c : After-make_room)
    → AreSound c.self.inside.variables c.make_room.new.tables c.make_room.new.lists (literals c.self.inside.trail.entries) c.self.inside.quiet.items
roomy c = let w = c.self.inside in sound_room w.variables w.tables c.make_room.new.tables w.lists c.make_room.new.lists (literals w.trail.entries)
    w.quiet.items c.self.invariant.0 c.make_room.ensures.same c.make_room.ensures.wider

paired : (c : After-make_room) → IsPaired c.self.inside.variables c.make_room.new.tables.store.clauses c.make_room.new.tables.slots.items c.self.inside.pairs
paired c = let e = c.make_room.ensures.same in rw (e.store, e.slots) c.self.invariant.1

over : (c : After-assignment-assignment) → c.assignment-assignment.result.variables ≡ c.self.inside.variables
over c = ap (λ (t : AssignmentView). t.variables) c.assignment-assignment.ensures ∙ c.self.invariant.2

told : (c : After-assignment-assignment) → c.assignment-assignment.result.trail ≡ literals c.self.inside.trail.entries
told c = ap (λ (t : AssignmentView). t.trail) c.assignment-assignment.ensures

pub make_room-requires : goal.make_room-requires
make_room-requires c =
    let w = c.self.inside in
    let i = c.self.invariant.0 in
    let long = slots_long w.tables.store.clauses w.tables.slots.items in
    record {
      few = omega (arith, c.if-number-ge-MOST_CLAUSES.false);
      few_slots = omega (arith, c.if-number-ge-MOST_CLAUSES.false, i.slots_few, c.count-number.ensures.value, c.len-slot.ensures);
      numbers = omega (arith, i.asks.room, c.count-number.ensures.value);
      asks = omega (arith, i.asks.long, c.count-number.ensures.value);
      nodes = omega (arith, i.rest.many, long, c.len-slot.ensures);
      resume_at = omega (arith, i.rest.long, long, c.len-slot.ensures);
    }

pub invariant_of-self : goal.invariant_of-self
invariant_of-self c = let h = (goal.at.invariant_of-self c).After-make_room in (roomy h, paired h, c.self.invariant.2)

pub invariant_of-self-in_err-push : goal.invariant_of-self-in_err-push
invariant_of-self-in_err-push c =
    let h = (goal.at.invariant_of-self-in_err-push c).After-make_room in
    let w = c.self.inside in
    let t = c.make_room.new.tables in
    let r = sound_again w.variables t (record t { store = c.push.new.self }) c.make_room.new.lists (literals w.trail.entries) w.quiet.items (roomy h)
    (record { store = c.in_err-push.ensures.err; kept = refl; slots = refl; steps = refl; kept_below = refl }) in
    (r, rw c.in_err-push.ensures.err (paired h), c.self.invariant.2)

pub invariant_of-self-in_err-push-2 : goal.invariant_of-self-in_err-push-2
invariant_of-self-in_err-push-2 c = absurd (omega (arith, c.in_err-push-2.ensures.full, c.in_ok-make_room.ensures.kept))

pub invariant_of-self-in_err-entered : goal.invariant_of-self-in_err-entered
invariant_of-self-in_err-entered c = absurd (false≢true c.in_err-entered.ensures.ok)

pub take_slot-requires-clause-small : goal.take_slot-requires-clause-small
take_slot-requires-clause-small c = omega (arith, c.self.invariant.0.small, over (goal.at.take_slot-requires-clause-small c).After-assignment-assignment)

pub take_slot-requires-clause-below : goal.take_slot-requires-clause-below
take_slot-requires-clause-below c q h =
    let e = over (goal.at.take_slot-requires-clause-below c).After-assignment-assignment in
    let inside = subst (λ (ls : List ℕ). q < length ls) c.as_slice.ensures h in
    let b = below_by c.self.inside.variables q c.args.clause.now (below (goal.at.take_slot-requires-clause-below c).After-make_room) inside in
    let here = subst (λ (ls : List ℕ). get_or ls q 0 < 2 * c.self.inside.variables) (sym c.as_slice.ensures) b in
    omega (arith, e, here)

pub take_slot-requires-clause-short : goal.take_slot-requires-clause-short
take_slot-requires-clause-short c =
    rw (c.as_slice.ensures)
    (short_by c.self.inside.variables c.args.clause.now c.self.invariant.0.small c.requires.lawful (below (goal.at.take_slot-requires-clause-short c).After-make_room))

pub take_slot-requires-clause-few : goal.take_slot-requires-clause-few
take_slot-requires-clause-few c =
    let r = roomy (goal.at.take_slot-requires-clause-few c).After-make_room in omega (arith, r.slots_few, r.few)

pub take_slot-requires-clause-codes : goal.take_slot-requires-clause-codes
take_slot-requires-clause-codes c =
    let r = roomy (goal.at.take_slot-requires-clause-codes c).After-make_room in
    omega (arith, r.rest.codes, over (goal.at.take_slot-requires-clause-codes c).After-assignment-assignment)

slot_is : (c : After-make_room) → length c.make_room.new.tables.slots.items ≡ c.len-slot.result
slot_is c = omega (arith, ap (λ (ss : List ℕ). length ss) c.make_room.ensures.same.slots, c.len-slot.ensures)

pub take_slot-requires-clause-room : goal.take_slot-requires-clause-room
take_slot-requires-clause-room c = rw (slot_is (goal.at.take_slot-requires-clause-room c).After-make_room) c.in_ok-make_room.ensures.room.in_slot

pub take_slot-requires-clause-loose : goal.take_slot-requires-clause-loose
take_slot-requires-clause-loose c =
    let w = c.self.inside in
    let h = (goal.at.take_slot-requires-clause-loose c).After-make_room in
    let t = c.make_room.new.tables in
    let l = c.make_room.new.lists in
    pair_loose (clauses_in t) l.resume_at.items l.chains.heads.items l.chains.nodes.items (2 * w.variables) (flags_in t) (length t.slots.items) (roomy h).rest
    (sym (slots_long t.store.clauses t.slots.items))

pub raise-requires-clause-number : goal.raise-requires-clause-number
raise-requires-clause-number c = omega (arith, c.in_ok-make_room.ensures.room.in_numbers, ap (λ (p : Pending). length p.numbers) c.take_slot.ensures.pending)

pub raise-requires-clause-asks : goal.raise-requires-clause-asks
raise-requires-clause-asks c = omega (arith, c.in_ok-make_room.ensures.room.in_asks, ap (λ (p : Pending). length p.asks.items) c.take_slot.ensures.pending)

pub raise-requires-clause-long : goal.raise-requires-clause-long
raise-requires-clause-long c = omega (arith, c.self.invariant.0.quiet_size, over (goal.at.raise-requires-clause-long c).After-assignment-assignment)

pub invariant_of-self-2 : goal.invariant_of-self-2
invariant_of-self-2 c =
    let w = c.self.inside in
    let h = (goal.at.invariant_of-self-2 c).After-make_room in
    let a = (goal.at.invariant_of-self-2 c).After-assignment-assignment in
    let t = c.make_room.new.tables in
    let l = c.make_room.new.lists in
    let k = c.args.clause.now in
    let trail = literals w.trail.entries in
    let e = c.make_room.ensures.same in
    let r = roomy h in
    let number : c.count-number.result ≡ length t.store.clauses = c.count-number.ensures.value ∙ ap (λ (s : StoreView). length s.clauses) (sym e.store) in
    let lits = c.as_slice.ensures in
    let taken = subst (λ (n : ℕ). IsTaken k c.count-number.result (2 * n) trail t.slots.items l c.take_slot.new.slots.items c.take_slot.new.lists) (over a)
    (subst (λ (ys : List ℕ). IsTaken k c.count-number.result (2 * c.assignment-assignment.result.variables) ys t.slots.items l
    c.take_slot.new.slots.items c.take_slot.new.lists) (told a)
    (subst (λ (ls : List ℕ). IsTaken ls c.count-number.result (2 * c.assignment-assignment.result.variables) c.assignment-assignment.result.trail
    t.slots.items l c.take_slot.new.slots.items c.take_slot.new.lists) lits c.take_slot.ensures.taken)) in
    let t' : Tables = record { store = c.push.new.self; kept = c.push-2.new.self; slots = c.take_slot.new.slots; steps = t.steps; kept_below = t.kept_below } in
    let done : IsAddedTo w.variables t l trail w.quiet.items k c.count-number.result c.in_ok-entered.entered t' c.take_slot.new.lists c.raise.new.pending c.raise.new.quiet.items = record {
      lawful = c.requires.lawful;
      below = below h;
      numbered = number;
      few = omega (arith, c.if-number-ge-MOST_CLAUSES.false);
      room = c.in_ok-make_room.ensures.room.in_numbers;
      long = c.in_ok-make_room.ensures.room.in_asks;
      store = ap (λ (s : StoreView). s.clauses) c.in_ok-push.ensures.ok;
      packed = ap (λ (s : StoreView). s.packed) c.in_ok-push.ensures.ok;
      steps = refl;
      kept_below = refl;
      kept = c.in_ok-push-2.ensures.items;
      taken = taken;
      calm = subst (λ (ys : List ℕ). IsQuietBelow k ys c.in_ok-entered.entered.low) (told a)
          (subst (λ (ls : List ℕ). IsQuietBelow ls c.assignment-assignment.result.trail c.in_ok-entered.entered.low) lits c.in_ok-entered.ensures.quiet);
      ask = subst (λ (ys : List ℕ). c.in_ok-entered.entered.low ≤ length ys → IsAsk (has_literal ys) k c.in_ok-entered.entered.ask) (told a)
          (subst (λ (ls : List ℕ). c.in_ok-entered.entered.low ≤ length c.assignment-assignment.result.trail
          → IsAsk (has_literal c.assignment-assignment.result.trail) ls c.in_ok-entered.entered.ask) lits c.in_ok-entered.ensures.ask);
      raised = subst (λ (p : Pending). IsRaised trail c.count-number.result c.in_ok-entered.entered p c.raise.new.pending) c.take_slot.ensures.pending
          (subst (λ (ys : List ℕ). IsRaised ys c.count-number.result c.in_ok-entered.entered c.take_slot.new.lists.pending c.raise.new.pending)
          (told a) c.raise.ensures.raised);
      size = c.raise.ensures.size;
      same = c.raise.ensures.below;
      off = subst (λ (ys : List ℕ). (n : ℕ) → c.in_ok-entered.entered.low ≤ n → n < length ys → get_or c.raise.new.quiet.items n false ≡ false) (told a) c.raise.ensures.off;
    } in (
      sound_add w.variables t l trail w.quiet.items k c.count-number.result c.in_ok-entered.entered t' c.take_slot.new.lists c.raise.new.pending c.raise.new.quiet.items r done,
      subst (λ (cs : List (List ℕ)). IsPaired w.variables cs c.take_slot.new.slots.items w.pairs) (sym (ap (λ (s : StoreView). s.clauses) c.in_ok-push.ensures.ok))
          (paired_add w.variables c.count-number.result (2 * w.variables) t.store.clauses k trail w.pairs t.slots.items l c.take_slot.new.slots.items c.take_slot.new.lists (paired h) number taken),
      c.self.invariant.2,
    )
