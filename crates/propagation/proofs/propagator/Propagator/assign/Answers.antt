use Rattle.std.proofs.Common.{arith, ◌≡◌, ◌*◌, ◌/◌, ◌<◌, ◌++◌, ◌∷◌, [], ℕ, List, Bool, ◌∙◌, ap, true, false, None, length, take, get_or, length-set, sym, subst}
use Rattle.clause_base.specs.Literal.{opposite}
use Rattle.clause_base.specs.Clause.{has_literal}
use Rattle.bit_sets.specs.Layered.{words_have}
use Rattle.std.proofs.lemmas.List.{map_push, length-map}
use Rattle.cdcl_defs.specs.declared.trail.Assigned.{Assigned}
use Rattle.cdcl_defs.specs.State.{value_of}
use Rattle.cdcl_tables.specs.Assignment.{AssignmentView, literals}
use Rattle.cdcl_tables.specs.Mirrored.{TrailView}
use Rattle.cdcl_tables.proofs.published.Assignments.{has_is}
use Rattle.cdcl_tables.proofs.published.Mirrors.{off_of_none, half_opposite}
use Rattle.clause_base.specs.Pairs.{pairs_of, pair_in}
use Rattle.propagation.specs.own.Asks.{IsConsistent, HasAsks}
use Rattle.propagation.specs.Front.{IsComplete}
use Rattle.propagation.specs.Pending.{HasOwn, PropagatorView}
use Rattle.propagation.specs.own.Sound.{AreSound}
use Rattle.propagation.specs.own.Tables.{AreTables, clauses_in, flags_in, pending_in}
use Rattle.propagation.specs.own.Visit.{slot_set, IsAtRest, IsFit, AreSettled, MovesToFree}
use Rattle.propagation.proofs.Asks.{consistent_push, last_true}
use Rattle.propagation.proofs.AsksKept.{asks_longer, asks_without}
use Rattle.propagation.proofs.published.Assigns.{opposite_twice, assign_complete, assign_free, assign_quiets, whole_free}
use Rattle.propagation.proofs.Founds.{found_complete}
use Rattle.propagation.proofs.Gone.{or_gone, gone_more, gone_grows, settled_more, not_gone, own_of}
use Rattle.propagation.proofs.Visits.{two_watched}
use Rattle.propagation.proofs.Slotted.{slots_long, flags_long, slots_complete}
use Rattle.propagation.proofs.propagator.Propagator.assign.Goals as goal
use Rattle.propagation.proofs.propagator.Propagator.assign.Goals.{After-assignment-assignment, After-falsified, After-visit_all}

-- the trail with the entry, and what is told of it
pushed : (c : After-assignment-assignment) → literals c.push.new.self.entries ≡ literals c.self.inside.trail.entries ++ c.args.entry.literal ∷ []
pushed c = ap (λ (t : TrailView). literals t.entries) c.push.ensures ∙ map_push (λ (a : Assigned). a.literal) c.self.inside.trail.entries c.args.entry

told : (c : After-assignment-assignment) → c.assignment-assignment.result.trail ≡ literals c.self.inside.trail.entries ++ c.args.entry.literal ∷ []
told c = ap (λ (t : AssignmentView). t.trail) c.assignment-assignment.ensures ∙ pushed c

over : (c : After-assignment-assignment) → c.assignment-assignment.result.variables ≡ c.self.inside.variables
over c = ap (λ (t : AssignmentView). t.variables) c.assignment-assignment.ensures ∙ ap (λ (t : TrailView). t.variables) c.push.ensures ∙ c.self.invariant.2

opened : (c : After-assignment-assignment) → value_of c.self.inside.trail.entries (c.args.entry.literal / 2) ≡ None
opened c = ap (λ (v : PropagatorView). value_of v.entries (c.args.entry.literal / 2)) c.self.view_is ∙ c.requires.opened

consistent : (c : After-assignment-assignment) → IsConsistent (literals c.self.inside.trail.entries ++ c.args.entry.literal ∷ [])
consistent c =
    let w = c.self.inside in
    let l = c.args.entry.literal in
    let free = has_is w.trail.entries (opposite l) ∙ off_of_none w.trail.entries (opposite l) (ap (value_of w.trail.entries) (half_opposite l) ∙ opened c) in
    consistent_push (literals w.trail.entries) l c.self.invariant.0.consistent free

falsified_is : (c : After-falsified) → c.falsified.inside.0 ≡ opposite c.args.entry.literal
falsified_is c = c.falsified.view_is ∙ c.opposite-falsified.ensures

falsified : (c : After-assignment-assignment) (l : ℕ) → l ≡ opposite c.args.entry.literal → has_literal c.assignment-assignment.result.trail (opposite l) ≡ true
falsified c l op =
    let w = c.self.inside in
    ap (λ (ys : List ℕ). has_literal ys (opposite l)) (told c) ∙ ap (λ (x : ℕ). has_literal (literals w.trail.entries ++ c.args.entry.literal ∷ []) x)
    (ap opposite op ∙ opposite_twice c.args.entry.literal) ∙ last_true (literals w.trail.entries) c.args.entry.literal

pub leave-requires : goal.leave-requires
leave-requires c = omega (arith, c.length-length.ensures.short, c.self.invariant.2, c.self.invariant.0.quiet_size)

pub mark_pairs-requires-clause-fit : goal.mark_pairs-requires-clause-fit
mark_pairs-requires-clause-fit c = subst (λ (n : ℕ). IsFit c.self.inside.tables.store.clauses (2 * n))
    (sym (over (goal.at.mark_pairs-requires-clause-fit c).After-assignment-assignment)) c.self.invariant.0.tables.fit

pub mark_pairs-requires-clause-falsified : goal.mark_pairs-requires-clause-falsified
mark_pairs-requires-clause-falsified c = falsified (goal.at.mark_pairs-requires-clause-falsified c).After-assignment-assignment c.falsified.inside.0
    (falsified_is (goal.at.mark_pairs-requires-clause-falsified c).After-falsified)

pub mark_pairs-requires-clause-exact : goal.mark_pairs-requires-clause-exact
mark_pairs-requires-clause-exact c = c.self.invariant.1.exact c.falsified.inside.0

pub mark_pairs-requires-clause-asks : goal.mark_pairs-requires-clause-asks
mark_pairs-requires-clause-asks c =
    let w = c.self.inside in
    let now = c.leave.new.pending in
    subst (λ (ys : List ℕ). HasAsks w.tables.store.clauses ys now) (sym (told (goal.at.mark_pairs-requires-clause-asks c).After-assignment-assignment))
    (asks_longer w.tables.store.clauses (literals w.trail.entries) c.args.entry.literal now
    (asks_without w.tables.store.clauses (literals w.trail.entries) c.args.entry.reason w.lists.pending now c.self.invariant.0.asks c.leave.ensures.without))

pub visit_all-requires-clause-code : goal.visit_all-requires-clause-code
visit_all-requires-clause-code c =
    let here = goal.at.visit_all-requires-clause-code c in
    omega (
      arith,
      falsified_is here.After-falsified,
      half_opposite c.args.entry.literal,
      c.requires.below,
      over here.After-assignment-assignment,
      ap (λ (v : PropagatorView). v.variables) c.self.view_is,
    )

pub visit_all-requires-clause-falsified : goal.visit_all-requires-clause-falsified
visit_all-requires-clause-falsified c = falsified (goal.at.visit_all-requires-clause-falsified c).After-assignment-assignment c.falsified.inside.0
    (falsified_is (goal.at.visit_all-requires-clause-falsified c).After-falsified)

pub visit_all-requires-clause-tables : goal.visit_all-requires-clause-tables
visit_all-requires-clause-tables c =
    subst (λ (n : ℕ). AreTables c.self.inside.tables (2 * n)) (sym (over (goal.at.visit_all-requires-clause-tables c).After-assignment-assignment)) c.self.invariant.0.tables

pub visit_all-requires-clause-rest : goal.visit_all-requires-clause-rest
visit_all-requires-clause-rest c =
    let w = c.self.inside in
    subst (λ (n : ℕ). IsAtRest (clauses_in w.tables) w.lists.resume_at.items w.lists.chains.heads.items w.lists.chains.nodes.items (2 * n) (flags_in w.tables))
    (sym (over (goal.at.visit_all-requires-clause-rest c).After-assignment-assignment)) c.self.invariant.0.rest

-- what the visits leave, on the trail with the literal
moves : (c : After-visit_all)
    → MovesToFree (clauses_in c.self.inside.tables) c.self.inside.lists.chains.nodes.items c.visit_all.new.self.chains.nodes.items
    (has_literal (literals c.self.inside.trail.entries ++ c.args.entry.literal ∷ []))
moves c =
    let w = c.self.inside in
    let tr = ap (λ (t : AssignmentView). t.trail) c.assignment-assignment.ensures ∙ ap (λ (t : TrailView). literals t.entries) c.push.ensures
    ∙ map_push (λ (a : Assigned). a.literal) w.trail.entries c.args.entry in
    subst (λ (ys : List ℕ). MovesToFree (clauses_in w.tables) w.lists.chains.nodes.items c.visit_all.new.self.chains.nodes.items (has_literal ys)) tr c.visit_all.ensures.moves

settled : (c : After-visit_all)
    → AreSettled c.self.inside.tables c.visit_all.new.self (literals c.self.inside.trail.entries ++ c.args.entry.literal ∷ []) (opposite c.args.entry.literal)
settled c =
    let w = c.self.inside in
    let new = c.visit_all.new.self in
    let op : c.falsified.inside.0 ≡ opposite c.args.entry.literal = c.falsified.view_is ∙ c.opposite-falsified.ensures in
    let tr = ap (λ (t : AssignmentView). t.trail) c.assignment-assignment.ensures ∙ ap (λ (t : TrailView). literals t.entries) c.push.ensures
    ∙ map_push (λ (a : Assigned). a.literal) w.trail.entries c.args.entry in
    subst (λ (ys : List ℕ). AreSettled w.tables new ys (opposite c.args.entry.literal)) tr
    (subst (λ (l : ℕ). AreSettled w.tables new c.assignment-assignment.result.trail l) op c.visit_all.ensures.settled)

complete : (c : After-visit_all) → literals c.self.inside.trail.entries ++ c.args.entry.literal ∷ [] ≡ c.assignment-assignment.result.trail
    → IsComplete (pending_in c.self.inside.tables (literals c.self.inside.trail.entries ++ c.args.entry.literal ∷ [])) c.visit_all.new.self.pending
complete c tr =
    let w = c.self.inside in
    let i = c.self.invariant.0 in
    let x = c.args.entry.literal in
    let trail = literals w.trail.entries in
    let on = has_literal (trail ++ x ∷ []) in
    let slots = w.tables.slots.items in
    let nodes = c.visit_all.new.self.chains.nodes.items in
    let was = words_have w.lists.pending.numbers in
    let now = words_have c.leave.new.pending.numbers in
    let is = words_have c.visit_all.new.self.pending.numbers in
    let all = or_gone was now is in
    let e = c.visit_all.ensures in
    let op : c.falsified.inside.0 ≡ opposite x = c.falsified.view_is ∙ c.opposite-falsified.ensures in
    let more = gone_more was now is in
    let grows = gone_grows was now is (λ k h. e.grows k (c.mark_pairs.ensures.grows k h)) in
    let slotted = assign_complete (clauses_in w.tables) w.lists.chains.nodes.items nodes (flags_in w.tables) trail
    x (slot_set was slots) (slot_set all slots) (flags_long w.tables.kept.items slots ∙ sym (slots_long w.tables.store.clauses slots))
    (two_watched (clauses_in w.tables) c.visit_all.new.self.resume_at.items c.visit_all.new.self.chains.heads.items nodes
    (2 * c.assignment-assignment.result.variables) (flags_in w.tables) e.rest)
    (whole_free (clauses_in w.tables) w.lists.chains.nodes.items (flags_in w.tables) trail i.free) (moves c)
    (settled_more (clauses_in w.tables) nodes on (slot_set is slots) (slot_set all slots) (opposite x) (flags_in w.tables) (λ k h. more (get_or slots k 0) h) (settled c))
    (λ k h. grows (get_or slots k 0) h) (slots_complete w.tables.store.clauses w.tables.kept.items slots trail was i.complete) in
    let found = found_complete w.variables w.tables.store.clauses w.tables.kept.items trail slots x w.pairs (pairs_of w.pairs c.falsified.inside.0) was
    all i.tables.kept c.self.invariant.1 (ap (λ (l : ℕ). pairs_of w.pairs l) op)
    (λ k h none. more _ (e.grows _ (c.mark_pairs.ensures.in_set k h (ap (λ (ys : List ℕ). has_literal ys (pair_in (pairs_of w.pairs c.falsified.inside.0) k).other) (sym tr) ∙ none))))
    grows i.complete slotted in
    not_gone w.tables.store.clauses w.tables.kept.items (trail ++ x ∷ []) x c.args.entry.reason w.lists.pending c.leave.new.pending is c.leave.ensures.without
    (own_of w.tables.store.clauses c.args.entry (subst (λ (v : PropagatorView). HasOwn v.clauses c.args.entry) (sym c.self.view_is) c.requires.reason))
    (last_true trail x) found

pub invariant_of-self : goal.invariant_of-self
invariant_of-self c =
    let w = c.self.inside in
    let i = c.self.invariant.0 in
    let trail = literals w.trail.entries in
    let x = c.args.entry.literal in
    let here = (goal.at.invariant_of-self c).After-assignment-assignment in
    let visited = (goal.at.invariant_of-self c).After-visit_all in
    let e = c.visit_all.ensures in
    let l' = c.visit_all.new.self in
    let flag = c.leave.ensures.flagged in
    let flags = c.leave.new.quiet.items in
    let long = c.length-length.ensures.is ∙ sym (length-map w.trail.entries (λ (a : Assigned). a.literal)) in
    let done : AreSound w.variables w.tables l' (trail ++ x ∷ []) flags = record {
      small = i.small;
      tables = i.tables;
      few = i.few;
      slots_few = i.slots_few;
      rest = subst (λ (n : ℕ). IsAtRest (clauses_in w.tables) l'.resume_at.items l'.chains.heads.items l'.chains.nodes.items (2 * n) (flags_in w.tables)) (over here) e.rest;
      free = assign_free (clauses_in w.tables) w.lists.chains.nodes.items l'.chains.nodes.items (flags_in w.tables) trail x
          (slot_set (words_have l'.pending.numbers) w.tables.slots.items) i.free (moves visited) (settled visited);
      consistent = consistent here;
      asks = subst (λ (ys : List ℕ). HasAsks w.tables.store.clauses ys l'.pending) (told here) e.asks;
      complete = complete visited (sym (told here));
      quiet_size = ap (λ (qs : List Bool). length qs) flag.is ∙ length-set w.quiet.items c.length-length.result flag.flag ∙ i.quiet_size;
      quiets = subst (λ (qs : List Bool). (n : ℕ) → n < length (trail ++ x ∷ []) → get_or qs n false ≡ true → (k : ℕ) → pending_in w.tables (take n (trail ++ x ∷ [])) k ≡ false) (sym flag.is)
          (assign_quiets w.tables.store.clauses w.tables.kept.items trail x w.quiet.items c.length-length.result flag.flag (words_have w.lists.pending.numbers) long
          (omega (arith, c.length-length.ensures.short, c.self.invariant.2, i.quiet_size)) flag.none i.complete i.quiets);
    } in (
      subst (λ (ys : List ℕ). AreSound w.variables w.tables l' ys flags) (sym (pushed here)) done,
      c.self.invariant.1,
      ap (λ (t : TrailView). t.variables) c.push.ensures ∙ c.self.invariant.2,
    )
