use Rattle.std.proofs.Common.{arith, ◌≡◌, ◌<◌, ◌/◌, ◌*◌, ℕ, ◌∙◌, ap, not, Bool, true, false, get_or, set, length, List, ◌∷◌, sym, refl, inl, inr, subst, length-set}
use Rattle.std.proofs.lemmas.List.{get_or_read}
use Rattle.clause_base.specs.Literal.{opposite}
use Rattle.clause_base.specs.Clause.{IsClause, has_literal}
use Rattle.cdcl_tables.proofs.published.Mirrors.{half_opposite}
use Rattle.bit_sets.specs.Layered.{words_have}
use Rattle.cdcl_tables.specs.Linked.{blocking_of}
use Rattle.propagation.specs.Pending.{AreFalseBut, is_free}
use Rattle.propagation.specs.own.Asks.{IsUnit, IsAsk}
use Rattle.cdcl_defs.specs.State.{clause_at}
use Rattle.propagation.specs.own.Tables.{clauses_in}
use Rattle.propagation.specs.own.Visit.{slot_flags, slot_set, IsFit, IsReal}
use Rattle.propagation.proofs.Filters.{has_get, settled_one, settled_true}
use Rattle.propagation.proofs.Visits.{has_below, visited_stay, visited_drop, visited_move, moves_own, unit_beside, grows_insert, own_insert}
use Rattle.propagation.proofs.Slotted.{fit_slots, slots_long, slot_at, insert_at}
use Rattle.propagation.proofs.AsksKept.{asks_put}
use Rattle.propagation.proofs.visit.WatchState.visit.Goals as goal
use Rattle.propagation.proofs.visit.WatchState.visit.Goals.{After-blocking-beside, After-free, After-other, After-move_to, In-None}

-- the node is of a clause
real : (c : After-blocking-beside) → IsReal (clauses_in c.args.tables.now) c.args.place.node
real c = let v = c.requires.visited.1 in v.listed.real c.args.place.node c.args.code v.walk.ahead.0

-- the literal beside is one of the clause's
beside : (c : After-blocking-beside) → has_literal (clause_at (clauses_in c.args.tables.now) (c.args.place.node / 2)) c.blocking-beside.result ≡ true
beside c =
    ap (λ (x : ℕ). has_literal (clause_at (clauses_in c.args.tables.now) (c.args.place.node / 2)) x) c.blocking-beside.ensures
    ∙ c.requires.visited.1.listed.blockings c.args.place.node (real c)

fit : (c : After-blocking-beside) → IsFit (clauses_in c.args.tables.now) (2 * c.args.assignment.now.variables)
fit c = fit_slots c.args.tables.now.store.clauses c.args.tables.now.slots.items (2 * c.args.assignment.now.variables) c.requires.tables.fit

pub blocking-beside-requires : goal.blocking-beside-requires
blocking-beside-requires c =
    let v = c.requires.visited.1 in omega (arith, (v.listed.real c.args.place.node c.args.code v.walk.ahead.0).below, v.listed.many)

pub is_true-requires : goal.is_true-requires
is_true-requires c =
    let here = (goal.at.is_true-requires c).After-blocking-beside in
    has_below (clause_at (clauses_in c.args.tables.now) (c.args.place.node / 2)) (2 * c.args.assignment.now.variables) c.blocking-beside.result
    (λ p g. (fit here).below (c.args.place.node / 2) p g) (beside here)

pub returns-then-is_true-clause-visited : goal.returns-then-is_true-clause-visited
returns-then-is_true-clause-visited c rest v =
    let cl = clauses_in c.args.tables.now in
    let nd = c.args.place.node in
    let on = has_literal c.args.assignment.now.trail in
    let set = slot_set (words_have c.args.self.now.pending.numbers) c.args.tables.now.slots.items in
    let h = ap (λ (x : ℕ). has_literal (clause_at cl (nd / 2)) x) c.blocking-beside.ensures ∙ v.listed.blockings nd (v.listed.real nd c.args.code v.walk.ahead.0) in
    visited_stay cl c.args.self.now.resume_at.items c.args.self.now.chains.heads.items c.args.self.now.chains.nodes.items (2 * c.args.assignment.now.variables)
    (slot_flags c.args.tables.now.kept.items c.args.tables.now.slots.items) on set set c.args.code nd rest c.args.place c.after.result v
    (c.after.ensures v.listed.on c.args.code rest v.walk) (λ k g. g)
    (λ m. settled_true on set (clause_at cl (nd / 2)) c.blocking-beside.result (nd / 2) h (sym c.is_true.ensures ∙ c.if-is_true.true))

pub is_slot_kept-requires-clause-inside : goal.is_slot_kept-requires-clause-inside
is_slot_kept-requires-clause-inside c =
    omega (arith, (real (goal.at.is_slot_kept-requires-clause-inside c).After-blocking-beside).below, slots_long c.args.tables.now.store.clauses c.args.tables.now.slots.items)

pub drop_at-requires : goal.drop_at-requires
drop_at-requires c = record { walk = (c.requires.visited.1.listed.on, c.requires.visited.0, c.requires.visited.1.walk) }

pub returns-then-not-is_slot_kept-clause-visited : goal.returns-then-not-is_slot_kept-clause-visited
returns-then-not-is_slot_kept-clause-visited c rest v =
    let d = c.drop_at.ensures in
    visited_drop (clauses_in c.args.tables.now) c.args.self.now.resume_at.items c.args.self.now.chains.heads.items c.drop_at.new.self.heads.items
    c.args.self.now.chains.nodes.items c.drop_at.new.self.nodes.items (2 * c.args.assignment.now.variables)
    (slot_flags c.args.tables.now.kept.items c.args.tables.now.slots.items) (has_literal c.args.assignment.now.trail)
    (slot_set (words_have c.args.self.now.pending.numbers) c.args.tables.now.slots.items) c.args.code c.args.place.node rest c.args.place c.drop_at.result v
    (d.walk v.listed.on rest v.walk) d.codes d.nodes d.blockings (sym c.is_slot_kept.ensures ∙ c.if-not-is_slot_kept.true)

pub slot_clause-clause-requires-clause-inside : goal.slot_clause-clause-requires-clause-inside
slot_clause-clause-requires-clause-inside c =
    omega (arith, (real (goal.at.slot_clause-clause-requires-clause-inside c).After-blocking-beside).below, slots_long c.args.tables.now.store.clauses c.args.tables.now.slots.items)

pub slot_clause-clause-requires-clause-below : goal.slot_clause-clause-requires-clause-below
slot_clause-clause-requires-clause-below c = c.requires.tables.slotted

pub slot_clause-clause-requires-clause-kept : goal.slot_clause-clause-requires-clause-kept
slot_clause-clause-requires-clause-kept c = sym c.is_slot_kept.ensures ∙ c.if-not-is_slot_kept.false

pub new_watch-requires-clause-below : goal.new_watch-requires-clause-below
new_watch-requires-clause-below c p g =
    let e = c.slot_clause-clause.ensures in
    let fit = fit_slots c.args.tables.now.store.clauses c.args.tables.now.slots.items (2 * c.args.assignment.now.variables) c.requires.tables.fit in
    let l = fit.below (c.args.place.node / 2) p (subst (λ (xs : List ℕ). p < length xs) e g) in
    omega (arith, l, ap (λ (xs : List ℕ). get_or xs p 0) e)

pub new_watch-requires-clause-short : goal.new_watch-requires-clause-short
new_watch-requires-clause-short c =
    let short = (fit_slots c.args.tables.now.store.clauses c.args.tables.now.slots.items (2 * c.args.assignment.now.variables) c.requires.tables.fit).short (c.args.place.node / 2) in
    omega (arith, short, ap (λ (xs : List ℕ). length xs) c.slot_clause-clause.ensures)

pub index-requires : goal.index-requires
index-requires c = omega (arith, (real (goal.at.index-requires c).After-blocking-beside).below, c.requires.visited.1.listed.long)

pub index_mut-requires : goal.index_mut-requires
index_mut-requires c = omega (arith, (real (goal.at.index_mut-requires c).After-blocking-beside).below, c.requires.visited.1.listed.long)

-- what was found
found : (c : After-free) → (c.in-Some.found < length (clause_at (clauses_in c.args.tables.now) (c.args.place.node / 2)))
    × (c.free.inside.0 ≡ get_or (clause_at (clauses_in c.args.tables.now) (c.args.place.node / 2)) c.in-Some.found 0)
found c =
    let place = c.in-Some.found in
    let e = c.slot_clause-clause.ensures in (
      subst (λ (xs : List ℕ). place < length xs) e c.in-Some.ensures.inside,
      c.free.view_is ∙ get_or_read c.slot_clause-clause.result place c.get-free.result c.in-Some.ensures.inside c.get-free.ensures.item 0
          ∙ ap (λ (xs : List ℕ). get_or xs place 0) e,
    )

-- a literal that is not false is not the false one
not_code : (on : ℕ → Bool) (code l : ℕ) → on (opposite code) ≡ true → is_free on l ≡ true → code ≡ l → ⊥
not_code on code l h free e =
    let z : false ≡ true = sym (ap (λ (b : Bool). not b) h) ∙ ap (is_free on) e ∙ free in let w : ⊥ = cc in w

free_is : (c : After-free) → is_free (has_literal c.args.assignment.now.trail) c.free.inside.0 ≡ true
free_is c =
    let on = has_literal c.args.assignment.now.trail in
    ap (is_free on) (found c).1
    ∙ ap (λ (xs : List ℕ). is_free on (get_or xs c.in-Some.found 0)) (sym c.slot_clause-clause.ensures) ∙ c.in-Some.ensures.none

-- the other node of the slot
other_is : (c : After-other) → c.other.inside.0 ≡ opposite c.args.place.node
other_is c = c.other.view_is ∙ c.opposite-other.ensures

pub note-requires : goal.note-requires
note-requires c =
    let v = c.requires.visited.1 in
    let here = goal.at.note-requires c in
    omega (arith, (real here.After-blocking-beside).below, v.listed.many, other_is here.After-other, half_opposite c.args.place.node)

pub move_to-requires-clause-to : goal.move_to-requires-clause-to
move_to-requires-clause-to c =
    let here = goal.at.move_to-requires-clause-to c in
    let f = found here.After-free in
    let l = (fit here.After-blocking-beside).below (c.args.place.node / 2) c.in-Some.found f.0 in
    omega (arith, l, f.1, c.requires.visited.1.listed.codes, ap (λ (xs : List ℕ). length xs) c.note.ensures.heads)

pub move_to-requires-clause-other : goal.move_to-requires-clause-other
move_to-requires-clause-other c =
    not_code (has_literal c.args.assignment.now.trail) c.args.code c.free.inside.0 c.requires.falsified (free_is (goal.at.move_to-requires-clause-other c).After-free)

pub move_to-requires-clause-walk : goal.move_to-requires-clause-walk
move_to-requires-clause-walk c =
    let v = c.requires.visited.1 in
    let rest = c.requires.visited.0 in
    (v.listed.on, rest, c.note.ensures.walk v.listed.on c.args.code (c.args.place.node ∷ rest) c.args.place v.walk)

-- the other nodes' blocking literals stay
others : (c : After-move_to) → c.other.inside.0 ≡ opposite c.args.place.node → (k : ℕ) → (k ≡ opposite c.args.place.node → ⊥)
    → blocking_of c.move_to.new.self.nodes.items k ≡ blocking_of c.args.self.now.chains.nodes.items k
others c is k ne = c.move_to.ensures.blockings k ∙ c.note.ensures.others k (λ e. ne (e ∙ is))

own : (c : After-move_to) → c.other.inside.0 ≡ opposite c.args.place.node → blocking_of c.move_to.new.self.nodes.items (opposite c.args.place.node) ≡ c.free.inside.0
own c is =
    ap (λ (x : ℕ). blocking_of c.move_to.new.self.nodes.items x) (sym is) ∙ c.move_to.ensures.blockings c.other.inside.0 ∙ c.note.ensures.own

pub returns-in-Some-clause-visited : goal.returns-in-Some-clause-visited
returns-in-Some-clause-visited c rest v =
    let at = goal.at.returns-in-Some-clause-visited c in
    let cl = clauses_in c.args.tables.now in
    let nd = c.args.place.node in
    let on = has_literal c.args.assignment.now.trail in
    let f = found at.After-free in
    let m = c.move_to.ensures in
    let free = free_is at.After-free in
    let has_free : has_literal (clause_at cl (nd / 2)) c.free.inside.0 ≡ true =
    ap (λ (x : ℕ). has_literal (clause_at cl (nd / 2)) x) f.1 ∙ has_get (clause_at cl (nd / 2)) c.in-Some.found f.0 in
    let ne : c.free.inside.0 ≡ blocking_of c.args.self.now.chains.nodes.items nd → ⊥ = (λ (e : c.free.inside.0 ≡ blocking_of c.args.self.now.chains.nodes.items nd).
    c.in-Some.ensures.other (ap (λ (xs : List ℕ). get_or xs c.in-Some.found 0) c.slot_clause-clause.ensures ∙ sym f.1 ∙ e ∙ sym c.blocking-beside.ensures)) in
    let apart = not_code on c.args.code c.free.inside.0 c.requires.falsified free in
    visited_move cl c.args.self.now.resume_at.items (set c.args.self.now.resume_at.items (nd / 2) c.in-Some.found) c.args.self.now.chains.heads.items
    c.move_to.new.self.heads.items c.args.self.now.chains.nodes.items c.move_to.new.self.nodes.items (2 * c.args.assignment.now.variables)
    (slot_flags c.args.tables.now.kept.items c.args.tables.now.slots.items) on
    (slot_set (words_have c.args.self.now.pending.numbers) c.args.tables.now.slots.items) c.args.code nd c.free.inside.0 rest c.args.place c.move_to.result v
    (m.walk v.listed.on rest (c.note.ensures.walk v.listed.on c.args.code (nd ∷ rest) c.args.place v.walk))
    (m.codes ∙ ap (λ (xs : List ℕ). length xs) c.note.ensures.heads) (m.nodes ∙ c.note.ensures.nodes) (length-set c.args.self.now.resume_at.items (nd / 2) c.in-Some.found)
    (own at.After-move_to (other_is at.After-other)) (others at.After-move_to (other_is at.After-other)) has_free ne (λ e. apart (sym e))

pub returns-in-Some-clause-moves : goal.returns-in-Some-clause-moves
returns-in-Some-clause-moves c =
    let at = goal.at.returns-in-Some-clause-moves c in
    moves_own (clauses_in c.args.tables.now) c.args.self.now.chains.nodes.items c.move_to.new.self.nodes.items c.args.place.node c.free.inside.0
    (has_literal c.args.assignment.now.trail) (others at.After-move_to (other_is at.After-other)) (own at.After-move_to (other_is at.After-other)) (free_is at.After-free)

number_in : (c : After-blocking-beside) → get_or c.args.tables.now.slots.items (c.args.place.node / 2) 0 < length c.args.tables.now.store.clauses
number_in c =
    let v = c.requires.visited.1 in
    c.requires.tables.slotted (c.args.place.node / 2)
    (omega (arith, (v.listed.real c.args.place.node c.args.code v.walk.ahead.0).below, slots_long c.args.tables.now.store.clauses c.args.tables.now.slots.items))

pub number_at-requires : goal.number_at-requires
number_at-requires c =
    omega (arith, (real (goal.at.number_at-requires c).After-blocking-beside).below, slots_long c.args.tables.now.store.clauses c.args.tables.now.slots.items)

pub put-requires-clause-number : goal.put-requires-clause-number
put-requires-clause-number c = omega (arith, c.number_at.ensures, number_in (goal.at.put-requires-clause-number c).After-blocking-beside, c.requires.asks.room)

pub put-requires-clause-ask : goal.put-requires-clause-ask
put-requires-clause-ask c = omega (arith, c.number_at.ensures, number_in (goal.at.put-requires-clause-ask c).After-blocking-beside, c.requires.asks.long)

pub after-requires-in-None : goal.after-requires-in-None
after-requires-in-None c =
    let v = c.requires.visited.1 in
    omega (arith, (real (goal.at.after-requires-in-None c).After-blocking-beside).below, v.listed.many)

-- all other literals of the clause are false
unit : (c : In-None) → IsClause (clause_at (clauses_in c.args.tables.now) (c.args.place.node / 2))
    → has_literal (clause_at (clauses_in c.args.tables.now) (c.args.place.node / 2)) c.blocking-beside.result ≡ true
    → IsUnit (has_literal c.args.assignment.now.trail) (clause_at (clauses_in c.args.tables.now) (c.args.place.node / 2)) c.blocking-beside.result
unit c lawful has =
    let trail = c.args.assignment.now.trail in
    unit_beside trail (clause_at (clauses_in c.args.tables.now) (c.args.place.node / 2)) c.blocking-beside.result lawful has
    (subst (λ (xs : List ℕ). AreFalseBut trail xs c.blocking-beside.result) c.slot_clause-clause.ensures c.in-None.ensures.none)

pub returns-in-None-clause-visited : goal.returns-in-None-clause-visited
returns-in-None-clause-visited c rest v =
    let at = goal.at.returns-in-None-clause-visited c in
    let cl = clauses_in c.args.tables.now in
    let nd = c.args.place.node in
    let slots = c.args.tables.now.slots.items in
    let on = has_literal c.args.assignment.now.trail in
    let was = words_have c.args.self.now.pending.numbers in
    let is = words_have c.put.new.self.numbers in
    let has = insert_at was is c.number_at.result (get_or slots (nd / 2) 0) c.number_at.ensures c.put.ensures.has in
    let u = unit at.In-None ((fit at.After-blocking-beside).lawful (nd / 2)) (beside at.After-blocking-beside) in
    visited_stay cl c.args.self.now.resume_at.items c.args.self.now.chains.heads.items c.args.self.now.chains.nodes.items (2 * c.args.assignment.now.variables)
    (slot_flags c.args.tables.now.kept.items slots) on (slot_set was slots) (slot_set is slots) c.args.code nd rest c.args.place c.after-in-None.result v
    (c.after-in-None.ensures v.listed.on c.args.code rest v.walk) (λ k h. grows_insert was is (get_or slots (nd / 2) 0) has (get_or slots k 0) h)
    (λ m. settled_one on (slot_set is slots) (clause_at cl (nd / 2)) u.place (nd / 2) u.others (own_insert was is (get_or slots (nd / 2) 0) has))

pub returns-in-None-clause-asks : goal.returns-in-None-clause-asks
returns-in-None-clause-asks c =
    let store = c.args.tables.now.store.clauses in
    let slots = c.args.tables.now.slots.items in
    let on = has_literal c.args.assignment.now.trail in
    let slot = c.args.place.node / 2 in
    let here = goal.at.returns-in-None-clause-asks c in
    let inside : slot < length slots = omega (arith, (real here.After-blocking-beside).below, slots_long store slots) in
    let at = slot_at store slots slot inside ∙ ap (λ (n : ℕ). clause_at store n) (sym c.number_at.ensures) in
    asks_put store c.args.assignment.now.trail c.number_at.result c.blocking-beside.result c.args.self.now.pending c.put.new.self c.requires.asks c.put.ensures
    (omega (arith, c.number_at.ensures, number_in here.After-blocking-beside))
    (subst (λ (xs : List ℕ). IsAsk on xs c.blocking-beside.result) at (inr (unit here.In-None ((fit here.After-blocking-beside).lawful slot) (beside here.After-blocking-beside))))

pub returns-in-None-clause-grows : goal.returns-in-None-clause-grows
returns-in-None-clause-grows c = grows_insert (words_have c.args.self.now.pending.numbers) (words_have c.put.new.self.numbers)
    (get_or c.args.tables.now.slots.items (c.args.place.node / 2) 0) (insert_at (words_have c.args.self.now.pending.numbers)
    (words_have c.put.new.self.numbers) c.number_at.result (get_or c.args.tables.now.slots.items (c.args.place.node / 2) 0) c.number_at.ensures c.put.ensures.has)

pub returns-then-is_true-clause-moves : goal.returns-then-is_true-clause-moves
returns-then-is_true-clause-moves c k r = inl refl

pub returns-then-not-is_slot_kept-clause-moves : goal.returns-then-not-is_slot_kept-clause-moves
returns-then-not-is_slot_kept-clause-moves c k r = inl (c.drop_at.ensures.blockings (opposite k))

pub returns-in-None-clause-moves : goal.returns-in-None-clause-moves
returns-in-None-clause-moves c k r = inl refl
