use Rattle.std.proofs.Common.{◌≡◌, ◌*◌, ◌<◌, ℕ, List, [], ◌∷◌, ◌∙◌, ap, sym, not, Bool, true, false, ◌&&◌, get_or}
use Rattle.clause_base.specs.Clause.{has_literal}
use Rattle.cdcl_defs.specs.Event.{asked}
use Rattle.cdcl_defs.specs.Pending.{is_pending, open_ones}
use Rattle.cdcl_defs.specs.State.{clause_at}
use Rattle.propagation.specs.Front.{asked_at}
use Rattle.propagation.specs.Pending.{is_free}
use Rattle.propagation.specs.own.Tables.{pending_in}
use Rattle.propagation.proofs.Asks.{ask_true, ask_open, ask_left, ask_none, ask_below, ask_empty}
use Rattle.propagation.proofs.Filters.{pending_at}
use Rattle.propagation.proofs.front.answer.Goals as goal
use Rattle.propagation.proofs.front.answer.Goals.{Else-ask-eq-NO_LITERAL, Else-is_true}

-- where the clause is kept, it is pending if it is so by its literals
kept_and : (kept pending : Bool) (b : Bool) → kept ≡ true → pending ≡ b → (kept && pending) ≡ b
kept_and kept pending b e f = ap (λ (x : Bool). x && pending) e ∙ f

pub returns-then-not-is_kept : goal.returns-then-not-is_kept
returns-then-not-is_kept c =
    let t = c.args.tables.now in
    let off : get_or t.kept.items c.args.number false ≡ false = sym c.is_kept.ensures ∙ c.if-not-is_kept.true in
    pending_at t.store.clauses t.kept.items c.args.assignment.now.trail c.args.number ∙ ap (λ (b : Bool). b && is_pending (has_literal c.args.assignment.now.trail) (clause_at t.store.clauses c.args.number)) off

pub returns-then-ask-eq-NO_LITERAL : goal.returns-then-ask-eq-NO_LITERAL
returns-then-ask-eq-NO_LITERAL c =
    let t = c.args.tables.now in
    let on = has_literal c.args.assignment.now.trail in
    let empty = ask_empty t.store.clauses on c.args.number c.args.ask (2 * c.args.assignment.now.variables) c.requires.tables.fit c.requires.tables.limit c.requires.ask c.if-ask-eq-NO_LITERAL.true in (
      kept_and (get_or t.kept.items c.args.number false) (is_pending on (clause_at t.store.clauses c.args.number)) true (sym c.is_kept.ensures ∙ c.if-not-is_kept.false) (ap (is_pending on) empty),
      sym (ap (λ (xs : List ℕ). asked c.args.number (open_ones on xs)) empty),
    )

below : (c : Else-ask-eq-NO_LITERAL) → c.args.ask < 2 * c.args.assignment.now.variables
below c = ask_below c.args.tables.now.store.clauses (has_literal c.args.assignment.now.trail) c.args.number c.args.ask (2 * c.args.assignment.now.variables)
    c.requires.tables.fit c.requires.ask c.if-ask-eq-NO_LITERAL.false

pub is_true-requires : goal.is_true-requires
is_true-requires c = below (goal.at.is_true-requires c).Else-ask-eq-NO_LITERAL

pub is_false-requires : goal.is_false-requires
is_false-requires c = below (goal.at.is_false-requires c).Else-ask-eq-NO_LITERAL

pub returns-then-is_true : goal.returns-then-is_true
returns-then-is_true c =
    let t = c.args.tables.now in
    let trail = c.args.assignment.now.trail in
    let xs = clause_at t.store.clauses c.args.number in
    let off = ask_true trail xs c.args.ask c.requires.consistent c.requires.ask c.if-ask-eq-NO_LITERAL.false (sym c.is_true.ensures ∙ c.if-is_true.true) in
    kept_and (get_or t.kept.items c.args.number false) (is_pending (has_literal trail) xs) false (sym c.is_kept.ensures ∙ c.if-not-is_kept.false) off

-- where the literal that is asked for is not true, the clause is pending, and asks for what it leaves
leaves : (c : Else-is_true) (left : List ℕ) → open_ones (has_literal c.args.assignment.now.trail) (clause_at c.args.tables.now.store.clauses c.args.number) ≡ left
    → (pending_in c.args.tables.now c.args.assignment.now.trail c.args.number ≡ true)
    × (asked c.args.number left ≡ asked_at c.args.tables.now.store.clauses (has_literal c.args.assignment.now.trail) c.args.number)
leaves c left is =
    let t = c.args.tables.now in
    let trail = c.args.assignment.now.trail in
    let xs = clause_at t.store.clauses c.args.number in (
      kept_and (get_or t.kept.items c.args.number false) (is_pending (has_literal trail) xs) true (sym c.is_kept.ensures ∙ c.if-not-is_kept.false)
          (ask_open trail xs c.args.ask c.requires.consistent c.requires.ask c.if-ask-eq-NO_LITERAL.false (sym c.is_true.ensures ∙ c.if-is_true.false)),
      sym (ap (λ (os : List ℕ). asked c.args.number os) is),
    )

pub returns-then-is_false : goal.returns-then-is_false
returns-then-is_false c =
    let on = has_literal c.args.assignment.now.trail in
    let free : is_free on c.args.ask ≡ false = ap (λ (b : Bool). not b) (sym c.is_false.ensures ∙ c.if-is_false.true) in
    leaves (goal.at.returns-then-is_false c).Else-is_true [] (ask_none on (clause_at c.args.tables.now.store.clauses c.args.number) c.args.ask c.requires.ask c.if-ask-eq-NO_LITERAL.false free)

pub returns-else-is_false : goal.returns-else-is_false
returns-else-is_false c =
    let on = has_literal c.args.assignment.now.trail in
    let free : is_free on c.args.ask ≡ true = ap (λ (b : Bool). not b) (sym c.is_false.ensures ∙ c.if-is_false.false) in
    leaves (goal.at.returns-else-is_false c).Else-is_true (c.args.ask ∷ []) (ask_left on (clause_at c.args.tables.now.store.clauses c.args.number) c.args.ask c.requires.ask c.if-ask-eq-NO_LITERAL.false free)
