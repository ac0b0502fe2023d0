use Rattle.std.proofs.Common.{arith, ◌≡◌, ◌*◌, ◌∙◌, [], ◌∷◌, ℕ, List, get_or, true, false, sym, ap, subst, MatchOption}
use Rattle.clause_base.specs.Clause.{has_literal}
use Rattle.cdcl_defs.specs.Pending.{is_pending, is_pending_in, open_ones}
use Rattle.cdcl_defs.specs.State.{clause_at}
use Rattle.cdcl_tables.specs.Assignment.{AssignmentView, literals}
use Rattle.propagation.specs.Pending.{PropagatorView}
use Rattle.propagation.specs.own.Status.{IsStatus}
use Rattle.propagation.proofs.published.Adds.{kept_in}
use Rattle.propagation.proofs.Asks.{fit_read, pending_kept}
use Rattle.propagation.proofs.Filters.{clause_is, first_true}
use Rattle.propagation.proofs.propagator.Propagator.left.Goals as goal
use Rattle.propagation.proofs.propagator.Propagator.left.Goals.{After-assignment-assignment, After-clause-clause}

asks : (c : After-assignment-assignment) → is_pending_in c.self.inside.tables.store.clauses c.self.inside.tables.kept.items (has_literal (literals c.self.inside.trail.entries)) c.args.number ≡ true
asks c = ap (λ (v : PropagatorView). is_pending_in v.clauses v.kept (has_literal (literals v.entries)) c.args.number) c.self.view_is ∙ c.requires

over : (c : After-assignment-assignment) → c.assignment-assignment.result.variables ≡ c.self.inside.variables
over c = ap (λ (t : AssignmentView). t.variables) c.assignment-assignment.ensures ∙ c.self.invariant.2

told : (c : After-assignment-assignment) → c.assignment-assignment.result.trail ≡ literals c.self.inside.trail.entries
told c = ap (λ (t : AssignmentView). t.trail) c.assignment-assignment.ensures

read : (c : After-clause-clause) → c.clause-clause.result ≡ clause_at c.self.inside.tables.store.clauses c.args.number
read c = c.clause-clause.ensures ∙ sym (clause_is c.self.inside.tables.store.clauses c.args.number)

pub clause-clause-requires-clause-inside : goal.clause-clause-requires-clause-inside
clause-clause-requires-clause-inside c =
    let w = c.self.inside in
    let inside = kept_in w.tables.kept.items c.args.number (is_pending (has_literal (literals w.trail.entries)) (clause_at w.tables.store.clauses c.args.number))
    (asks (goal.at.clause-clause-requires-clause-inside c).After-assignment-assignment) in
    omega (arith, inside, c.self.invariant.0.tables.kept)

pub clause-clause-requires-clause-read : goal.clause-clause-requires-clause-read
clause-clause-requires-clause-read c =
    let w = c.self.inside in
    c.self.invariant.0.tables.read c.args.number (first_true (get_or w.tables.kept.items c.args.number false)
    (is_pending (has_literal (literals w.trail.entries)) (clause_at w.tables.store.clauses c.args.number)) (asks (goal.at.clause-clause-requires-clause-read c).After-assignment-assignment))

pub status_of-requires : goal.status_of-requires
status_of-requires c p h =
    let w = c.self.inside in
    let below = fit_read w.tables.store.clauses (2 * w.variables) c.args.number c.clause-clause.result c.self.invariant.0.tables.fit c.clause-clause.ensures p h in
    omega (arith, below, over (goal.at.status_of-requires c).After-assignment-assignment)

pub returns : goal.returns
returns c =
    let w = c.self.inside in
    let n = c.args.number in
    let a = (goal.at.returns c).After-assignment-assignment in
    let on = has_literal (literals w.trail.entries) in
    let clause = clause_at w.tables.store.clauses n in
    let here : IsStatus (is_pending on clause) (open_ones on clause) c.status_of.result =
    subst (λ (ys : List ℕ). IsStatus (is_pending (has_literal ys) clause) (open_ones (has_literal ys) clause) c.status_of.result) (told a)
    (subst (λ (xs : List ℕ). IsStatus (is_pending (has_literal c.assignment-assignment.result.trail) xs)
    (open_ones (has_literal c.assignment-assignment.result.trail) xs) c.status_of.result) (read (goal.at.returns c).After-clause-clause) c.status_of.ensures) in
    let left = c.left.ensures (is_pending on clause) (open_ones on clause) here (pending_kept w.tables.store.clauses w.tables.kept.items (literals w.trail.entries) n (asks a)) in
    subst (λ (v : PropagatorView). MatchOption c.left.result (open_ones (has_literal (literals v.entries)) (clause_at v.clauses n) ≡ [])
    (λ (lit : ℕ). open_ones (has_literal (literals v.entries)) (clause_at v.clauses n) ≡ lit ∷ [])) c.self.view_is left
