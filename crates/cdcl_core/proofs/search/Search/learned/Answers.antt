use Rattle.std.proofs.Common.{◌∙◌, ◌<◌, ℕ, List, Bool, length, ap, subst, sym}
use Rattle.cdcl_defs.specs.declared.event.Event.TheVariants.{Conflict}
use Rattle.clause_base.specs.Clause.{IsRising}
use Rattle.cdcl_defs.specs.State.{clause_at}
use Rattle.cdcl_defs.specs.Trail.{AllFalse}
use Rattle.cdcl_tables.specs.Mirrored.{TrailView}
use Rattle.conflict_analysis.specs.Clauses.{all_clauses}
use Rattle.cdcl_tables.specs.Stored.{CanReadKept}
use Rattle.propagation.specs.Pending.{PropagatorView}
use Rattle.conflict_analysis.specs.Walk.{AreReasonsRead, IsReasoned}
use Rattle.cdcl_core.specs.own.Search.{SearchView, IsNextEvent, state_of}
use Rattle.cdcl_core.proofs.Keeps.{conflict_is}
use Rattle.cdcl_core.proofs.Watching.{watched_all, watched_going}
use Rattle.cdcl_core.proofs.Reasons.{sound_read, sound_reasoned}
use Rattle.cdcl_core.proofs.search.Search.learned.Goals as goal
use Rattle.cdcl_core.proofs.search.Search.learned.Goals.{After-store}

pub learn-requires-clause-reasoned : goal.learn-requires-clause-reasoned
learn-requires-clause-reasoned c =
    let t = c.self.inside in
    let all = c.store.ensures.clauses ∙ watched_all c.self.invariant c.self.view_is c.requires.sane c.requires.going in
    subst (λ (cs : List (List ℕ)). IsReasoned cs c.trail.result.now.entries) (sym all)
    (subst (λ (v : TrailView). IsReasoned (all_clauses t.clauses) v.entries) (sym c.trail.ensures)
    (sound_reasoned t.clauses.formula (state_of t.clauses t.propagator.entries t.standing) c.self.invariant.sound))

pub learn-requires-clause-number : goal.learn-requires-clause-number
learn-requires-clause-number c =
    let t = c.self.inside in
    let all = c.store.ensures.clauses ∙ watched_all c.self.invariant c.self.view_is c.requires.sane c.requires.going in
    let next = subst (λ (w : SearchView). IsNextEvent w.formula w.state (Conflict c.args.number)) (sym c.self.view_is) c.requires.next in
    subst (λ (cs : List (List ℕ)). c.args.number < length cs) (sym all) (conflict_is t.clauses.formula (state_of t.clauses t.propagator.entries t.standing) c.args.number c.self.invariant.sound next).in_range

pub learn-requires-clause-rising : goal.learn-requires-clause-rising
learn-requires-clause-rising c =
    let t = c.self.inside in
    let all = c.store.ensures.clauses ∙ watched_all c.self.invariant c.self.view_is c.requires.sane c.requires.going in
    let next = subst (λ (w : SearchView). IsNextEvent w.formula w.state (Conflict c.args.number)) (sym c.self.view_is) c.requires.next in
    subst (λ (cs : List (List ℕ)). IsRising (clause_at cs c.args.number)) (sym all) (conflict_is t.clauses.formula (state_of t.clauses t.propagator.entries t.standing) c.args.number c.self.invariant.sound next).rising

pub learn-requires-clause-all_false : goal.learn-requires-clause-all_false
learn-requires-clause-all_false c =
    let t = c.self.inside in
    let all = c.store.ensures.clauses ∙ watched_all c.self.invariant c.self.view_is c.requires.sane c.requires.going in
    let next = subst (λ (w : SearchView). IsNextEvent w.formula w.state (Conflict c.args.number)) (sym c.self.view_is) c.requires.next in
    subst (λ (cs : List (List ℕ)). AllFalse c.trail.result.now.entries (clause_at cs c.args.number)) (sym all)
    (subst (λ (v : TrailView). AllFalse v.entries (clause_at (all_clauses t.clauses) c.args.number)) (sym c.trail.ensures) (conflict_is t.clauses.formula (state_of t.clauses t.propagator.entries t.standing) c.args.number c.self.invariant.sound next).all_false)

-- the clauses that are kept can be read
read : (c : After-store) → CanReadKept c.self.inside.clauses.kept c.store.result.now
read c = subst (λ (kept : List Bool). CanReadKept kept c.store.result.now)
    (ap (λ (w : PropagatorView). w.kept) (watched_going c.self.invariant c.self.view_is c.requires.sane c.requires.going)) c.store.ensures.read

pub learn-requires-clause-read : goal.learn-requires-clause-read
learn-requires-clause-read c =
    let t = c.self.inside in
    subst (λ (v : TrailView). AreReasonsRead c.store.result.now v.entries) (sym c.trail.ensures)
    (sound_read t.clauses.formula (state_of t.clauses t.propagator.entries t.standing) c.store.result.now c.self.invariant.sound (read (goal.at.learn-requires-clause-read c).After-store))

pub learn-requires-clause-own : goal.learn-requires-clause-own
learn-requires-clause-own c =
    let t = c.self.inside in
    let next = subst (λ (w : SearchView). IsNextEvent w.formula w.state (Conflict c.args.number)) (sym c.self.view_is) c.requires.next in
    read (goal.at.learn-requires-clause-own c).After-store c.args.number
    (conflict_is t.clauses.formula (state_of t.clauses t.propagator.entries t.standing) c.args.number c.self.invariant.sound next).kept
