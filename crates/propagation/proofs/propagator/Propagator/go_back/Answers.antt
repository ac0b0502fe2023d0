use Rattle.std.proofs.Common.{arith, subst, ◌≡◌, ◌<◌, ◌*◌, ℕ, List, ◌∙◌, ap, false, get_or, length, take, sym}
use Rattle.std.proofs.lemmas.List.{take_all, length-take-le, length-map}
use Rattle.clause_base.specs.Clause.{has_literal}
use Rattle.cdcl_defs.specs.declared.trail.Assigned.{Assigned}
use Rattle.cdcl_defs.specs.Pending.{is_pending_in}
use Rattle.cdcl_tables.specs.Assignment.{AssignmentView, literals}
use Rattle.cdcl_tables.specs.Mirrored.{TrailView}
use Rattle.propagation.specs.own.Asks.{HasAsks}
use Rattle.propagation.specs.own.Back.{taken_back}
use Rattle.propagation.specs.Front.{IsComplete}
use Rattle.propagation.specs.Pending.{PropagatorView}
use Rattle.propagation.specs.own.Sound.{AreSound}
use Rattle.propagation.specs.own.Tables.{AreTables, pending_in}
use Rattle.propagation.proofs.Undoes.{undo_sound, short_of, taken_le}
use Rattle.propagation.proofs.propagator.Propagator.go_back.Goals as goal
use Rattle.propagation.proofs.propagator.Propagator.go_back.Goals.{After-assignment-assignment}

taken : (c : After-assignment-assignment)
    → literals c.take_back.new.trail.entries ≡ take (length c.take_back.new.trail.entries) (literals c.self.inside.trail.entries)
taken c = short_of c.args.to c.self.inside.trail.entries c.take_back.new.trail.entries (ap (λ (t : TrailView). t.entries) c.take_back.ensures)

less : (c : After-assignment-assignment) → length c.take_back.new.trail.entries < length (literals c.self.inside.trail.entries)
less c =
    let e = ap (λ (t : TrailView). length t.entries) c.take_back.ensures in
    omega (
      arith,
      taken_le c.args.to c.self.inside.trail.entries,
      e,
      c.if-length-before.false,
      c.length.ensures.is,
      c.length-before.ensures.is,
      length-map c.self.inside.trail.entries (λ (a : Assigned). a.literal),
    )

told : (c : After-assignment-assignment) → c.assignment-assignment.result.trail ≡ literals c.take_back.new.trail.entries
told c = ap (λ (t : AssignmentView). t.trail) c.assignment-assignment.ensures

long_is : (c : After-assignment-assignment) → length c.assignment-assignment.result.trail ≡ length c.take_back.new.trail.entries
long_is c =
    let e = ap (λ (xs : List ℕ). length xs) (told c ∙ taken c) in
    omega (arith, e, length-take-le (length c.take_back.new.trail.entries) (literals c.self.inside.trail.entries) (omega (arith, less c)))

-- where nothing is taken back, what held holds
pub invariant_of-self : goal.invariant_of-self
invariant_of-self c =
    let w = c.self.inside in
    let old = w.trail.entries in
    let new = c.take_back.new.trail.entries in
    let long = length-map old (λ (a : Assigned). a.literal) in
    let same : literals new ≡ literals old =
    short_of c.args.to old new (ap (λ (t : TrailView). t.entries) c.take_back.ensures)
    ∙ take_all (length new) (literals old) (omega (arith, c.if-length-before.true, c.length.ensures.is, c.length-before.ensures.is, long)) in (
      subst (λ (xs : List ℕ). AreSound w.variables w.tables w.lists xs w.quiet.items) (sym same) c.self.invariant.0,
      c.self.invariant.1,
      ap (λ (t : TrailView). t.variables) c.take_back.ensures ∙ c.self.invariant.2,
    )

pub refresh-requires-clause-tables : goal.refresh-requires-clause-tables
refresh-requires-clause-tables c =
    let over = ap (λ (t : AssignmentView). t.variables) c.assignment-assignment.ensures ∙ ap (λ (t : TrailView). t.variables) c.take_back.ensures ∙ c.self.invariant.2 in
    subst (λ (n : ℕ). AreTables c.self.inside.tables (2 * n)) (sym over) c.self.invariant.0.tables

pub refresh-requires-clause-flags : goal.refresh-requires-clause-flags
refresh-requires-clause-flags c =
    let at = (goal.at.refresh-requires-clause-flags c).After-assignment-assignment in
    omega (
      arith,
      long_is at,
      less at,
      c.length-before.ensures.short,
      length-map c.self.inside.trail.entries (λ (a : Assigned). a.literal),
      c.length-before.ensures.is,
      c.self.invariant.2,
      c.self.invariant.0.quiet_size,
    )

pub refresh-requires-clause-quiet : goal.refresh-requires-clause-quiet
refresh-requires-clause-quiet c q k =
    let w = c.self.inside in
    let at = (goal.at.refresh-requires-clause-quiet c).After-assignment-assignment in
    let flag = ap (λ (n : ℕ). get_or w.quiet.items n false) (sym (long_is at)) ∙ q in
    ap (λ (xs : List ℕ). pending_in w.tables xs k) (told at ∙ taken at)
    ∙ c.self.invariant.0.quiets (length c.take_back.new.trail.entries) (less at) flag k

pub refresh-requires-clause-listed : goal.refresh-requires-clause-listed
refresh-requires-clause-listed c k p b =
    let w = c.self.inside in
    let at = (goal.at.refresh-requires-clause-listed c).After-assignment-assignment in
    let e = told at ∙ ap (λ (t : TrailView). literals t.entries) c.take_back.ensures in
    let same =
    ap (λ (xs : List ℕ). pending_in w.tables xs k) e
    ∙ ap (λ (v : PropagatorView). is_pending_in v.clauses v.kept (has_literal (literals (taken_back c.args.to v.entries))) k) c.self.view_is in
    c.requires k (sym same ∙ p) b

pub invariant_of-self-2 : goal.invariant_of-self-2
invariant_of-self-2 c =
    let w = c.self.inside in
    let at = (goal.at.invariant_of-self-2 c).After-assignment-assignment in
    let p = c.refresh.new.pending in (
      undo_sound w.variables w.tables w.lists (literals w.trail.entries) w.quiet.items (length c.take_back.new.trail.entries)
          (literals c.take_back.new.trail.entries) p c.self.invariant.0 (taken at) (omega (arith, less at))
          (subst (λ (xs : List ℕ). HasAsks w.tables.store.clauses xs p) (told at) c.refresh.ensures.asks) (subst (λ (xs : List ℕ). IsComplete (pending_in w.tables xs) p) (told at) c.refresh.ensures.complete),
      c.self.invariant.1,
      ap (λ (t : TrailView). t.variables) c.take_back.ensures ∙ c.self.invariant.2,
    )

pub refresh-requires-clause-room : goal.refresh-requires-clause-room
refresh-requires-clause-room c = c.self.invariant.0.asks.room

pub refresh-requires-clause-long : goal.refresh-requires-clause-long
refresh-requires-clause-long c = c.self.invariant.0.asks.long
