use Rattle.std.proofs.Common.{arith, ◌≡◌, ◌<◌, ◌++◌, ◌∷◌, [], ◌/◌, ◌%◌, ◌==◌, ℕ, None, Some, set, length, subst, ◌∙◌, ap}
use Rattle.cdcl_defs.specs.State.{value_of}
use Rattle.cdcl_tables.specs.Assignment.{literals}
use Rattle.cdcl_tables.specs.Mirrored.{TrailView, IsMirrored, IsPlaced, begun}
use Rattle.cdcl_tables.proofs.published.Mirrors.{open_got, mirrored_push, room, entry_push}
use Rattle.cdcl_tables.proofs.trail.Trail.push.Goals as goal
use Rattle.cdcl_tables.proofs.trail.Trail.push.Goals.{After-len-position}

below : (c : After-len-position) → c.args.entry.literal / 2 < c.self.inside.variables
below c = let v = ap (λ (w : TrailView). w.variables) c.self.view_is in omega (arith, v, c.requires.below)

opened : (c : After-len-position) → value_of c.self.inside.entries.items (c.args.entry.literal / 2) ≡ None
opened c = ap (λ (w : TrailView). value_of w.entries (c.args.entry.literal / 2)) c.self.view_is ∙ c.requires.opened

has_room : (c : After-len-position) → (length c.self.inside.entries.items < c.self.inside.variables) × (length c.self.inside.starts.items < c.self.inside.variables)
has_room c =
    let t = c.self.inside in
    room t.variables t.entries.items t.values t.starts.items c.args.entry c.self.invariant.0 (below c) (opened c)

pub overflow_cast-position : goal.overflow_cast-position
overflow_cast-position c = omega (arith, (has_room c).0, c.len-position.ensures, c.self.inside.entries.ok, c.self.invariant.0.small)

pub make_true-requires : goal.make_true-requires
make_true-requires c =
    let t = c.self.inside in
    let at = (goal.at.make_true-requires c).After-len-position in
    open_got t.variables t.entries.items t.values t.starts.items (c.args.entry.literal / 2) c.self.invariant.0 (below at) (opened at)

pub index_mut-requires : goal.index_mut-requires
index_mut-requires c =
    let size = c.self.invariant.1.size in
    omega (arith, below (goal.at.index_mut-requires c).After-len-position, size, c.variable.ensures.value, c.self.inside.positions.ok)

pub add_start-requires : goal.add_start-requires
add_start-requires c = omega (arith, (has_room (goal.at.add_start-requires c).After-len-position).1, c.self.invariant.3)

pub push_reserved-requires : goal.push_reserved-requires
push_reserved-requires c =
    omega (arith, (has_room (goal.at.push_reserved-requires c).After-len-position).0, c.self.invariant.2, c.self.inside.entries.ok)

pub invariant_of-self : goal.invariant_of-self
invariant_of-self c =
    let t = c.self.inside in
    let a = c.args.entry in
    let at = (goal.at.invariant_of-self c).After-len-position in
    let long : length t.entries.items ≡ c.len-position.result = omega (arith, c.len-position.ensures, t.entries.ok) in
    let m =
    subst (λ (k : ℕ). IsMirrored t.variables (t.entries.items ++ a ∷ []) (set t.values (a.literal / 2) (Some (a.literal % 2 == 0))) (t.starts.items ++ begun a.reason k)) long
    (mirrored_push t.variables t.entries.items t.values t.starts.items a c.self.invariant.0 (below at) (opened at)) in
    let q =
    subst (λ (k : ℕ). IsPlaced t.variables (literals (t.entries.items ++ a ∷ [])) (set t.positions.items (a.literal / 2) k)) long
    (entry_push t.variables t.entries.items t.positions.items a c.self.invariant.1 (below at) (opened at)) in (
      rw (c.make_true.ensures, c.add_start.ensures.added, c.push_reserved.ensures.items) m,
      rw (c.push_reserved.ensures.items, c.variable.ensures.value) q,
      omega (arith, c.self.invariant.2, c.push_reserved.ensures.capacity),
      omega (arith, c.self.invariant.3, c.add_start.ensures.capacity),
    )
