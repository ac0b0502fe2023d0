-- pack
use Rattle.std.proofs.Common.{◌≡◌, ◌<◌, ◌∙◌, ℕ, List, true, false, length, get_or, refl, sym, ap, subst}
use Rattle.cdcl_defs.specs.State.{clause_at}
use Rattle.cdcl_tables.specs.Assignment.{literals}
use Rattle.propagation.specs.Pending.{PropagatorView}
use Rattle.propagation.proofs.Asks.{clash}
use Rattle.propagation.proofs.Filters.{clause_is}
use Rattle.propagation.proofs.Wider.{sound_packed}
use Rattle.propagation.proofs.propagator.Propagator.pack.Goals as goal

pub pack-requires-clause-inside : goal.pack-requires-clause-inside
pack-requires-clause-inside c = subst (λ (v : PropagatorView). c.args.number < length v.clauses) (sym c.self.view_is) c.requires.inside

pub pack-requires-clause-same : goal.pack-requires-clause-same
pack-requires-clause-same c = sym (clause_is c.self.inside.tables.store.clauses c.args.number)
    ∙ ap (λ (v : PropagatorView). clause_at v.clauses c.args.number) c.self.view_is ∙ c.requires.same

pub invariant_of-self : goal.invariant_of-self
invariant_of-self c =
    let w = c.self.inside in
    let e = c.pack.ensures in
    let off : get_or w.tables.kept.items c.args.number false ≡ false = ap (λ (v : PropagatorView). get_or v.kept c.args.number false) c.self.view_is ∙ c.requires.gone in
    let apart : (n : ℕ) → get_or w.tables.kept.items n false ≡ true → n ≡ c.args.number → ⊥ =
    λ n on is. clash (sym on ∙ ap (λ (k : ℕ). get_or w.tables.kept.items k false) is ∙ off) in
    let long : length c.pack.new.self.packed ≡ length c.pack.new.self.clauses =
    e.flags ∙ c.self.invariant.0.tables.packed ∙ sym (ap (λ (cs : List (List ℕ)). length cs) e.clauses) in (
      sound_packed w.variables w.tables (record w.tables { store = c.pack.new.self }) w.lists (literals w.trail.entries) w.quiet.items c.self.invariant.0 e.clauses
          refl refl refl refl (λ n on. e.others n (apart n on) (c.self.invariant.0.tables.read n on)) long,
      rw e.clauses c.self.invariant.1,
      c.self.invariant.2,
    )

pub returns : goal.returns
returns c =
    let w = c.self.inside in
    ap (λ (cs : List (List ℕ)). (let v : PropagatorView = record { variables = w.variables; clauses = cs; kept = w.tables.kept.items; entries = w.trail.entries } in v)) c.pack.ensures.clauses
    ∙ c.self.view_is
