-- pack
use Rattle.std.proofs.Common.{arith, ◌≡◌, ℕ, ◌-◌, ◌++◌, List, [], map, length, set, get_or, false, sym, ap, ◌∙◌, subst}
use Rattle.cdcl_tables.specs.Stored.{StoreView}
use Rattle.cdcl_tables.specs.declared.added.Added.TheVariants.{Packed}
use Rattle.cdcl_tables.specs.own.Stored.{IsStored, lits_of}
use Rattle.cdcl_tables.proofs.Stores.{shown, lits_same, flags_same, read_other}
use Rattle.cdcl_tables.proofs.store.Store.pack.Goals as goal
use Rattle.cdcl_tables.proofs.store.Store.pack.Goals.{Then-number-self, in-Whole-1, in-Packed+in-Shared-1, in-Packed+in-Bytes-1}

-- its added clauses have the same literals
same : (c : Then-number-self) → map lits_of (set c.self.inside.added.items (c.args.number - c.self.inside.given) (Packed c.args.literals)) ≡ map lits_of c.self.inside.added.items
same c =
    let i = c.self.inside in
    lits_same i.formula.clauses i.given i.added.items c.args.number c.args.literals c.self.invariant.counted (omega arith)
    (ap (λ (v : StoreView). get_or v.clauses c.args.number []) c.self.view_is ∙ c.requires.same)

pub invariant_of-self : goal.invariant_of-self
invariant_of-self c =
    let i = c.self.inside in
    subst (λ (added : List (List ℕ)). IsStored i.formula.clauses i.given added) (sym (same (goal.at.invariant_of-self c).Then-number-self)) c.self.invariant

pub returns-then-number-self-clause-clauses : goal.returns-then-number-self-clause-clauses
returns-then-number-self-clause-clauses c =
    let i = c.self.inside in
    let now : c.match-index_mut.self ≡ shown i.formula.clauses (set i.added.items (c.args.number - i.given) (Packed c.args.literals)) =
    elim c.match-index_mut.branch [ in-Whole-1 w ↦ w.self-is | in-Packed+in-Shared-1 w ↦ w.self-is | in-Packed+in-Bytes-1 w ↦ w.self-is ] in
    ap (λ (v : StoreView). v.clauses) now
    ∙ ap (λ (added : List (List ℕ)). i.formula.clauses ++ added) (same (goal.at.returns-then-number-self-clause-clauses c).Then-number-self)
    ∙ ap (λ (v : StoreView). v.clauses) c.self.view_is

pub returns-then-number-self-clause-flags : goal.returns-then-number-self-clause-flags
returns-then-number-self-clause-flags c =
    let i = c.self.inside in
    let now : c.match-index_mut.self ≡ shown i.formula.clauses (set i.added.items (c.args.number - i.given) (Packed c.args.literals)) =
    elim c.match-index_mut.branch [ in-Whole-1 w ↦ w.self-is | in-Packed+in-Shared-1 w ↦ w.self-is | in-Packed+in-Bytes-1 w ↦ w.self-is ] in
    ap (λ (v : StoreView). length v.packed) now
    ∙ flags_same (length i.formula.clauses) i.added.items (c.args.number - i.given) c.args.literals
    ∙ ap (λ (v : StoreView). length v.packed) c.self.view_is

pub returns-then-number-self-clause-others : goal.returns-then-number-self-clause-others
returns-then-number-self-clause-others c n apart read =
    let i = c.self.inside in
    let now : c.match-index_mut.self ≡ shown i.formula.clauses (set i.added.items (c.args.number - i.given) (Packed c.args.literals)) =
    elim c.match-index_mut.branch [ in-Whole-1 w ↦ w.self-is | in-Packed+in-Shared-1 w ↦ w.self-is | in-Packed+in-Bytes-1 w ↦ w.self-is ] in
    ap (λ (v : StoreView). get_or v.packed n false) now
    ∙ read_other (length i.formula.clauses) i.added.items (c.args.number - i.given) n c.args.literals
    (λ q. apart (omega (arith, q, c.self.invariant.counted, c.if-number-self.true)))
    (ap (λ (v : StoreView). get_or v.packed n false) c.self.view_is ∙ read)
