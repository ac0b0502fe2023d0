-- What is watched, where reasons do not matter.
use Rattle.std.proofs.Common.{arith, ◌≡◌, ◌==◌, ℕ, ◌+◌, ◌*◌, ◌/◌, ◌%◌, List, [], ◌∷◌, ◌++◌, take, Bool, true, false, Some, None, if◌then◌else◌, refl, sym, ap, ◌∙◌}
use Rattle.std.proofs.lemmas.Bool.Decides.{nat_tests}
use Rattle.std.proofs.lemmas.List.{map_push, take-map}
use Rattle.clause_base.specs.Literal.{opposite}
use Rattle.clause_base.specs.Clause.{has_literal}
use Rattle.cdcl_defs.specs.declared.trail.Assigned.{Assigned}
use Rattle.cdcl_defs.specs.State.{is_on, value_of}
use Rattle.cdcl_tables.specs.Assignment.{literals}
use Rattle.cdcl_tables.proofs.published.Assignments.{has_is}
use Rattle.propagation.specs.Pending.{PropagatorView}
use Rattle.watch_lists.specs.Pending.{WatchesView, without_reasons}

none_by : (p q : Bool) → p ≡ false → q ≡ false → (if p then Some true else if q then Some false else None) ≡ None
none_by true q e f = cc
none_by false true e f = cc
none_by false false e f = refl

-- a variable has no value where neither of its literals is true
pub none_of : (es : List Assigned) (l : ℕ) → has_literal (literals es) l ≡ false → has_literal (literals es) (opposite l) ≡ false → value_of es (l / 2) ≡ None
none_of es l off free = by (l % 2 == 0) refl
  where
    by : (even : Bool) → (l % 2 == 0) ≡ even → value_of es (l / 2) ≡ None
    by true f =
        let t : 2 * (l / 2) ≡ l = grind (arith, nat_tests) in
        let u : 2 * (l / 2) + 1 ≡ opposite l = grind (arith, nat_tests) in
        none_by (is_on es (2 * (l / 2))) (is_on es (2 * (l / 2) + 1)) (ap (is_on es) t ∙ sym (has_is es l) ∙ off) (ap (is_on es) u ∙ sym (has_is es (opposite l)) ∙ free)
    by false f =
        let t : 2 * (l / 2) ≡ opposite l = grind (arith, nat_tests) in
        let u : 2 * (l / 2) + 1 ≡ l = grind (arith, nat_tests) in
        none_by (is_on es (2 * (l / 2))) (is_on es (2 * (l / 2) + 1)) (ap (is_on es) t ∙ sym (has_is es (opposite l)) ∙ free) (ap (is_on es) u ∙ sym (has_is es l) ∙ off)

-- one literal more is true
pub view_push : (w w' : PropagatorView) (v : WatchesView) (a : Assigned) → w' ≡ record w { entries = w.entries ++ a ∷ [] } → without_reasons w ≡ v
    → without_reasons w' ≡ record v { trail = v.trail ++ a.literal ∷ [] }
view_push w w' v a e h =
    ap without_reasons e
    ∙ ap (λ (ls : List ℕ). let x : WatchesView = record { variables = w.variables; clauses = w.clauses; kept = w.kept; trail = ls } in x) (map_push (λ (x : Assigned). x.literal) w.entries a)
    ∙ ap (λ (x : WatchesView). record x { trail = x.trail ++ a.literal ∷ [] }) h

-- the trail goes back
pub view_cut : (w w' : PropagatorView) (v : WatchesView) (n : ℕ) → w' ≡ record w { entries = take n w.entries } → without_reasons w ≡ v
    → without_reasons w' ≡ record v { trail = take n v.trail }
view_cut w w' v n e h =
    ap without_reasons e
    ∙ ap (λ (ls : List ℕ). let x : WatchesView = record { variables = w.variables; clauses = w.clauses; kept = w.kept; trail = ls } in x) (sym (take-map (λ (x : Assigned). x.literal) n w.entries))
    ∙ ap (λ (x : WatchesView). record x { trail = take n x.trail }) h
