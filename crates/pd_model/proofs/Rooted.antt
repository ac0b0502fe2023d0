-- The types of a well-formed task are one tree.
use Rattle.std.proofs.Common.{◌≡◌, ℕ, zero, suc, ◌<◌, true, List, [], ◌∷◌, length, Some, sym, subst, arith}
use Rattle.std.specs.Prelude.{nat_lt, slice_index, slice_get}
use Rattle.std.proofs.lemmas.List.{length-map}
use Rattle.std.proofs.lemmas.Bool.{ltb-true, and_parts}
use Rattle.pd_model.specs.Types.{parents_of, kinds_of}
use Rattle.pd_model.specs.own.Walk.{AreRooted}
use Rattle.pd_model.specs.WellFormed.{are_below, IsWellFormed}
use Rattle.pd_model.specs.declared.objects.ObjectDecl.{ObjectDecl}
use Rattle.pd_model.specs.declared.parts.Parts.{Parts}
use Rattle.pd_model.proofs.TypeWalk.{rooted_is}

first_is : (xs : List ℕ) (x : ℕ) → slice_get xs 0 ≡ Some x → (0 < length xs) × (slice_index xs 0 ≡ x)
first_is [] x is = absurd cc
first_is (y ∷ ys) x is = (omega arith, cc)

below_at : (n : ℕ) (xs : List ℕ) (k : ℕ) → 0 < n → are_below n xs ≡ true → slice_index xs k < n
below_at n [] k some is = some
below_at n (x ∷ xs) zero some is = ltb-true x n ((and_parts (nat_lt x n) (are_below n xs) is).0)
below_at n (x ∷ xs) (suc k) some is = below_at n xs k some ((and_parts (nat_lt x n) (are_below n xs) is).1)

pub well_formed_rooted : (p : Parts) → IsWellFormed p → AreRooted (parents_of p.types)
well_formed_rooted p w =
    let parents = parents_of p.types in
    let long : length parents ≡ length p.types = length-map p.types (λ t. t.parent) in
    let first = first_is parents 0 (w.has_object) in
    rooted_is parents (first.0) (first.1)
    (λ k. subst (λ n. slice_index parents k < n) (sym long) (below_at (length p.types) parents k (omega (arith, first.0, long)) (w.parents)))
    (λ k lt. w.leads_to_object k (omega (arith, lt, long)))

below_each : (n : ℕ) (xs : List ObjectDecl) (o : ℕ) (d : ObjectDecl) → are_below n (kinds_of xs) ≡ true → slice_get xs o ≡ Some d → d.kind < n
below_each n [] o d is found = absurd cc
below_each n (x ∷ xs) zero d is found =
    let same : x ≡ d = cc in
    subst (λ (y : ObjectDecl). y.kind < n) same (ltb-true (x.kind) n ((and_parts (nat_lt (x.kind) n) (are_below n (kinds_of xs)) is).0))
below_each n (x ∷ xs) (suc o) d is found = below_each n xs o d ((and_parts (nat_lt (x.kind) n) (are_below n (kinds_of xs)) is).1) found

-- the type of each object is declared
pub kind_below : (p : Parts) → IsWellFormed p → (o : ℕ) (d : ObjectDecl) → slice_get p.objects o ≡ Some d → d.kind < length p.types
kind_below p w o d found = below_each (length p.types) p.objects o d (w.kinds) found
