use Rattle.std.proofs.Common.{◌≡◌, ℕ, List, [], ◌∷◌, ◌++◌, map, Bool, true, false, not, ◌||◌, refl, sym, ap, ◌∙◌, subst, inl, inr}
use Rattle.std.specs.List.{flat_map}
use Rattle.gt_core.proofs.published.Basics.{Among, or_left, not_false}
use Rattle.formula_defs.specs.Clause.{Literal, clause_true, AllTrue}

-- Satisfied lists of clauses, in parts.

-- a satisfied list of clauses in parts
pub joined : (v : ℕ → Bool) (cs ds : List (List Literal)) → AllTrue v cs → AllTrue v ds → AllTrue v (cs ++ ds)
joined v [] ds s t = t
joined v (c ∷ cs) ds s t = (s.0, joined v cs ds s.1 t)

pub parted : (v : ℕ → Bool) (cs ds : List (List Literal)) → AllTrue v (cs ++ ds) → AllTrue v cs × AllTrue v ds
parted v [] ds s = (tt, s)
parted v (c ∷ cs) ds s = let r = parted v cs ds s.1 in ((s.0, r.0), r.1)

pub satisfied_each : {A : Type 0} (v : ℕ → Bool) (f : A → List (List Literal)) (xs : List A) → AllTrue v (flat_map f xs) → (x : A) → Among x xs → AllTrue v (f x)
satisfied_each v f [] s x a = absurd a
satisfied_each v f (y ∷ ys) s x (inl e) = subst (λ z. AllTrue v (f z)) (sym e) (parted v (f y) (flat_map f ys) s).0
satisfied_each v f (y ∷ ys) s x (inr a) = satisfied_each v f ys (parted v (f y) (flat_map f ys) s).1 x a

pub satisfied_all : {A : Type 0} (v : ℕ → Bool) (f : A → List (List Literal)) (xs : List A) → ((x : A) → Among x xs → AllTrue v (f x)) → AllTrue v (flat_map f xs)
satisfied_all v f [] h = tt
satisfied_all v f (y ∷ ys) h = joined v (f y) (flat_map f ys) (h y (inl refl)) (satisfied_all v f ys (λ x a. h x (inr a)))

pub satisfied_map_each : {A : Type 0} (v : ℕ → Bool) (f : A → List Literal) (xs : List A) → AllTrue v (map f xs) → (x : A) → Among x xs → clause_true v (f x) ≡ true
satisfied_map_each v f [] s x a = absurd a
satisfied_map_each v f (y ∷ ys) s x (inl e) = ap (λ z. clause_true v (f z)) e ∙ s.0
satisfied_map_each v f (y ∷ ys) s x (inr a) = satisfied_map_each v f ys s.1 x a

pub satisfied_map_all : {A : Type 0} (v : ℕ → Bool) (f : A → List Literal) (xs : List A) → ((x : A) → Among x xs → clause_true v (f x) ≡ true) → AllTrue v (map f xs)
satisfied_map_all v f [] h = tt
satisfied_map_all v f (y ∷ ys) h = (h y (inl refl), satisfied_map_all v f ys (λ x a. h x (inr a)))

-- clauses of two literals, and of one and others
pub implies : (a b : Bool) → (not a || (b || false)) ≡ true → a ≡ true → b ≡ true
implies true true e f = refl
implies true false e f = cc
implies false b e f = cc

pub implied : (a b : Bool) → (a ≡ true → b ≡ true) → (not a || (b || false)) ≡ true
implied true b h = or_left b false (h refl)
implied false b h = refl

pub excludes : (a b : Bool) → (not a || (not b || false)) ≡ true → a ≡ true → b ≡ false
excludes true true e f = cc
excludes true false e f = refl
excludes false b e f = cc

pub excluded : (a b : Bool) → (a ≡ true → b ≡ false) → (not a || (not b || false)) ≡ true
excluded true b h = or_left (not b) false (not_false b (h refl))
excluded false b h = refl
