-- The orders of numbers, lists, atoms, calls and effects are strict orders in which any two that differ are compared.
use Rattle.std.proofs.Common.{arith, ◌≡◌, ℕ, ◌==◌, List, [], ◌∷◌, Bool, true, false, ◌&&◌, ◌||◌, refl}
use Rattle.std.specs.Prelude.{nat_lt}
use Rattle.std.proofs.lemmas.Bool.Decides.{nat_tests}
use Rattle.gt_core.specs.Lawful.{list_less, effect_less}
use Rattle.gt_core.specs.Task.{Effect}
use Rattle.pd_model.specs.declared.atoms.Atom.{Atom}
use Rattle.pd_model.specs.declared.calls.Call.{Call}
use Rattle.grounding_defs.specs.Sorted.{atom_less, call_less}

pub record IsOrder {X : Type 0} (less : X → X → Bool) : Type 0 where
  pub apart : (x y : X) → less x y ≡ true → less y x ≡ true → ⊥
  pub along : (x y z : X) → less x y ≡ true → less y z ≡ true → less x z ≡ true
  pub total : (x y : X) → less x y ≡ false → less y x ≡ false → x ≡ y

-- by a number, and then by what else there is
abbrev first_by : ℕ → ℕ → Bool → Bool
first_by m n rest = nat_lt m n || ((m == n) && rest)

first_apart : (m n : ℕ) (r q : Bool) → (r ≡ true → q ≡ true → ⊥) → first_by m n r ≡ true → first_by n m q ≡ true → ⊥
first_apart m n r q h t u = grind (arith, nat_tests, h)

first_along : (l m n : ℕ) (r q u : Bool) → (r ≡ true → q ≡ true → u ≡ true) → first_by l m r ≡ true → first_by m n q ≡ true → first_by l n u ≡ true
first_along l m n r q u h s t = grind (arith, nat_tests, h)

record Tied (m n : ℕ) (r q : Bool) : Type 0 where
  same : m ≡ n
  not_less : r ≡ false
  not_greater : q ≡ false

first_total : (m n : ℕ) (r q : Bool) → first_by m n r ≡ false → first_by n m q ≡ false → Tied m n r q
first_total m n r q s t = record { same = grind (arith, nat_tests); not_less = grind (arith, nat_tests); not_greater = grind (arith, nat_tests) }

lists_apart : (xs ys : List ℕ) → list_less xs ys ≡ true → list_less ys xs ≡ true → ⊥
lists_apart [] [] t u = cc
lists_apart [] (y ∷ ys) t u = cc
lists_apart (x ∷ xs) [] t u = cc
lists_apart (x ∷ xs) (y ∷ ys) t u = first_apart x y (list_less xs ys) (list_less ys xs) (lists_apart xs ys) t u

lists_along : (xs ys zs : List ℕ) → list_less xs ys ≡ true → list_less ys zs ≡ true → list_less xs zs ≡ true
lists_along [] [] zs t u = cc
lists_along [] (y ∷ ys) [] t u = cc
lists_along [] (y ∷ ys) (z ∷ zs) t u = refl
lists_along (x ∷ xs) [] zs t u = cc
lists_along (x ∷ xs) (y ∷ ys) [] t u = cc
lists_along (x ∷ xs) (y ∷ ys) (z ∷ zs) t u = first_along x y z (list_less xs ys) (list_less ys zs) (list_less xs zs) (lists_along xs ys zs) t u

lists_total : (xs ys : List ℕ) → list_less xs ys ≡ false → list_less ys xs ≡ false → xs ≡ ys
lists_total [] [] t u = refl
lists_total [] (y ∷ ys) t u = cc
lists_total (x ∷ xs) [] t u = cc
lists_total (x ∷ xs) (y ∷ ys) t u =
    let tied = first_total x y (list_less xs ys) (list_less ys xs) t u in
    let rest = lists_total xs ys tied.not_less tied.not_greater in
    λ i. tied.same i ∷ rest i

pub numbers : IsOrder nat_lt
numbers = record {
  apart = λ x y t u. grind (arith, nat_tests);
  along = λ x y z t u. grind (arith, nat_tests);
  total = λ x y t u. grind (arith, nat_tests);
}

-- by a number, and then by a list of numbers, where these two tell apart
by_pair : {X : Type 0} (first : X → ℕ) (rest : X → List ℕ) → ((x y : X) → first x ≡ first y → rest x ≡ rest y → x ≡ y) → IsOrder (λ x y. first_by (first x) (first y) (list_less (rest x) (rest y)))
by_pair first rest same = record {
  apart = λ x y t u. first_apart (first x) (first y) _ _ (lists_apart (rest x) (rest y)) t u;
  along = λ x y z t u. first_along (first x) (first y) (first z) _ _ _ (lists_along (rest x) (rest y) (rest z)) t u;
  total = λ x y t u.
      let tied = first_total (first x) (first y) (list_less (rest x) (rest y)) (list_less (rest y) (rest x)) t u in
      same x y tied.same (lists_total (rest x) (rest y) tied.not_less tied.not_greater);
}

pub atoms : IsOrder atom_less
atoms = by_pair {X = Atom} (λ (a : Atom). a.predicate) (λ (a : Atom). a.objects) (λ a b p o i. record { predicate = p i; objects = o i })

pub calls : IsOrder call_less
calls = by_pair {X = Call} (λ (c : Call). c.schema) (λ (c : Call). c.objects) (λ c d s o i. record { schema = s i; objects = o i })

pub effects : IsOrder effect_less
effects = by_pair {X = Effect} (λ (e : Effect). e.literal) (λ (e : Effect). e.condition) (λ d e l o i. record { condition = o i; literal = l i })
