use Rattle.std.proofs.Common.{◌≡◌, ℕ, List, [], ◌∷◌, ◌++◌, reverse, refl, sym, ◌∙◌, subst, inl, inr}
use Rattle.std.proofs.lemmas.Grind.{reverse_onto}
use Rattle.gt_core.specs.Published.{Pairwise}
use Rattle.gt_core.proofs.published.Basics.{Among, each_at, each_from}
use Rattle.gt_core.proofs.published.Pairwise.{among_split, among_left, among_right, pairwise_joined}
use Rattle.step_laws.proofs.FormLaw.{pairwise_first}

-- What holds of each two elements of a list and of its reverse.

turned : (k : ℕ) (ks : List ℕ) → reverse (k ∷ ks) ≡ reverse ks ++ k ∷ []
turned k ks = reverse_onto ks k []

pub among_back : (ks : List ℕ) (a : ℕ) → Among a (reverse ks) → Among a ks
among_back [] a i = i
among_back (k ∷ ks) a i = elim (among_split (reverse ks) (k ∷ []) a (subst (λ (xs : List ℕ). Among a xs) (turned k ks) i)) [
  | inl j ↦ inr (among_back ks a j)
  | inr j ↦ elim j [ inl e ↦ inl e | inr none ↦ absurd none ]
]

into_back : (ks : List ℕ) (a : ℕ) → Among a ks → Among a (reverse ks)
into_back [] a i = i
into_back (k ∷ ks) a (inl e) = subst (λ (xs : List ℕ). Among a xs) (sym (turned k ks)) (among_right (reverse ks) (k ∷ []) a (inl e))
into_back (k ∷ ks) a (inr i) = subst (λ (xs : List ℕ). Among a xs) (sym (turned k ks)) (among_left (reverse ks) (k ∷ []) a (into_back ks a i))

pub pairwise_back : (R : ℕ → ℕ → Type 0) (ks : List ℕ) → Pairwise (λ a b. R b a) ks → Pairwise R (reverse ks)
pairwise_back R [] p = tt
pairwise_back R (k ∷ ks) p =
    subst (λ (xs : List ℕ). Pairwise R xs) (sym (turned k ks))
    (pairwise_joined R (reverse ks) (k ∷ []) (pairwise_back R ks p.1) (tt, tt)
    (λ x y a b. elim b [
      | inl e ↦ subst (λ z. R x z) (sym e) (each_at (λ w. R w k) ks x p.0 (among_back ks x a))
      | inr none ↦ absurd none
    ]))

across_lists : (R : ℕ → ℕ → Type 0) (xs ys : List ℕ) (x y : ℕ) → Pairwise R (xs ++ ys) → Among x xs → Among y ys → R x y
across_lists R [] ys x y p a b = absurd a
across_lists R (z ∷ xs) ys x y p (inl e) b = subst (λ w. R w y) (sym e) (each_at (R z) (xs ++ ys) y p.0 (among_right xs ys y b))
across_lists R (z ∷ xs) ys x y p (inr a) b = across_lists R xs ys x y p.1 a b

pub pairwise_front : (R : ℕ → ℕ → Type 0) (ks : List ℕ) → Pairwise R (reverse ks) → Pairwise (λ a b. R b a) ks
pairwise_front R [] p = tt
pairwise_front R (k ∷ ks) p =
    let q : Pairwise R (reverse ks ++ k ∷ []) = subst (λ (xs : List ℕ). Pairwise R xs) (turned k ks) p in (
      each_from (λ b. R b k) ks (λ b i. across_lists R (reverse ks) (k ∷ []) b k q (into_back ks b i) (inl refl)),
      pairwise_front R ks (pairwise_first R (reverse ks) (k ∷ []) q),
    )

-- what holds of each two in their order and in the reverse, and of each with itself, holds of any two
pub any_two : (R : ℕ → ℕ → Type 0) (ks : List ℕ) → Pairwise R ks → Pairwise (λ a b. R b a) ks → ((a : ℕ) → R a a) → (a b : ℕ) → Among a ks → Among b ks → R a b
any_two R [] p q d a b i j = absurd i
any_two R (k ∷ ks) p q d a b (inl e) (inl f) = subst (λ y. R a y) (e ∙ sym f) (d a)
any_two R (k ∷ ks) p q d a b (inl e) (inr j) = subst (λ x. R x b) (sym e) (each_at (R k) ks b p.0 j)
any_two R (k ∷ ks) p q d a b (inr i) (inl f) = subst (λ y. R a y) (sym f) (each_at (λ w. R w k) ks a q.0 i)
any_two R (k ∷ ks) p q d a b (inr i) (inr j) = any_two R ks p.1 q.1 d a b i j
