-- What is found left of a clause is what is left of it.
use Rattle.std.proofs.Common.{◌≡◌, ◌==◌, ℕ, List, [], ◌∷◌, Bool, true, false, Some, None, refl, sym, ◌∙◌, subst, inl, inr}
use Rattle.std.specs.Prelude.{if◌then◌else◌}
use Rattle.gt_core.specs.Literal.{opposite}
use Rattle.gt_core.proofs.published.Basics.{same_test, test_same, apart, or_left, or_right}
use Rattle.never_defs.specs.Propagation.{IsLeft}
use Rattle.never_check.specs.declared.left.Left.{Left}
use Rattle.never_check.specs.declared.left.Left.TheVariants as left
use Rattle.never_check.specs.Left.{left_from, TellsLeft}

-- what the rest of a clause tells after a literal that is not false
abbrev Seen : (ℕ → Bool) → ℕ → List ℕ → Left → Type 0
Seen set u c left.Nothing = ⊥
Seen set u c (left.One v) = (u ≡ v) × IsLeft set c u
Seen set u c left.More = IsLeft set c u → ⊥

module _ (set : ℕ → Bool) where
  seen_false : (u l : ℕ) (c : List ℕ) (o : Left) → set (opposite l) ≡ true → Seen set u c o → Seen set u (l ∷ c) o
  seen_false u l c left.Nothing e s = s
  seen_false u l c (left.One v) e s = (s.0, (inr e, s.1))
  seen_false u l c left.More e s = λ left. s left.1

  seen_again : (u l : ℕ) (c : List ℕ) (o : Left) → l ≡ u → Seen set u c o → Seen set u (l ∷ c) o
  seen_again u l c left.Nothing e s = s
  seen_again u l c (left.One v) e s = (s.0, (inl e, s.1))
  seen_again u l c left.More e s = λ left. s left.1

  seen_other : (u l : ℕ) (c : List ℕ) → set (opposite l) ≡ false → (u == l) ≡ false → IsLeft set (l ∷ c) u → ⊥
  seen_other u l c f ne left = elim left.0 [ inl e ↦ apart (u == l) (same_test u l (sym e)) ne | inr t ↦ apart _ t f ]

  seen : (u : ℕ) (c : List ℕ) → Seen set u c (left_from set (Some u) c)
  seen u [] = (refl, tt)
  seen u (l ∷ c) = by (set (opposite l)) (u == l) (seen u c) refl refl
    where
      by : (b d : Bool) → Seen set u c (left_from set (Some u) c) → set (opposite l) ≡ b → (u == l) ≡ d → Seen set u (l ∷ c) (if b then left_from set (Some u) c else (if d then left_from set (Some u) c else left.More))
      by true d rest e s = seen_false u l c (left_from set (Some u) c) e rest
      by false true rest e s = seen_again u l c (left_from set (Some u) c) (sym (test_same u l s)) rest
      by false false rest e s = seen_other u l c e s

  first_false : (l : ℕ) (c : List ℕ) (o : Left) → set (opposite l) ≡ true → TellsLeft set c o → TellsLeft set (l ∷ c) o
  first_false l c left.Nothing e t = λ m. (inr e, t m)
  first_false l c (left.One u) e t = (or_right _ _ t.0, t.1, (inr e, t.2), λ m left. t.3 m left.1)
  first_false l c left.More e t = λ m left. t m left.1

  -- the literal that is not false is the one that may be left
  only : (l m : ℕ) (c : List ℕ) → set (opposite l) ≡ false → IsLeft set (l ∷ c) m → l ≡ m
  only l m c f left = elim left.0 [ inl e ↦ e | inr t ↦ absurd (apart _ t f) ]

  first_seen : (l : ℕ) (c : List ℕ) (o : Left) → set (opposite l) ≡ false → Seen set l c o → TellsLeft set (l ∷ c) o
  first_seen l c left.Nothing f s = absurd s
  first_seen l c (left.One v) f s = (or_left _ _ (same_test l v s.0), subst (λ (k : ℕ). set (opposite k) ≡ false) s.0 f, (inl s.0, subst (λ (k : ℕ). IsLeft set c k) s.0 s.1), λ m left. sym s.0 ∙ only l m c f left)
  first_seen l c left.More f s = λ m left. s (subst (λ (k : ℕ). IsLeft set c k) (sym (only l m c f left)) left.1)

  pub tells : (c : List ℕ) → TellsLeft set c (left_from set None c)
  tells [] = λ l. tt
  tells (l ∷ c) = by (set (opposite l)) (tells c) refl
    where
      by : (b : Bool) → TellsLeft set c (left_from set None c) → set (opposite l) ≡ b → TellsLeft set (l ∷ c) (if b then left_from set None c else left_from set (Some l) c)
      by true rest e = first_false l c (left_from set None c) e rest
      by false rest e = first_seen l c (left_from set (Some l) c) e (seen l c)
