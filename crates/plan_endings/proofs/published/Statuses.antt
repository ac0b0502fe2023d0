-- The statuses of a run that is asked for nothing.
use Rattle.std.proofs.Common.{◌≡◌, ℕ, [], ◌∷◌, sym, arith, inl, inr}
use Rattle.std.specs.Prelude.{Contains}
use Rattle.std.proofs.lemmas.Bool.Decides.{eqb_tells}

-- a status that is 7 where it is not 6
pub six_seven : (status : ℕ) → ((status ≡ 6 → ⊥) → status ≡ 7) → Contains (6 ∷ 7 ∷ []) status
six_seven status seven = elim (eqb_tells status 6) [
  | inl (t, six) ↦ (0, omega arith, sym six)
  | inr (f, not_six) ↦ (1, omega arith, sym (seven not_six))
]

-- a status that is 7 where it is neither 6 nor 8
pub six_seven_eight : (status : ℕ) → ((status ≡ 6 → ⊥) → (status ≡ 8 → ⊥) → status ≡ 7) → Contains (6 ∷ 7 ∷ 8 ∷ []) status
six_seven_eight status seven = elim (eqb_tells status 8) [
  | inl (t, eight) ↦ (2, omega arith, sym eight)
  | inr (f, not_eight) ↦ elim (eqb_tells status 6) [
    | inl (t, six) ↦ (0, omega arith, sym six)
    | inr (g, not_six) ↦ (1, omega arith, sym (seven not_six not_eight))
  ]
]
