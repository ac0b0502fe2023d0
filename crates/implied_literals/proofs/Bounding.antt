use Rattle.std.proofs.Common.{arith, ◌≡◌, ℕ, ◌+◌, ◌<◌, ◌≤◌, ◌⊎◌, inl, inr, subst}
use Rattle.std.proofs.lemmas.Bool.{cases_lt}

-- what holds of the numbers below one, of those from it to another, and of the other, holds up to there
pub next_too : (P : ℕ → Type 0) (from x : ℕ) → ((j : ℕ) → from ≤ j → j < x → P j) → ((j : ℕ) → j < from → P j) → P x → (j : ℕ) → j < x + 1 → P j
next_too P from x between below own j lt = by (cases_lt j from)
  where
    rest : from ≤ j → (j < x) ⊎ (x ≤ j) → P j
    rest g (inl l) = between j g l
    rest g (inr h) = let e : x ≡ j = omega arith in subst P e own

    by : (j < from) ⊎ (from ≤ j) → P j
    by (inl l) = below j l
    by (inr g) = rest g (cases_lt j x)
