-- Lines from the left, as a reader meets them: what is read, and then the rest of the bytes. Only private clauses speak of it.
use Rattle.std.specs.Prelude.{◌≡◌, ◌≤◌, ◌<◌, ℕ, List, [], ◌∷◌, ◌++◌, codes, decimal}
use Rattle.std.specs.Char.{digit_value}
use Rattle.clause_base.specs.declared.log.Entry.{Entry}
use Rattle.clause_base.specs.declared.log.Entry.TheVariants.{Learn, Drop}
use Rattle.proof_log.specs.Text.{AreSmall, IsWritten}
use Rattle.horizon_rates.specs.Limits.{last_horizon}

-- the byte is a decimal digit
abbrev pub IsDigit : ℕ → Type 0
IsDigit b = digit_value b < 10

-- the bytes begin with a digit
abbrev pub BeginsDigit : List ℕ → Type 0
BeginsDigit [] = ⊥
BeginsDigit (b ∷ bytes) = IsDigit b

-- a number ends before these bytes
abbrev pub Stops : List ℕ → Type 0
Stops bytes = BeginsDigit bytes → ⊥

-- the bytes begin with a blank and a digit
abbrev pub BeginsNumber : List ℕ → Type 0
BeginsNumber bytes = (tail : List ℕ) × (bytes ≡ 32 ∷ tail) × BeginsDigit tail

-- each number after a blank, and then the rest
abbrev pub numbered : List ℕ → List ℕ → List ℕ
numbered [] rest = rest
numbered (n ∷ ns) rest = 32 ∷ (decimal n ++ numbered ns rest)

-- a number of an own line, and then the rest
abbrev pub one_then : ℕ → List ℕ → List ℕ
one_then n rest = numbered (n ∷ []) (10 ∷ rest)

-- what follows `learn` on its line, and then the rest
abbrev pub learn_then : List ℕ → List ℕ → List ℕ → List ℕ
learn_then clause hints rest = numbered clause (codes " by" ++ numbered hints (10 ∷ rest))

-- the line of an entry, and then the rest
abbrev pub entry_then : Entry → List ℕ → List ℕ
entry_then (Learn clause hints) rest = codes "learn" ++ learn_then clause hints rest
entry_then (Drop number) rest = codes "drop" ++ one_then number rest

-- bytes that do not begin with a number
abbrev pub HasNoNumber : List ℕ → Type 0
HasNoNumber bytes = (n : ℕ) (rest : List ℕ) → n ≤ 4294967295 → Stops rest → bytes ≡ decimal n ++ rest → ⊥

-- bytes that are not a number of an own line, and then a rest
abbrev pub HasNoOne : List ℕ → Type 0
HasNoOne bytes = (n : ℕ) (rest : List ℕ) → n ≤ 4294967295 → bytes ≡ one_then n rest → ⊥

-- where numbers end: before no digit, and before no further number
abbrev pub EndsNumbers : List ℕ → Type 0
EndsNumbers rest = Stops rest × (BeginsNumber rest → ⊥)

-- bytes that do not begin with numbers that end
abbrev pub HasNoNumbers : List ℕ → Type 0
HasNoNumbers bytes = (ns : List ℕ) (rest : List ℕ) → AreSmall ns → EndsNumbers rest → bytes ≡ numbered ns rest → ⊥

-- numbers, and then bytes that begin with no further one; where there is a number, it has ended
pub record ReadsNumbers (bytes ns rest : List ℕ) : Type 0 where
  pub text : bytes ≡ numbered ns rest
  pub small : AreSmall ns
  pub ended : (ns ≡ [] → ⊥) → Stops rest
  pub last : BeginsNumber rest → ⊥

-- bytes that are not numbers and then these bytes
abbrev pub HasNoNumbersTo : List ℕ → List ℕ → Type 0
HasNoNumbersTo end bytes = (ns rest : List ℕ) → AreSmall ns → bytes ≡ numbered ns (end ++ rest) → ⊥

-- An entry was added to those before: bytes are what follows `learn` on its line, and then the rest.
pub record AddsLearn (old new : List Entry) (bytes rest : List ℕ) : Type 0 where
  pub clause : List ℕ
  pub hints : List ℕ
  pub written : IsWritten (Learn clause hints)
  pub added : new ≡ old ++ Learn clause hints ∷ []
  pub text : bytes ≡ learn_then clause hints rest

-- The same of any entry, by its whole line.
pub record AddsEntry (old new : List Entry) (bytes rest : List ℕ) : Type 0 where
  pub entry : Entry
  pub written : IsWritten entry
  pub added : new ≡ old ++ entry ∷ []
  pub text : bytes ≡ entry_then entry rest

-- bytes that do not begin with what follows `learn`
abbrev pub HasNoLearn : List ℕ → Type 0
HasNoLearn bytes = (clause hints rest : List ℕ) → IsWritten (Learn clause hints) → bytes ≡ learn_then clause hints rest → ⊥

-- nor with the line of an entry
abbrev pub HasNoEntry : List ℕ → Type 0
HasNoEntry bytes = (e : Entry) (rest : List ℕ) → IsWritten e → bytes ≡ entry_then e rest → ⊥

-- nor with the line of a horizon
abbrev pub HasNoHorizon : List ℕ → Type 0
HasNoHorizon bytes = (horizon : ℕ) (rest : List ℕ) → horizon ≤ last_horizon → bytes ≡ codes "horizon" ++ one_then horizon rest → ⊥
