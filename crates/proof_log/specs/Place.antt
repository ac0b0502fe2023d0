-- Where bytes stop to be a certificate: at the first byte of the first line that does not fit.
use Rattle.std.specs.Prelude.{◌≡◌, ◌≤◌, ⊤, ℕ, List, [], ◌∷◌, ◌++◌, length}
use Rattle.std.specs.List.{AllByRecursion}
use Rattle.report_lines.specs.Lines.{joined}
use Rattle.clause_base.specs.declared.log.Entry.{Entry}
use Rattle.proof_log.specs.Text.{spaced, horizon_words, entry_line, IsWritten}
use Rattle.proof_log.specs.declared.proof.ProofFault.{ProofFault}
use Rattle.proof_log.specs.declared.proof.ProofFault.TheVariants.{Syntax, Memory}
use Rattle.horizon_rates.specs.Limits.{last_horizon}

-- the line names a horizon from 0 to the greatest one
abbrev pub IsHorizonLine : List ℕ → Type 0
IsHorizonLine line = (horizon : ℕ) × (horizon ≤ last_horizon) × (line ≡ spaced (horizon_words horizon))

-- the line is that of an entry
abbrev pub IsEntryLine : List ℕ → Type 0
IsEntryLine line = (e : Entry) × IsWritten e × (line ≡ entry_line e)

-- the line fits after these
abbrev pub FitsAfter : List (List ℕ) → List ℕ → Type 0
FitsAfter [] line = IsHorizonLine line
FitsAfter (first ∷ lines) line = IsEntryLine line

-- each of these lines fits after those before it
abbrev pub AllFit : List (List ℕ) → Type 0
AllFit [] = ⊤
AllFit (first ∷ lines) = IsHorizonLine first × AllByRecursion IsEntryLine lines

-- The bytes are lines that fit, each ended by LF, up to this offset. What follows does not begin with one more: it is no text
-- of further lines where it is not empty, and no first line where it is.
pub record IsUnfitAt (bytes : List ℕ) (at : ℕ) : Type 0 where
  pub lines : List (List ℕ)
  pub rest : List ℕ
  pub text : bytes ≡ joined lines ++ rest
  pub place : at ≡ length (joined lines)
  pub fit : AllFit lines
  pub left : rest ≡ [] → lines ≡ []
  pub unfit : (line more : List ℕ) → rest ≡ line ++ 10 ∷ more → FitsAfter lines line → ⊥

-- the fault that is told is there; want of memory is free
abbrev pub TellsPlace : List ℕ → ProofFault → Type 0
TellsPlace bytes (Syntax at) = IsUnfitAt bytes at
TellsPlace bytes Memory = ⊤
