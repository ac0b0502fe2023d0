-- The laws of certificates as texts.
use Rattle.std.specs.Prelude.{◌≡◌, ◌≤◌, ℕ, List}
use Rattle.clause_base.specs.declared.log.Entry.{Entry}
use Rattle.report_lines.specs.Lines.{lines_of}
use Rattle.proof_log.specs.Text.{proof_lines, proof_text, AreWritten}
use Rattle.proof_log.specs.Place.{IsUnfitAt}
use Rattle.horizon_rates.specs.Limits.{last_horizon}

-- a text is that of one horizon and one log
abbrev pub OneSpelling : Type 0
OneSpelling =
    (horizon other : ℕ) (log others : List Entry) → horizon ≤ last_horizon → other ≤ last_horizon → AreWritten log → AreWritten others
    → proof_text horizon log ≡ proof_text other others → (horizon ≡ other) × (log ≡ others)

-- its lines are those of the horizon and of the entries
abbrev pub LinesAreRead : Type 0
LinesAreRead = (horizon : ℕ) (log : List Entry) → horizon ≤ last_horizon → AreWritten log → lines_of (proof_text horizon log) ≡ proof_lines horizon log

-- and is unfit nowhere
abbrev pub TextsAreFit : Type 0
TextsAreFit = (horizon : ℕ) (log : List Entry) (at : ℕ) → horizon ≤ last_horizon → AreWritten log → IsUnfitAt (proof_text horizon log) at → ⊥

-- other bytes are unfit at one place
abbrev pub OnePlace : Type 0
OnePlace = (bytes : List ℕ) (at other : ℕ) → IsUnfitAt bytes at → IsUnfitAt bytes other → at ≡ other
