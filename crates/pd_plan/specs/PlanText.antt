-- Plan files that are printed line by line: a line is a comment, or the text of a call.
use Rattle.std.specs.Prelude.{ℕ, List}
pub use Rattle.report_lines.specs.Lines.{is_line}
use Rattle.pd_model.specs.declared.calls.Call.{Call}
use Rattle.pd_model.specs.declared.parts.Parts.{Parts}
use Rattle.pd_plan.specs.own.Spells.{SpellsFrom}

-- the bytes are gaps and lists that spell these calls, wherever they begin
abbrev pub SpellsAnywhere : Parts → List ℕ → List Call → Type 0
SpellsAnywhere p bytes calls = (offset : ℕ) → SpellsFrom p offset bytes calls
