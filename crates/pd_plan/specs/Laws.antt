-- What a printed plan is read as.
use Rattle.std.specs.Prelude.{◌≡◌, ℕ, List, [], ◌∷◌, ◌++◌, Some, Ok, IsTrue, slice_get}
use Rattle.pd_sexp.specs.Bytes.{open_paren, semicolon, line_feed}
use Rattle.pd_model.specs.Fits.{is_call}
use Rattle.pd_model.specs.Text.{call_text}
use Rattle.pd_model.specs.WellFormed.{IsWellFormed}
use Rattle.pd_model.specs.declared.calls.Call.{Call}
use Rattle.pd_model.specs.declared.parts.Parts.{Parts}
use Rattle.pd_plan.specs.PlanFile.{plan_file}
use Rattle.pd_plan.specs.PlanText.{is_line, SpellsAnywhere}

-- the text of a call is one line
abbrev pub CallsAreLines : Type 0
CallsAreLines = (p : Parts) (call : Call) → IsWellFormed p → IsTrue (is_call p call) → IsTrue (is_line (call_text p call))

-- it begins with a parenthesis, so it is no comment
abbrev pub CallsBegin : Type 0
CallsBegin = (p : Parts) (call : Call) → slice_get (call_text p call) 0 ≡ Some open_paren

-- an empty text spells no calls
abbrev pub NothingIsSpelled : Type 0
NothingIsSpelled = (p : Parts) → SpellsAnywhere p [] []

-- a comment adds none
abbrev pub CommentsAddNone : Type 0
CommentsAddNone =
    (p : Parts) (line rest : List ℕ) (calls : List Call) → IsTrue (is_line line) → SpellsAnywhere p rest calls
    → SpellsAnywhere p (semicolon ∷ line ++ line_feed ∷ rest) calls

-- the line of a call adds this call
abbrev pub CallsAreSpelled : Type 0
CallsAreSpelled =
    (p : Parts) (call : Call) (rest : List ℕ) (calls : List Call) → IsWellFormed p → IsTrue (is_call p call) → SpellsAnywhere p rest calls
    → SpellsAnywhere p (call_text p call ++ line_feed ∷ rest) (call ∷ calls)

-- a text is read as the calls that it spells
abbrev pub SpelledAreRead : Type 0
SpelledAreRead = (p : Parts) (bytes : List ℕ) (calls : List Call) → SpellsAnywhere p bytes calls → plan_file p bytes ≡ Ok calls
