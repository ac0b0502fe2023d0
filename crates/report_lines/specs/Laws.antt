-- The laws of the lines of a report.
use Rattle.std.specs.Prelude.{◌≡◌, ℕ, IsTrue, List, ◌++◌, All, Contains}
use Rattle.std.specs.List.{list_all}
use Rattle.report_lines.specs.Lines.{lines_of, joined, is_line}
use Rattle.report_lines.specs.Horizons.{Says, Entry, IsEntry, is_word, is_remark, report}

-- lines that are joined are read back
abbrev pub LinesReadBack : Type 0
LinesReadBack = (lines : List (List ℕ)) → IsTrue (list_all is_line lines) → lines_of (joined lines) ≡ lines

-- what a text says is said by every text that goes on from it
abbrev pub FrontsSayNoMore : Type 0
FrontsSayNoMore = (text rest : List ℕ) (horizon : ℕ) (word : List ℕ) (conflicts : ℕ) → Says text horizon word conflicts → Says (text ++ rest) horizon word conflicts

-- a report says no more of horizons than its entries do
abbrev pub ReportsSayEntries : Type 0
ReportsSayEntries = (entries : List Entry) (others : List (List ℕ)) (horizon : ℕ) (word : List ℕ) (conflicts : ℕ) → All IsEntry entries → IsTrue (list_all is_remark others)
    → IsTrue (is_word word) → Says (report entries others) horizon word conflicts → Contains entries (record { horizon = horizon; word = word; conflicts = conflicts })
