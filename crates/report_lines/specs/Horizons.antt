-- What a report's lines say of horizons: `; horizon H WORD conflicts K`.
use Rattle.std.specs.Prelude.{◌≡◌, ◌<◌, ◌^◌, ℕ, ◌==◌, ◌&&◌, not, Bool, IsTrue, List, ◌++◌, map, take, Contains, codes, decimal}
use Rattle.std.specs.List.{list_all}
use Rattle.std.specs.Str.{bytes_eq}
use Rattle.std.specs.Str.Parse.{IsNumeral, digits_value}
use Rattle.report_lines.specs.Lines.{lines_of, joined, is_line}

-- these digits write the number
abbrev pub Writes : List ℕ → ℕ → Type 0
Writes digits number = IsNumeral 10 digits × (digits_value 10 digits ≡ number)

-- the line `; horizon H WORD conflicts K`, of the digits of H and of K
abbrev pub horizon_line : List ℕ → List ℕ → List ℕ → List ℕ
horizon_line h word k = codes "; horizon " ++ (h ++ (codes " " ++ (word ++ (codes " conflicts " ++ k))))

-- the text has the line `; horizon H WORD conflicts K`
abbrev pub Says : List ℕ → ℕ → List ℕ → ℕ → Type 0
Says text horizon word conflicts = (h : List ℕ) × (k : List ℕ) × Writes h horizon × Writes k conflicts × Contains (lines_of text) (horizon_line h word k)

-- what a line says of a horizon: what became of it, and after how many conflicts
pub record Entry : Type 0 where
  pub horizon : ℕ
  pub word : List ℕ
  pub conflicts : ℕ

-- the line that says so
abbrev pub entry_line : Entry → List ℕ
entry_line e = horizon_line (decimal e.horizon) e.word (decimal e.conflicts)

-- the bytes have neither blank nor LF
abbrev pub is_word : List ℕ → Bool
is_word bytes = list_all (λ b. not (b == 32) && not (b == 10)) bytes

-- the numbers are numbers of 64 bits, and the word is one
pub record IsEntry (e : Entry) : Type 0 where
  pub horizon_small : e.horizon < 2 ^ 64
  pub conflicts_small : e.conflicts < 2 ^ 64
  pub one_word : IsTrue (is_word e.word)

-- the bytes are a line that says nothing of a horizon
abbrev pub is_remark : List ℕ → Bool
is_remark line = is_line line && not (bytes_eq (take 10 line) (codes "; horizon "))

-- the text of a report: the lines of its horizons, and then the others
abbrev pub report : List Entry → List (List ℕ) → List ℕ
report entries others = joined (map entry_line entries ++ others)
