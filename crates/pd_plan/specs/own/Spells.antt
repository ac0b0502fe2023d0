-- Plan files as they are written: gaps and lists, each of which spells a call.
use Rattle.std.specs.Prelude.{◌≡◌, ℕ, ◌+◌, true, false, List, [], ◌∷◌, ◌++◌, length, map, Ok}
use Rattle.pd_sexp.specs.Tree.{Tree, word, list, trees_of}
use Rattle.pd_sexp.specs.File.{IsGap, IsTree}
use Rattle.pd_model.specs.declared.calls.Call.{Call}
use Rattle.pd_model.specs.declared.parts.Parts.{Parts}
use Rattle.pd_words.specs.declared.named.Named.{Named}
use Rattle.pd_plan.specs.PlanFile.{call_from}

-- the word as an item of a list
abbrev pub tree_of_word : Named → Tree
tree_of_word w = word w.at w.name

-- from this offset on the bytes are gaps and lists that spell these calls; a comment may end with the file
abbrev pub SpellsFrom : Parts → ℕ → List ℕ → List Call → Type 0
SpellsFrom p offset bytes [] = IsGap true bytes
SpellsFrom p offset bytes (call ∷ calls) =
    (gap : List ℕ) × (item : List ℕ) × (rest : List ℕ) × (words : List Named) × (bytes ≡ gap ++ (item ++ rest))
    × IsGap false gap × IsTree (list (offset + length gap) (trees_of (map tree_of_word words))) (offset + length gap) item
    × (call_from p (offset + length gap) words ≡ Ok call)
    × SpellsFrom p (offset + length gap + length item) rest calls

-- the bytes are a plan file that spells these calls, however it is laid out
abbrev pub Spells : Parts → List ℕ → List Call → Type 0
Spells p bytes calls = SpellsFrom p 0 bytes calls
