-- A file is a gap, one list and a gap; a gap is blanks and comments.
use Rattle.std.specs.Prelude.{◌≡◌, ◌≢◌, ℕ, ◌+◌, Bool, true, false, ◌==◌, List, [], ◌∷◌, ◌++◌, length, map, IsTrue, MatchBool}
use Rattle.std.specs.List.{list_all}
use Rattle.pd_sexp.specs.Bytes.{open_paren, close_paren, semicolon, line_feed, is_blank, is_letter, lowered}
use Rattle.pd_sexp.specs.Tree.{Tree, word, list, Trees, no_trees, and_tree}

-- Blanks and comments. A comment runs to the next LF, and the last one may run to the end of the file.
abbrev mutual
  pub IsGap : Bool → List ℕ → Type 0
  IsGap at_end [] = Unit {0}
  IsGap at_end (b ∷ bs) = MatchBool (b == semicolon) (IsComment at_end bs) (IsTrue (is_blank b) × IsGap at_end bs)

  -- the bytes are the rest of a comment, and then a gap
  pub IsComment : Bool → List ℕ → Type 0
  IsComment at_end [] = IsTrue at_end
  IsComment at_end (b ∷ bs) = MatchBool (b == line_feed) (IsGap at_end bs) (IsComment at_end bs)

-- no letter stands first
abbrev pub StopsWord : List ℕ → Type 0
StopsWord [] = Unit {0}
StopsWord (b ∷ bs) = IsTrue (is_letter b) → ⊥

-- a word is a longest run of letters, so no letter comes after it
abbrev pub StopsTree : Tree → List ℕ → Type 0
StopsTree (word at text) rest = StopsWord rest
StopsTree (list at items) rest = Unit {0}

abbrev mutual
  -- the bytes, the first of which stands at this offset, are the tree
  pub IsTree : Tree → ℕ → List ℕ → Type 0
  IsTree (word at text) offset bytes =
      (at ≡ offset) × (bytes ≢ []) × IsTrue (list_all is_letter bytes) × (text ≡ map lowered bytes)
  IsTree (list at items) offset bytes =
      (at ≡ offset) × ((inner : List ℕ) × (bytes ≡ open_paren ∷ inner ++ close_paren ∷ []) × AreItems items (offset + 1) inner)

  -- the bytes are gaps and these trees
  pub AreItems : Trees → ℕ → List ℕ → Type 0
  AreItems no_trees offset bytes = IsGap false bytes
  AreItems (and_tree tree trees) offset bytes =
      (gap : List ℕ) × (item : List ℕ) × (rest : List ℕ) × (bytes ≡ gap ++ (item ++ rest))
      × IsGap false gap × IsTree tree (offset + length gap) item × StopsTree tree rest
      × AreItems trees (offset + length gap + length item) rest

-- the bytes are a file, and this is its list
pub record IsFile (bytes : List ℕ) (tree : Tree) : Type 0 where
  pub before : List ℕ
  pub middle : List ℕ
  pub after : List ℕ
  pub parts : bytes ≡ before ++ (middle ++ after)
  pub first_gap : IsGap false before
  pub last_gap : IsGap true after
  pub one_list : (at : ℕ) × (items : Trees) × (tree ≡ list at items)
  pub is_tree : IsTree tree (length before) middle

-- how many lists may stand in one another
abbrev pub max_levels : ℕ
max_levels = 64
