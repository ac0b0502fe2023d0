-- The first fault of bytes that are no file, or of a file whose lists stand too deep.
use Rattle.std.specs.Prelude.{◌≡◌, ◌<◌, ◌≤◌, ℕ, ◌+◌, ◌-◌, ◌==◌, if◌then◌else◌, List, [], ◌∷◌, ◌++◌, length, take, slice_index, count_by}
use Rattle.pd_sexp.specs.Bytes.{open_paren, close_paren, semicolon, line_feed}
use Rattle.pd_sexp.specs.Tree.{Tree}
use Rattle.pd_sexp.specs.File.{IsFile, max_levels}

-- what is wrong first, with the offset of the byte at which it is told
pub data Fault : Type 0 where
  syntax : ℕ → Fault
  deep : ℕ → Fault

-- some file begins so
abbrev pub IsViable : List ℕ → Type 0
IsViable bytes = (rest : List ℕ) × (tree : Tree) × IsFile (bytes ++ rest) tree

-- the bytes with a blank for each byte of a comment
abbrev mutual
  pub uncommented : List ℕ → List ℕ
  uncommented [] = []
  uncommented (b ∷ bs) = if b == semicolon then 32 ∷ comment_blanked bs else b ∷ uncommented bs

  -- the same of bytes that begin inside a comment
  pub comment_blanked : List ℕ → List ℕ
  comment_blanked [] = []
  comment_blanked (b ∷ bs) = if b == line_feed then b ∷ uncommented bs else 32 ∷ comment_blanked bs

-- how many lists are open after these bytes
abbrev pub level_after : List ℕ → ℕ
level_after bytes = count_by (λ b. b == open_paren) (uncommented bytes) - count_by (λ b. b == close_paren) (uncommented bytes)

-- the byte at this offset opens a list one level too deep, and what stands up to it begins some file
pub record OpensTooDeep (bytes : List ℕ) (at : ℕ) : Type 0 where
  pub inside : at < length bytes
  pub opens : slice_index (uncommented bytes) at ≡ open_paren
  pub level : level_after (take at bytes) ≡ max_levels
  pub viable : IsViable (take (at + 1) bytes)

-- this many bytes begin some file, and one more do not, or there is no more
pub record IsLongestViable (bytes : List ℕ) (at : ℕ) : Type 0 where
  pub within : at ≤ length bytes
  pub viable : IsViable (take at bytes)
  pub no_longer : at < length bytes → IsViable (take (at + 1) bytes) → ⊥

-- the first fault from the left
abbrev pub IsFault : List ℕ → Fault → Type 0
IsFault bytes (deep at) = OpensTooDeep bytes at × ((k : ℕ) → k < at → OpensTooDeep bytes k → ⊥)
IsFault bytes (syntax at) =
    ((tree : Tree) → IsFile bytes tree → ⊥) × IsLongestViable bytes at × ((k : ℕ) → OpensTooDeep bytes k → ⊥)

-- a file that has no fault, of this tree and no other
pub record Reads (bytes : List ℕ) (tree : Tree) : Type 0 where
  pub file : IsFile bytes tree
  pub shallow : (k : ℕ) → OpensTooDeep bytes k → ⊥
  pub only : (other : Tree) → IsFile bytes other → other ≡ tree
