-- Where a reader stands after some bytes of a file, byte by byte. Only private clauses speak of it.
use Rattle.std.specs.Prelude.{◌≡◌, ℕ, suc, ◌+◌, ◌==◌, Bool, true, false, if◌then◌else◌, List, [], ◌∷◌, ◌++◌, length, Option, Some, None}
use Rattle.pd_sexp.specs.Bytes.{open_paren, close_paren, semicolon, line_feed, is_blank, is_letter, lowered}
use Rattle.pd_sexp.specs.Tree as defs
use Rattle.pd_sexp.specs.File.{max_levels}

-- a list that is open, or the one that was closed last: its place and its items so far
pub record Frame : Type 0 where
  pub at : ℕ
  pub items : List defs.Tree

-- before the file's list, in a list that stands in others (the innermost first), or after the file's list
pub data Place : Type 0 where
  before : Place
  inside : Frame → List Frame → Place
  after : Frame → Place

-- in a gap, in a comment, or in a word that began at an offset and has these letters so far
pub data State : Type 0 where
  gap : Place → State
  comment : Place → State
  word : Frame → List Frame → ℕ → List ℕ → State

-- a list that opens at this offset
abbrev pub fresh : ℕ → Frame
fresh offset = record { at = offset; items = [] }

-- an open list with one item more
abbrev pub with_item : Frame → defs.Tree → Frame
with_item frame tree = record { at = frame.at; items = frame.items ++ tree ∷ [] }

-- the tree of a list that closes
abbrev pub tree_of : Frame → defs.Tree
tree_of frame = defs.list frame.at (defs.trees_of frame.items)

-- where a reader stands once the innermost list is closed
abbrev pub closed : Frame → List Frame → Place
closed frame [] = after frame
closed frame (parent ∷ outer) = inside (with_item parent (tree_of frame)) outer

-- a byte that is neither blank nor a semicolon, outside comments and words
abbrev pub token : Place → ℕ → ℕ → Option State
token before offset b = if b == open_paren then Some (gap (inside (fresh offset) [])) else None
token (inside frame outer) offset b =
    if b == open_paren then Some (gap (inside (fresh offset) (frame ∷ outer)))
    else if b == close_paren then Some (gap (closed frame outer))
    else if is_letter b then Some (word frame outer offset (lowered b ∷ []))
    else None
token (after frame) offset b = None

-- where a reader stands after a byte outside words and comments, if the byte may stand there
abbrev pub outside : Place → ℕ → ℕ → Option State
outside place offset b =
    if is_blank b then Some (gap place)
    else if b == semicolon then Some (comment place)
    else token place offset b

-- one byte more, at this offset; none where no file goes on so
abbrev pub step : State → ℕ → ℕ → Option State
step (gap place) offset b = outside place offset b
step (comment place) offset b = Some (if b == line_feed then gap place else comment place)
step (word frame outer start letters) offset b =
    if is_letter b then Some (word frame outer start (letters ++ lowered b ∷ []))
    else outside (inside (with_item frame (defs.word start letters)) outer) offset b

-- a step after one that may have failed
abbrev pub then_run : (State → Option State) → Option State → Option State
then_run rest None = None
then_run rest (Some state) = rest state

-- these bytes more, the first at this offset
abbrev pub run : State → ℕ → List ℕ → Option State
run state offset [] = Some state
run state offset (b ∷ bs) = then_run (λ next. run next (offset + 1) bs) (step state offset b)

-- the tree that was read, where a file may end here
abbrev pub finished : State → Option defs.Tree
finished (gap (after frame)) = Some (tree_of frame)
finished (comment (after frame)) = Some (tree_of frame)
finished _ = None

-- the tree of a file that ends in this state
abbrev pub tree_after : Option State → Option defs.Tree
tree_after None = None
tree_after (Some state) = finished state

-- how many lists are open
abbrev pub level_in : Place → ℕ
level_in before = 0
level_in (inside frame outer) = suc (length outer)
level_in (after frame) = 0

-- how many lists are open
abbrev pub level_of : State → ℕ
level_of (gap place) = level_in place
level_of (comment place) = level_in place
level_of (word frame outer start letters) = suc (length outer)

-- the state is within a comment
abbrev pub in_comment : State → Bool
in_comment (comment place) = true
in_comment _ = false

-- the next byte opens a list in as many lists as may stand in one another
abbrev pub IsTooDeep : State → ℕ → Type 0
IsTooDeep state b = (in_comment state ≡ false) × (b ≡ open_paren) × (level_of state ≡ max_levels)
