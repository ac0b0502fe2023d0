-- Where a `Reader` stands, in the words of `Progress`. Only private clauses speak of it.
use Rattle.std.specs.Prelude.{◌≡◌, ℕ, List, map, reverse, Some, None, Result, Ok, Err}
use Rattle.pd_sexp.specs.Progress as at
use Rattle.pd_sexp.specs.View.{view}
use Rattle.pd_sexp.specs.declared.tree.Tree.{Tree}
use Rattle.pd_sexp.specs.declared.tree.TreeError.{TreeError}
use Rattle.pd_sexp.specs.declared.tree.TreeError.TheVariants.{Syntax, Deep, Memory}
use Rattle.pd_sexp.specs.declared.reader.Frame.{Frame}
use Rattle.pd_sexp.specs.declared.reader.Reader.{Reader}
use Rattle.pd_sexp.specs.declared.reader.Place.{Place}
use Rattle.pd_sexp.specs.declared.reader.Place.TheVariants.{Before, Inside, After}
use Rattle.pd_sexp.specs.Lexer.{Standing, gap, comment, word}

-- an open list of the program as that of the definitions
abbrev pub frame_of : Frame → at.Frame
frame_of frame = record { at = frame.at; items = map view frame.items.items }

-- the innermost list stands last in a reader and first in the words of `Progress`
abbrev pub outer_of : List Frame → List at.Frame
outer_of frames = reverse (map frame_of frames)

-- the place of the program as that of the definitions
abbrev pub place_of : Place → at.Frame → List at.Frame → at.Place
place_of Before frame outer = at.before
place_of Inside frame outer = at.inside frame outer
place_of After frame outer = at.after frame

-- the state that a lexer and a place stand for
abbrev pub state_from : Standing → Place → at.Frame → List at.Frame → at.State
state_from gap place frame outer = at.gap (place_of place frame outer)
state_from comment place frame outer = at.comment (place_of place frame outer)
state_from (word start letters) place frame outer = at.word frame outer start letters

-- the state that a reader stands for
abbrev pub state_of : Reader → at.State
state_of r = state_from r.lexer r.place (frame_of r.frame) (outer_of r.outer.items)

-- One byte more was read, or no file goes on so, or a list stands too deep; of want of memory nothing is said.
abbrev pub Steps : at.State → ℕ → ℕ → at.State → Result (Unit {0}) TreeError → Type 0
Steps old offset b new (Ok done) = (at.step old offset b ≡ Some new) × (at.IsTooDeep old b → ⊥)
Steps old offset b new (Err (Syntax place)) = (place ≡ offset) × (at.step old offset b ≡ None)
Steps old offset b new (Err (Deep place)) = (place ≡ offset) × at.IsTooDeep old b × ((next : at.State) × (at.step old offset b ≡ Some next))
Steps old offset b new (Err Memory) = Unit {0}

-- the same of a byte that is neither blank nor a semicolon, in a gap
abbrev pub TakesToken : at.Place → ℕ → ℕ → at.State → Result (Unit {0}) TreeError → Type 0
TakesToken place offset b new (Ok done) = (at.token place offset b ≡ Some new) × (at.IsTooDeep (at.gap place) b → ⊥)
TakesToken place offset b new (Err (Syntax at_byte)) = (at_byte ≡ offset) × (at.token place offset b ≡ None)
TakesToken place offset b new (Err (Deep at_byte)) = (at_byte ≡ offset) × at.IsTooDeep (at.gap place) b × ((next : at.State) × (at.token place offset b ≡ Some next))
TakesToken place offset b new (Err Memory) = Unit {0}

-- the file ends here with this tree, or too early
abbrev pub Ends : at.State → ℕ → Result Tree TreeError → Type 0
Ends state length (Ok tree) = at.finished state ≡ Some (view tree)
Ends state length (Err (Syntax place)) = (place ≡ length) × (at.finished state ≡ None)
Ends state length (Err (Deep place)) = ⊥
Ends state length (Err Memory) = ⊥
