-- Which bytes some file begins with: those that lead somewhere, since each state can be completed.
use Rattle.std.proofs.Common.{◌≡◌, ◌+◌, ℕ, List, [], ◌∷◌, ◌++◌, length, Option, Some, None, refl, sym, ap, ◌∙◌, append_assoc}
use Rattle.pd_sexp.specs.Bytes.{open_paren, close_paren, line_feed}
use Rattle.pd_sexp.specs.Tree.{Tree, word}
use Rattle.pd_sexp.specs.Fault.{IsViable}
use Rattle.pd_sexp.specs.Progress as at
use Rattle.pd_sexp.specs.Progress.{Frame, Place, State, fresh, with_item, tree_of, closed, step, run, then_run, finished, tree_after}
use Rattle.pd_sexp.proofs.published.Whole.{run-append, file-run}
use Rattle.pd_sexp.proofs.Parts.{run-file}

record Completes (state : State) (offset : ℕ) : Type 0 where
  rest : List ℕ
  tree : Tree
  ends : tree_after (run state offset rest) ≡ Some tree

-- closing parentheses complete what is open
close_all : (frame : Frame) (outer : List Frame) (offset : ℕ) → Completes (at.gap (at.inside frame outer)) offset
close_all frame [] offset = record { rest = close_paren ∷ []; tree = tree_of frame; ends = refl }
close_all frame (parent ∷ outer) offset =
    let c = close_all (with_item parent (tree_of frame)) outer (offset + 1) in
    record { rest = close_paren ∷ c.rest; tree = c.tree; ends = c.ends }

complete_place : (place : Place) (offset : ℕ) → Completes (at.gap place) offset
complete_place at.before offset = record { rest = open_paren ∷ close_paren ∷ []; tree = tree_of (fresh offset); ends = refl }
complete_place (at.inside frame outer) offset = close_all frame outer offset
complete_place (at.after frame) offset = record { rest = []; tree = tree_of frame; ends = refl }

-- a word ends at the first parenthesis
close_word : (frame : Frame) (outer : List Frame) (start offset : ℕ) (letters : List ℕ) → Completes (at.word frame outer start letters) offset
close_word frame [] start offset letters = record { rest = close_paren ∷ []; tree = tree_of (with_item frame (word start letters)); ends = refl }
close_word frame (parent ∷ outer) start offset letters =
    let c = close_all (with_item parent (tree_of (with_item frame (word start letters)))) outer (offset + 1) in
    record { rest = close_paren ∷ c.rest; tree = c.tree; ends = c.ends }

complete : (state : State) (offset : ℕ) → Completes state offset
complete (at.gap place) offset = complete_place place offset
complete (at.comment place) offset = let c = complete_place place (offset + 1) in record { rest = line_feed ∷ c.rest; tree = c.tree; ends = c.ends }
complete (at.word frame outer start letters) offset = close_word frame outer start offset letters

-- what a run that ends in a tree passes through
ended : (next : Option State) (tree : Tree) → tree_after next ≡ Some tree → (end : State) × (next ≡ Some end) × (finished end ≡ Some tree)
ended None tree h = cc
ended (Some end) tree h = (end, refl, h)

pub viable : (xs : List ℕ) (state : State) → run (at.gap at.before) 0 xs ≡ Some state → IsViable xs
viable xs state leads =
    let c = complete state (0 + length xs) in
    let whole : run (at.gap at.before) 0 (xs ++ c.rest) ≡ run state (0 + length xs) c.rest = run-append (at.gap at.before) 0 xs c.rest ∙ ap (then_run (λ t. run t (0 + length xs) c.rest)) leads in
    let e = ended (run state (0 + length xs) c.rest) c.tree c.ends in
    (c.rest, c.tree, run-file (xs ++ c.rest) e.0 c.tree (whole ∙ e.1) e.2)

pub not_viable : (xs : List ℕ) → run (at.gap at.before) 0 xs ≡ None → IsViable xs → ⊥
not_viable xs fails v =
    let file = file-run (xs ++ v.0) v.1 v.2 in
    let whole : run (at.gap at.before) 0 (xs ++ v.0) ≡ None = run-append (at.gap at.before) 0 xs v.0 ∙ ap (then_run (λ t. run t (0 + length xs) v.0)) fails in
    let none : None ≡ Some v.1 = sym (ap tree_after whole) ∙ file in
    cc

-- fewer bytes of a viable beginning are one
pub viable_front : (xs ys : List ℕ) → IsViable (xs ++ ys) → IsViable xs
viable_front xs ys v = (ys ++ v.0, v.1, rw append_assoc at v.2)
