-- The items of lists.
use Rattle.std.specs.Prelude.{ℕ, List, Result, Ok, Err}
use Rattle.pd_sexp.specs.Tree.{Tree, word, list, Trees, no_trees, and_tree}
use Rattle.pd_words.specs.declared.fault.Fault.{Fault}
use Rattle.pd_words.specs.declared.fault.Fault.TheVariants.{Shape}
use Rattle.pd_words.specs.Words.{is_name}
use Rattle.pd_words.specs.First.{◌>>=◌, wants}

-- the place of a tree
abbrev pub place_of : Tree → ℕ
place_of (word at text) = at
place_of (list at items) = at

-- no item is left; a surplus one is told at its place
abbrev pub no_more : Trees → Result (Unit {0}) Fault
no_more no_trees = Ok tt
no_more (and_tree t rest) = Err (Shape (place_of t))

-- the name that a tree is
abbrev pub name_at : Tree → Result (List ℕ) Fault
name_at (list at items) = Err (Shape at)
name_at (word at text) = wants (is_name text) (Shape at) >>= λ _. Ok text
