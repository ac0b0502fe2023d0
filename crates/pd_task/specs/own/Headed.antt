-- Lists with a first item. Only private clauses speak of it.
use Rattle.std.specs.Prelude.{◌≡◌, ℕ, List}
use Rattle.pd_sexp.specs.Tree.{Tree, word, list, no_trees, and_tree}
use Rattle.pd_sexp.specs.View.{view, views}
use Rattle.pd_words.specs.declared.fault.Fault.TheVariants.{Shape}
use Rattle.pd_words.specs.declared.fault.ReadError.{ReadError}
use Rattle.pd_words.specs.declared.fault.ReadError.TheVariants as errors
use Rattle.pd_task.specs.declared.headed.Headed.{Headed}

-- the tree is a word, which is no list, and the fault is at its place
abbrev pub IsWord : ReadError → Tree → Type 0
IsWord e tree = (at : ℕ) × (text : List ℕ) × (tree ≡ word at text) × (e ≡ errors.Fault (Shape at))

-- the tree is a list of no item
abbrev pub IsEmpty : Tree → Type 0
IsEmpty tree = (at : ℕ) × (tree ≡ list at no_trees)

-- the tree is this list
abbrev pub IsHeaded : Tree → Headed → Type 0
IsHeaded tree l =
    (tree ≡ list l.at (and_tree (view l.head.now) (views l.rest.now)))
    × (views l.items.now ≡ and_tree (view l.head.now) (views l.rest.now))
