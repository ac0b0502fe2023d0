-- The frames of files (`<domain>` and `<problem>` of the grammar of PDDL 2.1: Fox and Long 2003, appendix A):
-- `(define (domain NAME) section ..)` and `(define (problem NAME) section ..)`.
use Rattle.std.specs.Prelude.{ℕ, List, [], ◌∷◌, ◌++◌, Option, Some, None, is_some, Result, Ok, Err, if◌then◌else◌, not, codes}
use Rattle.std.specs.Str.{bytes_eq}
use Rattle.pd_sexp.specs.Tree.{Tree, word, list, Trees, no_trees, and_tree}
use Rattle.pd_model.specs.declared.which.Which.{Which}
use Rattle.pd_model.specs.declared.which.Which.TheVariants.{Domain, Problem, Plan}
use Rattle.pd_words.specs.declared.fault.Fault.{Fault}
use Rattle.pd_words.specs.declared.fault.Fault.TheVariants.{Shape, Duplicate, Unsupported}
use Rattle.pd_words.specs.Words.{is_one_of}
use Rattle.pd_words.specs.Names.{is_among}
use Rattle.pd_words.specs.First.{◌>>=◌, wants, each}
use Rattle.pd_words.specs.Items.{place_of, no_more, name_at}

-- the word `text`, and nothing else
abbrev pub exactly : List ℕ → Tree → Result (Unit {0}) Fault
exactly text (word at found) = wants (bytes_eq found text) (Shape at)
exactly text (list at items) = Err (Shape at)

-- exactly one name, in the list at this place
abbrev pub one_name : ℕ → Trees → Result (Unit {0}) Fault
one_name at no_trees = Err (Shape at)
one_name at (and_tree name more) = name_at name >>= λ _. no_more more

-- `(domain NAME)`, or the same of a problem
abbrev pub title : List ℕ → Tree → Result (Unit {0}) Fault
title kind (word at text) = Err (Shape at)
title kind (list at no_trees) = Err (Shape at)
title kind (list at (and_tree first rest)) = exactly kind first >>= λ _. one_name at rest

-- the word `domain` or `problem`
abbrev pub kind_word : Which → List ℕ
kind_word Domain = codes "domain"
kind_word Problem = codes "problem"
kind_word Plan = []

-- the sections after the title of a file of this kind, the list at this place
abbrev pub titled : Which → ℕ → Trees → Result Trees Fault
titled file at no_trees = Err (Shape at)
titled file at (and_tree named sections) = title (kind_word file) named >>= λ _. Ok sections

-- the sections of a file of this kind
abbrev pub sections_of : Which → Tree → Result Trees Fault
sections_of file (word at text) = Err (Shape at)
sections_of file (list at no_trees) = Err (Shape at)
sections_of file (list at (and_tree define rest)) = exactly (codes "define") define >>= λ _. titled file at rest

-- the sections that may stand once
abbrev pub single : Which → List (List ℕ)
single Domain = codes ":requirements" ∷ codes ":types" ∷ codes ":constants" ∷ codes ":predicates" ∷ []
single Problem = codes ":domain" ∷ codes ":requirements" ∷ codes ":objects" ∷ codes ":init" ∷ codes ":goal" ∷ codes ":length" ∷ []
single Plan = []

-- the sections that may stand often
abbrev pub repeated : Which → List (List ℕ)
repeated Domain = codes ":action" ∷ []
repeated Problem = []
repeated Plan = []

-- the sections that PDDL has and this fragment leaves out
abbrev pub left_out : Which → List (List ℕ)
left_out Domain = codes ":functions" ∷ codes ":durative-action" ∷ codes ":derived" ∷ codes ":axiom" ∷ codes ":constraints" ∷ []
left_out Problem = codes ":metric" ∷ codes ":constraints" ∷ []
left_out Plan = []

-- the item is a word, whichever it is
abbrev pub a_word : Tree → Result (Unit {0}) Fault
a_word (word at text) = Ok tt
a_word (list at items) = Err (Shape at)

-- each item is a word
abbrev pub words : Trees → Result (Unit {0}) Fault
words no_trees = Ok tt
words (and_tree t ts) = a_word t >>= λ _. words ts

-- the items of `:requirements` are words, and `:domain` has one name
abbrev pub section_items : List ℕ → ℕ → Trees → Result (Unit {0}) Fault
section_items head at items =
    if bytes_eq head (codes ":requirements") then words items
    else if bytes_eq head (codes ":domain") then one_name at items
    else Ok tt

-- a section with this head, at this place, after single ones with these heads
abbrev pub section_under : Which → List (List ℕ) → List ℕ → ℕ → Trees → Result (List (List ℕ)) Fault
section_under file seen head at items =
    if is_one_of (repeated file) head then Ok seen
    else if is_one_of (left_out file) head then Err (Unsupported at)
    else do
      _ ← wants (is_one_of (single file) head) (Shape at)
      _ ← wants (not (is_among head seen)) (Duplicate at)
      _ ← section_items head at items
      Ok (seen ++ head ∷ [])

-- one section more, after single ones with these heads: the heads with this one, if it is single
abbrev pub section : Which → List (List ℕ) → Tree → Result (List (List ℕ)) Fault
section file seen (word at text) = Err (Shape at)
section file seen (list at no_trees) = Err (Shape at)
section file seen (list at (and_tree (list place items) rest)) = Err (Shape at)
section file seen (list at (and_tree (word place head) rest)) = section_under file seen head at rest

-- the place and the items of a section with this head
abbrev pub section_with : List ℕ → Tree → Option (ℕ × Trees)
section_with head (list at (and_tree (word place text) items)) = if bytes_eq text head then Some (at, items) else None
section_with head _ = None

-- the first section with this head
abbrev pub first_of : {A : Type 0} → Option A → Option A → Option A
first_of (Some x) later = Some x
first_of None later = later

-- the place and the items of the first section with this head
abbrev pub find_section : List ℕ → Trees → Option (ℕ × Trees)
find_section head no_trees = None
find_section head (and_tree t ts) = first_of (section_with head t) (find_section head ts)

-- the items of a section; a missing one is empty
abbrev pub items_of : Option (ℕ × Trees) → Trees
items_of None = no_trees
items_of (Some (at, items)) = items

-- the items of the first section with this head
abbrev pub items_under : List ℕ → Trees → Trees
items_under head sections = items_of (find_section head sections)

-- the sections of a domain
abbrev pub domain_frame : Tree → Result Trees Fault
domain_frame tree = do
  sections ← sections_of Domain tree
  _ ← each (section Domain) [] sections
  Ok sections

-- the sections of a problem, of which the goal must not be missing
abbrev pub problem_frame : Tree → Result Trees Fault
problem_frame tree = do
  sections ← sections_of Problem tree
  _ ← each (section Problem) [] sections
  _ ← wants (is_some (find_section (codes ":goal") sections)) (Shape (place_of tree))
  Ok sections
