-- The names that reading gives are words of the file, each of one thing.
use Rattle.std.proofs.Common.{◌≡◌, ℕ, Bool, true, false, cond, List, [], ◌∷◌, Option, Some, None, Result, Ok, Err, refl}
use Rattle.std.proofs.lemmas.Bool.{not-true}
use Rattle.std.specs.Prelude.{IfOk, IfSome, is_some, not, codes}
use Rattle.std.specs.Str.{bytes_eq}
use Rattle.pd_sexp.specs.Tree.{Tree, word, list, Trees, no_trees, and_tree}
use Rattle.pd_sexp.specs.Word.{is_word}
use Rattle.pd_model.specs.Names.{predicate_names, schema_names, is_among, are_names}
use Rattle.pd_model.specs.declared.which.Which.{Which}
use Rattle.pd_model.specs.declared.which.Which.TheVariants.{Domain, Problem}
use Rattle.pd_model.specs.declared.predicates.Predicate.{Predicate}
use Rattle.pd_model.specs.declared.schemas.Schema.{Schema}
use Rattle.pd_words.specs.declared.fault.Fault.{Fault}
use Rattle.pd_words.specs.declared.fault.Fault.TheVariants.{Shape, Duplicate}
use Rattle.pd_words.specs.Words.{is_name, keyword}
use Rattle.pd_words.specs.Typed.{variable_list, arity}
use Rattle.pd_words.specs.First.{each}
use Rattle.pd_words.specs.Items.{place_of, name_at}
use Rattle.pd_words.proofs.published.NameLemmas.{names_push}
use Rattle.pd_words.proofs.published.Sound.{bind_ok, wants_ok, OfWords, AllOfWords, first_words, other_words}
use Rattle.pd_task.specs.Atoms.{Names, condition}
use Rattle.pd_task.specs.Effects.{effect}
use Rattle.pd_task.specs.Action.{Keys, no_keys, keys_from, value_of, schema, and_action}
use Rattle.pd_task.specs.Declarations.{is_free, and_predicate}
use Rattle.pd_words.specs.Frames.{kind_word, title, exactly, titled, sections_of, section, section_with, first_of, find_section, items_of, items_under, domain_frame, problem_frame}
use Rattle.pd_task.specs.Reading.{and_section}
use Rattle.pd_task.proofs.Lawful.{bind_any}
use Rattle.pd_task.proofs.ObjectLemmas.{map_push}

pub weaken : {A : Type 0} (P Q : A → Type 0) (read : Result A Fault) → ((x : A) → P x → Q x) → IfOk read P → IfOk read Q
weaken P Q (Ok x) more h = more x h
weaken P Q (Err e) more h = tt

-- ---- the parts of trees of words

titled_words : (file : Which) (at : ℕ) (items : Trees) → AllOfWords items → IfOk (titled file at items) AllOfWords
titled_words file at no_trees all = tt
titled_words file at (and_tree named sections) all = bind_any AllOfWords (title (kind_word file) named) _ (λ _. other_words named sections all)

sections_words : (file : Which) (tree : Tree) → OfWords tree → IfOk (sections_of file tree) AllOfWords
sections_words file (word at text) is = tt
sections_words file (list at no_trees) is = tt
sections_words file (list at (and_tree define rest)) is = bind_any AllOfWords (exactly (codes "define") define) _ (λ _. titled_words file at rest (other_words define rest is))

pub domain_words : (tree : Tree) → OfWords tree → IfOk (domain_frame tree) AllOfWords
domain_words tree is =
    bind_ok AllOfWords AllOfWords (sections_of Domain tree) _ (sections_words Domain tree is) (λ sections all. bind_any AllOfWords (each (section Domain) [] sections) _ (λ _. all))

pub problem_words : (tree : Tree) → OfWords tree → IfOk (problem_frame tree) AllOfWords
problem_words tree is =
    bind_ok AllOfWords AllOfWords (sections_of Problem tree) _ (sections_words Problem tree is)
    (λ sections all. bind_any AllOfWords (each (section Problem) [] sections) _ (λ _. wants_ok AllOfWords (is_some (find_section (codes ":goal") sections)) (Shape (place_of tree)) (λ _. Ok sections) (λ _. all)))

section_words : (head : List ℕ) (t : Tree) → OfWords t → IfSome (section_with head t) (λ s. AllOfWords s.1)
section_words head (word at text) is = tt
section_words head (list at no_trees) is = tt
section_words head (list at (and_tree (list place items) rest)) is = tt
section_words head (list at (and_tree (word place text) items)) is = by_test (bytes_eq text head)
  where
    by_test : (b : Bool) → IfSome {T = ℕ × Trees} (cond b (Some (at, items)) None) (λ s. AllOfWords s.1)
    by_test true = other_words (word place text) items is
    by_test false = tt

find_words : (head : List ℕ) (sections : Trees) → AllOfWords sections → IfSome (find_section head sections) (λ s. AllOfWords s.1)
find_words head no_trees all = tt
find_words head (and_tree t ts) all = first (section_with head t) (find_section head ts) (section_words head t (first_words t ts all)) (find_words head ts (other_words t ts all))
  where
    first : (a b : Option (ℕ × Trees)) → IfSome a (λ s. AllOfWords s.1) → IfSome b (λ s. AllOfWords s.1) → IfSome (first_of a b) (λ s. AllOfWords s.1)
    first (Some s) b h g = h
    first None b h g = g

pub items_words : (head : List ℕ) (sections : Trees) → AllOfWords sections → AllOfWords (items_under head sections)
items_words head sections all = of (find_section head sections) (find_words head sections all)
  where
    of : (s : Option (ℕ × Trees)) → IfSome s (λ s. AllOfWords s.1) → AllOfWords (items_of s)
    of None h = refl
    of (Some (at, items)) h = h

-- each item by itself, where the items are of words
pub each_words : {S : Type 0} (P : S → Type 0) (step : S → Tree → Result S Fault) → ((s : S) (t : Tree) → OfWords t → P s → IfOk (step s t) P) → (s : S) (ts : Trees) → AllOfWords ts → P s → IfOk (each step s ts) P
each_words P step h s no_trees all is = is
each_words P step h s (and_tree t ts) all is =
    bind_ok P P (step s t) _ (h s t (first_words t ts all) is) (λ next more. each_words P step h next ts (other_words t ts all) more)

name_word : (t : Tree) → OfWords t → IfOk (name_at t) (λ name. is_word name ≡ true)
name_word (word at text) is = wants_ok (λ name. is_word name ≡ true) (is_name text) (Shape at) (λ _. Ok text) (λ _. is)
name_word (list at items) is = tt

-- ---- predicates

abbrev pub NamedPredicates : List Predicate → Type 0
NamedPredicates ps = are_names (predicate_names ps) ≡ true

predicate_named : (types : List (List ℕ)) (ps : List Predicate) (t : Tree) → OfWords t → NamedPredicates ps → IfOk (and_predicate types ps t) NamedPredicates
predicate_named types ps (word at text) is h = tt
predicate_named types ps (list at no_trees) is h = tt
predicate_named types ps (list at (and_tree head rest)) is h =
    bind_ok (λ name. is_word name ≡ true) NamedPredicates (name_at head) _ (name_word head (first_words head rest is))
    (λ name fine. wants_ok NamedPredicates (is_free (keyword name)) (Shape (place_of head)) _
    (λ _. wants_ok NamedPredicates (not (is_among name (predicate_names ps))) (Duplicate (place_of head)) _
    (λ new. bind_any NamedPredicates (arity types rest) _
    (λ n. rw (map_push (λ (p : Predicate). p.name) ps (record { name = name; arity = n })) (names_push (predicate_names ps) name h fine (not-true (is_among name (predicate_names ps)) new))))))

pub predicates_named : (types : List (List ℕ)) (items : Trees) → AllOfWords items → IfOk (each (and_predicate types) [] items) NamedPredicates
predicates_named types items all = each_words NamedPredicates (and_predicate types) (predicate_named types) [] items all refl

-- ---- actions

abbrev pub NamedSchemas : List Schema → Type 0
NamedSchemas ss = are_names (schema_names ss) ≡ true

module _ (types : List (List ℕ)) (names : Names) where
  schema_name : (name : List ℕ) (keys : Keys) → IfOk (schema types names name keys) (λ s. s.name ≡ name)
  schema_name name keys =
      let here : Schema → Type 0 = λ s. s.name ≡ name in
      bind_any here (variable_list types (value_of keys.parameters)) _
      (λ vs. let inside : Names = record names { variables = vs.names ∷ [] } in
      bind_any here (condition inside [] (value_of keys.precondition)) _
      (λ pre. bind_any here (effect types (record { names = inside; over = []; cond = [] }) [] (value_of keys.effect)) _ (λ es. refl)))

  action_named : (ss : List Schema) (at : ℕ) (items : Trees) → AllOfWords items → NamedSchemas ss → IfOk (and_action types names ss at items) NamedSchemas
  action_named ss at no_trees all h = tt
  action_named ss at (and_tree heading rest) all h =
      bind_ok (λ name. is_word name ≡ true) NamedSchemas (name_at heading) _ (name_word heading (first_words heading rest all))
      (λ name fine. wants_ok NamedSchemas (not (is_among name (schema_names ss))) (Duplicate (place_of heading)) _
      (λ new. bind_any NamedSchemas (keys_from at no_keys rest) _
      (λ keys. bind_ok (λ s. s.name ≡ name) NamedSchemas (schema types names name keys) _ (schema_name name keys)
      (λ s is. rw (map_push (λ (s : Schema). s.name) ss s, is) (names_push (schema_names ss) name h fine (not-true (is_among name (schema_names ss)) new))))))

  by_section : (ss : List Schema) → NamedSchemas ss → (s : Option (ℕ × Trees)) → IfSome s (λ s. AllOfWords s.1) → IfOk (elim s [ None ↦ Ok ss | Some s ↦ and_action types names ss s.0 s.1 ]) NamedSchemas
  by_section ss h None all = h
  by_section ss h (Some s) all = action_named ss s.0 s.1 all h

  section_named : (ss : List Schema) (t : Tree) → OfWords t → NamedSchemas ss → IfOk (and_section types names ss t) NamedSchemas
  section_named ss t is h = by_section ss h (section_with (codes ":action") t) (section_words (codes ":action") t is)

  pub schemas_named : (sections : Trees) → AllOfWords sections → IfOk (each (and_section types names) [] sections) NamedSchemas
  schemas_named sections all = each_words NamedSchemas (and_section types names) section_named [] sections all refl
