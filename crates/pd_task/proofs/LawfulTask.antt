-- What reading gives is well formed, but for bounds on how many there are: actions, objects, the initial
-- state and the goal.
use Rattle.std.proofs.Common.{◌≡◌, ℕ, ◌<◌, ◌≤◌, ◌==◌, Bool, true, ◌&&◌, List, [], ◌∷◌, ◌++◌, length, slice_index, Option, Some, None, Result, Ok, Err, refl, ap, ◌∙◌, sym, subst, arith, length-append}
use Rattle.std.specs.Prelude.{IfOk, IfSome, is_some, nat_lt, slice_get, not, codes}
use Rattle.std.specs.List.{list_all}
use Rattle.std.proofs.lemmas.Bool.{lt-ltb, and_parts, and_from}
use Rattle.std.proofs.lemmas.List.{length-map}
use Rattle.pd_sexp.specs.Tree.{Tree, word, list, Trees, no_trees, and_tree}
use Rattle.pd_model.specs.Types.{kinds_of}
use Rattle.pd_model.specs.WellFormed.{are_below, takes, is_cond, is_atom}
use Rattle.pd_model.specs.declared.predicates.Predicate.{Predicate}
use Rattle.pd_model.specs.declared.objects.ObjectDecl.{ObjectDecl}
use Rattle.pd_model.specs.declared.types.TypeDecl.{TypeDecl}
use Rattle.pd_model.specs.declared.schemas.Schema.{Schema}
use Rattle.pd_model.specs.declared.atoms.Atom.{Atom}
use Rattle.pd_model.specs.declared.parts.Parts.{Parts}
use Rattle.pd_model.specs.Names.{type_names, object_names, schema_names, are_names}
use Rattle.pd_sexp.specs.Word.{is_word}
use Rattle.pd_words.specs.declared.fault.Fault.{Fault}
use Rattle.pd_words.specs.declared.fault.Fault.TheVariants.{Shape, Unknown, Arity, Duplicate, Unsupported}
use Rattle.pd_words.specs.declared.keyword.Keyword.TheVariants as heads
use Rattle.pd_words.specs.declared.named.Named.{Named}
use Rattle.pd_words.specs.Words.{is_name, head_of}
use Rattle.pd_words.specs.Names.{number_of, is_among}
use Rattle.pd_words.specs.Typed.{variable_list, type_of, object}
use Rattle.pd_words.specs.Types.{types}
use Rattle.pd_words.specs.First.{◌>>=◌, found, every, each}
use Rattle.pd_words.specs.Items.{no_more, place_of, name_at}
use Rattle.pd_words.proofs.published.NameLemmas.{number_below, number_among, names_push, all_push}
use Rattle.pd_words.proofs.published.Sound.{bind_ok, wants_ok, typed_keeps, OfWords, AllOfWords, first_words, other_words}
use Rattle.pd_words.proofs.published.TypeLemmas.{TypesLawful, types_sound}
use Rattle.pd_task.specs.Atoms.{Names, count, one_of, condition, predicate}
use Rattle.pd_task.specs.Effects.{Site, effect}
use Rattle.pd_task.specs.Action.{Keys, no_keys, keys_from, value_of, schema, and_action}
use Rattle.pd_words.specs.Frames.{section_with, find_section, items_under, domain_frame, problem_frame}
use Rattle.pd_task.specs.Declarations.{admit_object, declare, give_objects, and_objects, and_predicate, object_at, ground_atom, init_denied, and_init}
use Rattle.pd_task.specs.Reading.{DomainParts, names_in, and_section, domain_parts, goal_of, problem_parts}
use Rattle.pd_task.proofs.Lawful.{Passes, bind_any, found_ok, every_sound, each_sound, total_none, total_one, Fits, predicate_sound, takes_sound, condition_sound, lawful_effect, Typed, variable_list_sound, effect_sound, good, SiteFits, type_below}
use Rattle.pd_task.proofs.ObjectLemmas.{map_push}
use Rattle.pd_task.proofs.NamesLaw.{weaken, domain_words, problem_words, items_words, NamedPredicates, predicates_named, NamedSchemas, schemas_named}

-- ---- actions

-- the action fits, but for the bounds on its variables
abbrev pub lawful_schema : Parts → Schema → Bool
lawful_schema p s =
    are_below (length p.types) s.parameters && list_all (is_cond p (length s.parameters)) s.pre && list_all (lawful_effect p (length s.parameters)) s.effects

module _ (p : Parts) (types : List (List ℕ)) (names : Names) (size : length types ≡ length p.types) (some : 0 < length types) (fits : Fits p names 0) where
  abbrev good_schemas : List Schema → Type 0
  good_schemas ss = list_all (lawful_schema p) ss ≡ true

  schema_sound : (name : List ℕ) (keys : Keys) → Passes (lawful_schema p) (schema types names name keys)
  schema_sound name keys =
      let here : Schema → Type 0 = λ s. lawful_schema p s ≡ true in
      bind_ok (Typed (length types)) here (variable_list types (value_of keys.parameters)) _ (variable_list_sound types (value_of keys.parameters) some)
      (λ vs typed.
      let inside : Names = record names { variables = vs.names ∷ [] } in
      let n = length vs.kinds in
      let many = total_one vs.names in
      let in_pre : Fits p inside n = record { predicates = fits.predicates; arities = fits.arities; objects = fits.objects; variables = omega (arith, many, typed.count) } in
      let site : Site = record { names = inside; over = []; cond = [] } in
      let in_effect : SiteFits p site n = record {
        names = record { predicates = fits.predicates; arities = fits.arities; objects = fits.objects; variables = omega (arith, many, typed.count) };
        over = refl;
        cond = refl;
      } in
      bind_ok (λ cs. list_all (is_cond p n) cs ≡ true) here (condition inside [] (value_of keys.precondition)) _ (condition_sound p inside n in_pre [] (value_of keys.precondition) refl)
      (λ pre is. bind_ok (good p n) here (effect types site [] (value_of keys.effect)) _ (effect_sound p n types size some site [] (value_of keys.effect) in_effect refl refl)
      (λ es more. and_from (are_below (length p.types) vs.kinds && list_all (is_cond p n) pre) (list_all (lawful_effect p n) es)
      (and_from (are_below (length p.types) vs.kinds) (list_all (is_cond p n) pre) (subst (λ k. are_below k vs.kinds ≡ true) size typed.below) is) more)))

  and_action_sound : (before : List Schema) (at : ℕ) (items : Trees) → good_schemas before → IfOk (and_action types names before at items) good_schemas
  and_action_sound before at no_trees h = tt
  and_action_sound before at (and_tree title rest) h =
      bind_any good_schemas (name_at title) _
      (λ name. wants_ok good_schemas (not (is_among name (schema_names before))) (Duplicate (place_of title)) _
      (λ _. bind_any good_schemas (keys_from at no_keys rest) _
      (λ keys. bind_ok (λ s. lawful_schema p s ≡ true) good_schemas (schema types names name keys) _ (schema_sound name keys)
      (λ new is. all_push (lawful_schema p) before new h is))))

  section_sound : (before : List Schema) (section : Tree) → good_schemas before → IfOk (and_section types names before section) good_schemas
  section_sound before section h =
      elim (section_with (codes ":action") section) as (λ s. IfOk (elim s [ None ↦ Ok before | Some s ↦ and_action types names before s.0 s.1 ]) good_schemas) [
        | None ↦ h
        | Some s ↦ and_action_sound before s.0 s.1 h
      ]

-- ---- objects

record Objects (size low : ℕ) (os : List ObjectDecl) : Type 0 where
  names : are_names (object_names os) ≡ true
  least : low ≤ length os
  below : are_below size (kinds_of os) ≡ true

declare_sound : (size least : ℕ) (os : List ObjectDecl) (kind : ℕ) (w : Named) (o : Option ℕ) → number_of w.name (object_names os) ≡ o → kind < size → is_word w.name ≡ true → Objects size least os
    → IfOk (declare os kind w o) (Objects size least)
declare_sound size least os kind w None new lt is h = record {
  names = rw (map_push (λ (o : ObjectDecl). o.name) os (record { name = w.name; kind = kind }))
      (names_push (object_names os) w.name h.names is (sym (number_among w.name (object_names os)) ∙ ap is_some new));
  least = omega (arith, h.least, length-append os (record { name = w.name; kind = kind } ∷ []));
  below = rw (map_push (λ o. o.kind) os (record { name = w.name; kind = kind })) (all_push (λ k. nat_lt k size) (kinds_of os) kind h.below (lt-ltb kind size lt));
}
declare_sound size least os kind w (Some o) new lt is h = wants_ok (Objects size least) (slice_index (kinds_of os) o == kind) (Duplicate w.at) _ (λ _. h)

-- whether the words of a typed list so far are words
abbrev spell_words : List Named → Bool
spell_words ws = list_all (λ w. is_word w.name) ws

give_sound : (size least : ℕ) (os : List ObjectDecl) (ws : List Named) (kind : ℕ) → kind < size → spell_words ws ≡ true → Objects size least os → IfOk (give_objects os kind ws) (Objects size least)
give_sound size least os [] kind lt are h = h
give_sound size least os (w ∷ ws) kind lt are h =
    let parts = and_parts (is_word w.name) (spell_words ws) are in
    bind_ok (Objects size least) (Objects size least) (declare os kind w (number_of w.name (object_names os))) _ (declare_sound size least os kind w (number_of w.name (object_names os)) refl lt (parts.0) h)
    (λ next more. give_sound size least next ws kind lt (parts.1) more)

objects_sound : (types : List (List ℕ)) (least : ℕ) (before : List ObjectDecl) (items : Trees) → 0 < length types → AllOfWords items → Objects (length types) least before → IfOk (and_objects types before items) (Objects (length types) least)
objects_sound types least before items some all h =
    let keeps : List ObjectDecl → List Named → Type 0 = λ os ws. Objects (length types) least os × (spell_words ws ≡ true) in
    weaken (λ os. keeps os []) (Objects (length types) least) (and_objects types before items) (λ os kept. kept.0)
    (typed_keeps admit_object (type_of types) give_objects object OfWords AllOfWords first_words other_words keeps
    (λ os waiting w one is. wants_ok (λ next. keeps next (waiting ++ w ∷ [])) (is_name w.name) (Shape w.at) _ (λ _. (is.0, all_push (λ w. is_word w.name) waiting w (is.1) one)))
    (λ k. k < length types) (λ t one. type_below types t) some
    (λ os waiting kind lt is. weaken (Objects (length types) least) (λ next. keeps next []) (give_objects os kind waiting) (λ next more. (more, refl)) (give_sound (length types) least os waiting kind lt (is.1) (is.0)))
    before [] items all (h, refl))

-- ---- the initial state

module _ (p : Parts) (names : Names) (fits : Fits p names 0) where
  object_sound : (t : Tree) → Passes (λ o. nat_lt o (length p.objects)) (object_at names t)
  object_sound (list at items) = tt
  object_sound (word at text) = found_ok (λ o. nat_lt o (length p.objects) ≡ true) (Unknown at) (number_of text names.objects) (below (number_of text names.objects) (number_below text names.objects))
    where
      below : (o : Option ℕ) → IfSome o (λ i. i < length names.objects) → IfSome o (λ i. nat_lt i (length p.objects) ≡ true)
      below None h = tt
      below (Some i) h = lt-ltb i (length p.objects) (omega (arith, fits.objects, h))

  ground_sound : (at : ℕ) (items : Trees) → Passes (is_atom p) (ground_atom names at items)
  ground_sound at no_trees = tt
  ground_sound at (and_tree head rest) =
      let here : Atom → Type 0 = λ a. is_atom p a ≡ true in
      bind_ok (λ i. i < length p.predicates) here (predicate names.predicates head) _ (predicate_sound p names 0 fits head)
      (λ i lt. wants_ok here (count rest == slice_index names.arities i) (Arity at) _
      (λ is. bind_ok (λ xs. (list_all (λ o. nat_lt o (length p.objects)) xs ≡ true) × (length xs ≡ count rest)) here (every (object_at names) rest) _ (every_sound (λ o. nat_lt o (length p.objects)) (object_at names) object_sound rest)
      (λ xs more. and_from (takes (slice_get p.predicates i) (length xs)) (are_below (length p.objects) xs)
      (ap (λ k. takes (slice_get p.predicates i) k) more.1 ∙ takes_sound p names 0 fits i (count rest) lt is) more.0)))

  push_atom : (atoms : List Atom) (at : ℕ) (items : Trees) → list_all (is_atom p) atoms ≡ true → IfOk (ground_atom names at items >>= λ a. Ok (atoms ++ a ∷ [])) (λ found. list_all (is_atom p) found ≡ true)
  push_atom atoms at items h = bind_ok (λ a. is_atom p a ≡ true) (λ found. list_all (is_atom p) found ≡ true) (ground_atom names at items) _ (ground_sound at items) (λ a is. all_push (is_atom p) atoms a h is)

  init_sound : (atoms : List Atom) (t : Tree) → list_all (is_atom p) atoms ≡ true → IfOk (and_init names atoms t) (λ found. list_all (is_atom p) found ≡ true)
  init_sound atoms (word at text) h = tt
  init_sound atoms (list at no_trees) h = tt
  init_sound atoms (list at (and_tree head rest)) h =
      elim (head_of head) as (λ k. IfOk (elim k [
        | heads.Equals ↦ Err (Unsupported at)
        | heads.Not ↦ found (Shape at) (one_of rest) >>= λ t. init_denied names at t >>= λ _. Ok atoms
        | _ ↦ ground_atom names at (and_tree head rest) >>= λ a. Ok (atoms ++ a ∷ [])
      ]) (λ found. list_all (is_atom p) found ≡ true)) [
        | heads.Equals ↦ tt
        | heads.Not ↦ bind_any (λ found. list_all (is_atom p) found ≡ true) (found (Shape at) (one_of rest)) _ (λ t. bind_any (λ found. list_all (is_atom p) found ≡ true) (init_denied names at t) _ (λ _. h))
        | _ ↦ push_atom atoms at (and_tree head rest) h
      ]

  goal_sound : (s : Option (ℕ × Trees)) → IfOk (goal_of names s) (λ cs. list_all (is_cond p 0) cs ≡ true)
  goal_sound None = refl
  goal_sound (Some s) = by_items s.0 s.1
    where
      by_items : (at : ℕ) (items : Trees) → IfOk (goal_of names (Some (at, items))) (λ cs. list_all (is_cond p 0) cs ≡ true)
      by_items at no_trees = tt
      by_items at (and_tree goal more) =
          bind_ok (λ cs. list_all (is_cond p 0) cs ≡ true) (λ cs. list_all (is_cond p 0) cs ≡ true) (condition names [] goal) _ (condition_sound p names 0 fits [] goal refl)
          (λ cs is. bind_any (λ cs. list_all (is_cond p 0) cs ≡ true) (no_more more) _ (λ _. is))

-- ---- the passes

pub record DomainLawful (d : DomainParts) : Type 0 where
  pub types : TypesLawful d.types
  pub constants : are_below (length d.types) (kinds_of d.constants) ≡ true
  pub constant_names : are_names (object_names d.constants) ≡ true
  pub predicate_names : NamedPredicates d.predicates
  pub schema_names : NamedSchemas d.schemas
  pub schemas : (p : Parts) → p.types ≡ d.types → p.predicates ≡ d.predicates → length d.constants ≤ length p.objects → list_all (lawful_schema p) d.schemas ≡ true

names_fit : (p : Parts) (predicates : List Predicate) (objects : List ObjectDecl) → p.predicates ≡ predicates → length objects ≤ length p.objects → Fits p (names_in predicates objects) 0
names_fit p predicates objects same few = record {
  predicates = rw same refl;
  arities = rw same refl;
  objects = omega (arith, length-map objects (λ o. o.name));
  variables = total_none;
}

schemas_sound : (ts : List TypeDecl) (constants : List ObjectDecl) (predicates : List Predicate) (sections : Trees) → 0 < length ts
    → IfOk (each (and_section (type_names ts) (names_in predicates constants)) [] sections) (λ ss. (p : Parts) → p.types ≡ ts → p.predicates ≡ predicates → length constants ≤ length p.objects → list_all (lawful_schema p) ss ≡ true)
schemas_sound ts constants predicates sections some = together (each (and_section (type_names ts) (names_in predicates constants)) [] sections)
    (λ p same_types same_predicates few.
    let size : length (type_names ts) ≡ length p.types = length-map ts (λ t. t.name) ∙ sym (ap length same_types) in
    each_sound (λ ss. list_all (lawful_schema p) ss ≡ true) (and_section (type_names ts) (names_in predicates constants))
    (λ ss t h. section_sound p (type_names ts) (names_in predicates constants) size (omega (arith, length-map ts (λ t. t.name))) (names_fit p predicates constants same_predicates few) ss t h) [] sections refl)
  where
    together : (r : Result (List Schema) Fault) → ((p : Parts) → p.types ≡ ts → p.predicates ≡ predicates → length constants ≤ length p.objects → IfOk r (λ ss. list_all (lawful_schema p) ss ≡ true))
        → IfOk r (λ ss. (p : Parts) → p.types ≡ ts → p.predicates ≡ predicates → length constants ≤ length p.objects → list_all (lawful_schema p) ss ≡ true)
    together (Ok ss) h = h
    together (Err e) h = tt

both_ok : {A : Type 0} (P Q : A → Type 0) (read : Result A Fault) → IfOk read P → IfOk read Q → IfOk read (λ x. P x × Q x)
both_ok P Q (Ok x) h g = (h, g)
both_ok P Q (Err e) h g = tt

pub domain_sound : (tree : Tree) → OfWords tree → IfOk (domain_parts tree) DomainLawful
domain_sound tree words =
    bind_ok AllOfWords DomainLawful (domain_frame tree) _ (domain_words tree words)
    (λ sections all. bind_ok TypesLawful DomainLawful (types (items_under (codes ":types") sections)) _ (types_sound (items_under (codes ":types") sections) (items_words (codes ":types") sections all))
    (λ ts lawful.
    let size : length (type_names ts) ≡ length ts = length-map ts (λ t. t.name) in
    let sound : List ObjectDecl → List Predicate → List Schema → Type 0
    = λ constants predicates ss. (p : Parts) → p.types ≡ ts → p.predicates ≡ predicates → length constants ≤ length p.objects → list_all (lawful_schema p) ss ≡ true in
    bind_ok (Objects (length (type_names ts)) 0) DomainLawful (and_objects (type_names ts) [] (items_under (codes ":constants") sections)) _
    (objects_sound (type_names ts) 0 [] (items_under (codes ":constants") sections) (omega (arith, size, lawful.some)) (items_words (codes ":constants") sections all) (record { names = refl; least = omega arith; below = refl }))
    (λ constants good. bind_ok NamedPredicates DomainLawful (each (and_predicate (type_names ts)) [] (items_under (codes ":predicates") sections)) _
    (predicates_named (type_names ts) (items_under (codes ":predicates") sections) (items_words (codes ":predicates") sections all))
    (λ predicates named. bind_ok (λ ss. sound constants predicates ss × NamedSchemas ss) DomainLawful
    (each (and_section (type_names ts) (names_in predicates constants)) [] sections) _
    (both_ok (sound constants predicates) NamedSchemas (each (and_section (type_names ts) (names_in predicates constants)) [] sections)
    (schemas_sound ts constants predicates sections lawful.some) (schemas_named (type_names ts) (names_in predicates constants) sections all))
    (λ ss fine. record {
      types = lawful;
      constants = subst (λ n. are_below n (kinds_of constants) ≡ true) size good.below;
      constant_names = good.names;
      predicate_names = named;
      schema_names = fine.1;
      schemas = fine.0;
    })))))

-- well formed but for how many there are
pub record Lawful (p : Parts) : Type 0 where
  pub types : TypesLawful p.types
  pub predicate_names : NamedPredicates p.predicates
  pub object_names : are_names (object_names p.objects) ≡ true
  pub schema_names : NamedSchemas p.schemas
  pub kinds : are_below (length p.types) (kinds_of p.objects) ≡ true
  pub schemas : list_all (lawful_schema p) p.schemas ≡ true
  pub init : list_all (is_atom p) p.init ≡ true
  pub goal : list_all (is_cond p 0) p.goal ≡ true

pub problem_sound : (d : DomainParts) (tree : Tree) → OfWords tree → DomainLawful d → IfOk (problem_parts d tree) Lawful
problem_sound d tree words lawful =
    let size : length (type_names d.types) ≡ length d.types = length-map d.types (λ t. t.name) in
    bind_ok AllOfWords Lawful (problem_frame tree) _ (problem_words tree words)
    (λ sections all. bind_ok (Objects (length (type_names d.types)) (length d.constants)) Lawful (and_objects (type_names d.types) d.constants (items_under (codes ":objects") sections)) _
    (objects_sound (type_names d.types) (length d.constants) d.constants (items_under (codes ":objects") sections) (omega (arith, size, lawful.types.some)) (items_words (codes ":objects") sections all)
    (record { names = lawful.constant_names; least = omega arith; below = subst (λ n. are_below n (kinds_of d.constants) ≡ true) (sym size) lawful.constants }))
    (λ objects good.
    let p : Parts = record { types = d.types; predicates = d.predicates; objects = objects; schemas = d.schemas; init = []; goal = [] } in
    let names = names_in d.predicates objects in
    let fits = names_fit p d.predicates objects refl (omega arith) in
    bind_ok (λ found. list_all (is_atom p) found ≡ true) Lawful (each (and_init names) [] (items_under (codes ":init") sections)) _
    (each_sound (λ found. list_all (is_atom p) found ≡ true) (and_init names) (λ found t h. init_sound p names fits found t h) [] (items_under (codes ":init") sections) refl)
    (λ init is. bind_ok (λ cs. list_all (is_cond p 0) cs ≡ true) Lawful (goal_of names (find_section (codes ":goal") sections)) _ (goal_sound p names fits (find_section (codes ":goal") sections))
    (λ goal more. record {
      types = lawful.types;
      predicate_names = lawful.predicate_names;
      object_names = good.names;
      schema_names = lawful.schema_names;
      kinds = subst (λ n. are_below n (kinds_of objects) ≡ true) size good.below;
      schemas = lawful.schemas (record { types = d.types; predicates = d.predicates; objects = objects; schemas = d.schemas; init = init; goal = goal }) refl refl good.least;
      init = is;
      goal = more;
    }))))
