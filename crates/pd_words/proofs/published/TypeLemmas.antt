-- The types that reading gives.
use Rattle.std.proofs.Common.{◌≡◌, ◌⊎◌, inl, inr, ◌==◌, ◌||◌, ℕ, zero, suc, ◌+◌, ◌<◌, ◌≤◌, Bool, true, false, cond, List, [], ◌∷◌, ◌++◌, length, map, drop, slice_index, Option, Some, None, Result, Ok, Err, refl, ap, ◌∙◌, sym, subst, arith, length-append}
use Rattle.std.specs.Prelude.{IfOk, IfSome, unwrap_or, not}
use Rattle.std.proofs.lemmas.List.{length-map, drop_more}
use Rattle.pd_sexp.specs.Tree.{Tree, Trees}
use Rattle.std.proofs.lemmas.Bool.{cases_lt, lt-ltb, and_parts, not-true}
use Rattle.std.specs.Prelude.{slice_get}
use Rattle.pd_model.specs.WellFormed.{are_below}
use Rattle.pd_model.specs.Types.{parents_of, leads_to, is_under}
use Rattle.pd_model.specs.declared.types.TypeDecl.{TypeDecl}
use Rattle.pd_words.specs.declared.fault.Fault.{Fault}
use Rattle.pd_words.specs.declared.fault.Fault.TheVariants.{Shape, Duplicate}
use Rattle.pd_words.specs.declared.named.Named.{Named}
use Rattle.pd_words.specs.Names.{number_of, is_among}
use Rattle.pd_words.specs.Words.{is_name}
use Rattle.pd_words.specs.Typed.{object, named, type_name}
use Rattle.pd_words.specs.First.{◌>>=◌, wants}
use Rattle.pd_words.specs.Types.{Declared, object_name, is_object, admit_type, parent_name, give_one, give_parent, declared_from, only_object, with_name, with_parents, types_under, number_in, types_of, types, rooted, AreParents}
use Rattle.pd_words.proofs.published.NameLemmas.{number_below, names_push, all_push}
use Rattle.pd_words.proofs.published.Sound.{bind_ok, wants_ok, if_ok, typed_keeps, any_tree, any_trees, OfWords, AllOfWords, first_words, other_words}
use Rattle.std.specs.List.{list_all}
use Rattle.pd_sexp.specs.Tree.{word, list}
use Rattle.pd_sexp.specs.Word.{is_word}
use Rattle.pd_model.specs.Names.{type_names, are_names}

pub rooted_more : (parents places : List ℕ) (kind i : ℕ) (total : Result (Unit {0}) Fault) → i < length places → is_under parents kind 0 ≡ true
    → rooted parents kind (drop i places) ≡ total → rooted parents (kind + 1) (drop (i + 1) places) ≡ total
rooted_more parents places kind i total lt is so_far =
    let one : rooted parents kind (drop i places) ≡ rooted parents (kind + 1) (drop (i + 1) places) = rw (drop_more places i 0 lt, is) refl in
    sym one ∙ so_far

-- ---- how many types there are

pub under_length : (names : List (List ℕ)) (numbers : List ℕ) → length (types_under names numbers) ≡ length names
under_length [] numbers = refl
under_length (n ∷ ns) [] = ap suc (under_length ns [])
under_length (n ∷ ns) (p ∷ ps) = ap suc (under_length ns ps)

pub under_names : (names : List (List ℕ)) (numbers : List ℕ) → map (λ d. d.name) (types_under names numbers) ≡ names
under_names [] numbers = refl
under_names (n ∷ ns) [] = ap (λ (xs : List (List ℕ)). n ∷ xs) (under_names ns [])
under_names (n ∷ ns) (p ∷ ps) = ap (λ (xs : List (List ℕ)). n ∷ xs) (under_names ns ps)

one_grows : (b : Bool) (names : List (List ℕ)) (name : List ℕ) → length names ≤ length (cond b names (names ++ name ∷ []))
one_grows true names name = omega arith
one_grows false names name = omega (arith, length-append names (name ∷ []))

pub parents_grow : (names parents : List (List ℕ)) → length names ≤ length (with_parents names parents)
parents_grow names [] = omega arith
parents_grow names (p ∷ ps) = omega (arith, one_grows (is_among p names) names p, parents_grow (with_name names p) ps)

-- ---- parents are types

some_below : (found : Option ℕ) (size : ℕ) → 0 < size → IfSome found (λ i. i < size) → unwrap_or found 0 < size
some_below None size some h = some
some_below (Some i) size some h = h

number_in_below : (names : List (List ℕ)) (name : List ℕ) → 0 < length names → number_in names name < length names
number_in_below names name some = some_below (number_of name names) (length names) some (number_below name names)

below_at : (names : List (List ℕ)) (numbers : List ℕ) (size : ℕ) → 0 < size → ((k : ℕ) → slice_index numbers k < size) → (k : ℕ) → slice_index (parents_of (types_under names numbers)) k < size
below_at [] numbers size some h k = some
below_at (n ∷ ns) [] size some h zero = some
below_at (n ∷ ns) [] size some h (suc k) = below_at ns [] size some h k
below_at (n ∷ ns) (p ∷ ps) size some h zero = h zero
below_at (n ∷ ns) (p ∷ ps) size some h (suc k) = below_at ns ps size some (λ j. h (suc j)) k

mapped_below : (names : List (List ℕ)) (parents : List (List ℕ)) (size : ℕ) → 0 < size → ((name : List ℕ) → number_in names name < size) → (k : ℕ) → slice_index (map (number_in names) parents) k < size
mapped_below names [] size some h k = some
mapped_below names (p ∷ ps) size some h zero = h p
mapped_below names (p ∷ ps) size some h (suc k) = mapped_below names ps size some h k

numbers_below : (names : List (List ℕ)) (parents : List (List ℕ)) → 0 < length names → (k : ℕ) → slice_index (object ∷ map (number_in names) parents) k < length names
numbers_below names parents some zero = some
numbers_below names parents some (suc k) = mapped_below names parents (length names) some (λ name. number_in_below names name some) k

first_at : (names : List (List ℕ)) (numbers : List ℕ) → slice_index (parents_of (types_under names (object ∷ numbers))) 0 ≡ 0
first_at [] numbers = refl
first_at (n ∷ ns) numbers = refl

pub size_is : (d : Declared) → length (parents_of (types_of d)) ≡ length (with_parents d.names d.parents)
size_is d = length-map (types_of d) (λ t. t.parent) ∙ under_length (with_parents d.names d.parents) (object ∷ map (number_in (with_parents d.names d.parents)) d.parents)

pub lawful : (d : Declared) → 0 < length d.names → AreParents (parents_of (types_of d))
lawful d some =
    let all = with_parents d.names d.parents in
    let numbers = object ∷ map (number_in all) d.parents in
    let size = size_is d in
    let more : 0 < length all = omega (arith, parents_grow d.names d.parents) in
    record {
      some = omega arith;
      object_first = first_at all (map (number_in all) d.parents);
      below = λ k lt. subst (λ n. slice_index (parents_of (types_of d)) k < n) (sym size) (below_at all numbers (length all) more (numbers_below all d.parents more) k);
    }

-- ---- `object` and the declared names, of which each gets a parent

-- `object` needs no parent
abbrev wants_parent : Bool → ℕ
wants_parent true = 0
wants_parent false = 1

proper : List Named → ℕ
proper [] = 0
proper (w ∷ ws) = wants_parent (is_object w.name) + proper ws

proper_push : (ws : List Named) (w : Named) → proper (ws ++ w ∷ []) ≡ proper ws + wants_parent (is_object w.name)
unfolding proper
proper_push [] w = omega arith
proper_push (v ∷ ws) w = omega (arith, proper_push ws w)

record Counted (d : Declared) (waiting : List Named) : Type 0 where
  names : length d.names ≡ suc (length d.places)
  parents : length d.places ≡ length d.parents + proper waiting

admits : (d : Declared) (waiting : List Named) (w : Named) → Counted d waiting → IfOk (admit_type d w) (λ next. Counted next (waiting ++ w ∷ []))
admits d waiting w h =
    let here : Declared → Type 0 = λ next. Counted next (waiting ++ w ∷ []) in
    wants_ok here (is_name w.name) (Shape w.at) _
    (λ _. if_ok here (is_object w.name) (Ok d) _
    (λ yes. record { names = h.names; parents = let e : proper (waiting ++ w ∷ []) ≡ proper waiting + 0 = rw proper_push (ap (λ b. proper waiting + wants_parent b) yes) in omega (arith, h.parents) })
    (λ no. wants_ok here (not (is_among w.name d.names)) (Duplicate w.at) _
    (λ _. record {
      names = omega (arith, h.names, length-append d.names (w.name ∷ []), length-append d.places (w.at ∷ []));
      parents = let e : proper (waiting ++ w ∷ []) ≡ proper waiting + 1 = rw proper_push (ap (λ b. proper waiting + wants_parent b) no) in omega (arith, h.parents, length-append d.places (w.at ∷ []));
    })))

gives_one : (d : Declared) (parent : List ℕ) (w : Named) (ws : List Named) → Counted d (w ∷ ws) → IfOk (give_one d parent w) (λ next. Counted next ws)
unfolding proper
gives_one d parent w ws h =
    let here : Declared → Type 0 = λ next. Counted next ws in
    if_ok here (is_object w.name) _ _
    (λ yes. wants_ok here (is_object parent) (Duplicate w.at) _ (λ _. record { names = h.names; parents = let e : wants_parent (is_object w.name) ≡ 0 = ap wants_parent yes in omega (arith, e, h.parents) }))
    (λ no. record { names = h.names; parents = let e : wants_parent (is_object w.name) ≡ 1 = ap wants_parent no in omega (arith, e, h.parents, length-append d.parents (parent ∷ [])) })

gives : (d : Declared) (waiting : List Named) (parent : List ℕ) → Counted d waiting → IfOk (give_parent d parent waiting) (λ next. Counted next [])
gives d [] parent h = h
gives d (w ∷ ws) parent h =
    bind_ok (λ next. Counted next ws) (λ next. Counted next []) (give_one d parent w) (λ next. give_parent next parent ws) (gives_one d parent w ws h) (λ next more. gives next ws parent more)

any_name : (t : Tree) → IfOk (parent_name t) (λ _. Unit {0})
any_name t = anything (parent_name t)
  where
    anything : (r : Result (List ℕ) Fault) → IfOk r (λ _. Unit {0})
    anything (Ok x) = tt
    anything (Err e) = tt

weaker : (r : Result Declared Fault) → IfOk r (λ d. Counted d []) → IfOk r (λ d. (length d.names ≡ suc (length d.places)) × (length d.places ≡ length d.parents))
unfolding proper
weaker (Ok d) h = (h.names, omega (arith, h.parents))
weaker (Err e) h = tt

pub declared_counted : (items : Trees) → IfOk (declared_from only_object [] items) (λ d. (length d.names ≡ suc (length d.places)) × (length d.places ≡ length d.parents))
unfolding proper
declared_counted items =
    weaker (declared_from only_object [] items)
    (typed_keeps admit_type parent_name give_parent object_name any_tree any_trees (λ t ts all. tt) (λ t ts all. tt) Counted (λ d waiting w one h. admits d waiting w h)
    (λ _. Unit {0}) (λ t one. any_name t) tt (λ d waiting parent _ h. gives d waiting parent h) only_object [] items tt (record { names = refl; parents = refl }))

-- ---- the names of the types

record HasNames (d : Declared) (waiting : List Named) : Type 0 where
  names : are_names d.names ≡ true
  parents : list_all is_word d.parents ≡ true

names_admit : (d : Declared) (waiting : List Named) (w : Named) → is_word w.name ≡ true → HasNames d waiting → IfOk (admit_type d w) (λ next. HasNames next (waiting ++ w ∷ []))
names_admit d waiting w is h =
    let here : Declared → Type 0 = λ next. HasNames next (waiting ++ w ∷ []) in
    wants_ok here (is_name w.name) (Shape w.at) _
    (λ _. if_ok here (is_object w.name) (Ok d) _
    (λ yes. record { names = h.names; parents = h.parents })
    (λ no. wants_ok here (not (is_among w.name d.names)) (Duplicate w.at) _
    (λ new. record { names = names_push d.names w.name h.names is (not-true (is_among w.name d.names) new); parents = h.parents })))

names_give_one : (d : Declared) (parent : List ℕ) (w : Named) (ws more : List Named) → is_word parent ≡ true → HasNames d ws → IfOk (give_one d parent w) (λ next. HasNames next more)
names_give_one d parent w ws more is h =
    let here : Declared → Type 0 = λ next. HasNames next more in
    if_ok here (is_object w.name) _ _
    (λ yes. wants_ok here (is_object parent) (Duplicate w.at) _ (λ _. record { names = h.names; parents = h.parents }))
    (λ no. record { names = h.names; parents = all_push is_word d.parents parent h.parents is })

names_give : (d : Declared) (waiting : List Named) (parent : List ℕ) → is_word parent ≡ true → HasNames d waiting → IfOk (give_parent d parent waiting) (λ next. HasNames next [])
names_give d [] parent is h = record { names = h.names; parents = h.parents }
names_give d (w ∷ ws) parent is h =
    bind_ok (λ next. HasNames next ws) (λ next. HasNames next []) (give_one d parent w) (λ next. give_parent next parent ws) (names_give_one d parent w (w ∷ ws) ws is h) (λ next more. names_give next ws parent is more)

parent_word : (t : Tree) → OfWords t → IfOk (parent_name t) (λ name. is_word name ≡ true)
parent_word (word at text) is =
    bind_ok (λ t. is_word t.name ≡ true) (λ name. is_word name ≡ true) (type_name (word at text)) (λ t. Ok t.name)
    (wants_ok (λ t. is_word t.name ≡ true) (is_name text) (Shape at) (λ _. Ok (named at text)) (λ _. is)) (λ t h. h)
parent_word (list at items) is = tt

declared_named : (items : Trees) → AllOfWords items → IfOk (declared_from only_object [] items) (λ d. HasNames d [])
declared_named items all =
    typed_keeps admit_type parent_name give_parent object_name OfWords AllOfWords first_words other_words HasNames names_admit
    (λ name. is_word name ≡ true) parent_word refl (λ d waiting parent is h. names_give d waiting parent is h) only_object [] items all (record { names = refl; parents = refl })

with_one : (b : Bool) (names : List (List ℕ)) (name : List ℕ) → is_among name names ≡ b → are_names names ≡ true → is_word name ≡ true → are_names (cond b names (names ++ name ∷ [])) ≡ true
with_one true names name e are is = are
with_one false names name e are is = names_push names name are is e

with_all : (names parents : List (List ℕ)) → are_names names ≡ true → list_all is_word parents ≡ true → are_names (with_parents names parents) ≡ true
with_all names [] are is = are
with_all names (p ∷ ps) are is =
    let parts = and_parts (is_word p) (list_all is_word ps) is in
    with_all (with_name names p) ps (with_one (is_among p names) names p refl are (parts.0)) (parts.1)

names_of : (d : Declared) → HasNames d [] → are_names (type_names (types_of d)) ≡ true
names_of d h = rw under_names (with_all d.names d.parents h.names h.parents)

-- ---- each type lies under `object`

rooted_first : (parents : List ℕ) (kind place : ℕ) (places : List ℕ) (b : Bool) → is_under parents kind 0 ≡ b
    → (rooted parents (kind + 1) places ≡ Ok tt → (i : ℕ) → i < length places → is_under parents ((kind + 1) + i) 0 ≡ true)
    → (i : ℕ) → i < suc (length places) → (wants b (Shape place) >>= λ _. rooted parents (kind + 1) places) ≡ Ok tt → is_under parents (kind + i) 0 ≡ true
rooted_first parents kind place places true here later zero lt is = let e : kind + zero ≡ kind = omega arith in rw e here
rooted_first parents kind place places true here later (suc i) lt is = let e : kind + suc i ≡ (kind + 1) + i = omega arith in rw e (later is i (omega arith))
rooted_first parents kind place places false here later i lt is = absurd cc

rooted_each : (parents : List ℕ) (kind : ℕ) (places : List ℕ) → rooted parents kind places ≡ Ok tt → (i : ℕ) → i < length places → is_under parents (kind + i) 0 ≡ true
rooted_each parents kind [] is i lt = absurd (omega arith)
rooted_each parents kind (p ∷ ps) is i lt = rooted_first parents kind p ps (is_under parents kind 0) refl (λ rest. rooted_each parents (kind + 1) ps rest) i lt is

past_is : (names : List (List ℕ)) (numbers : List ℕ) (k : ℕ) → length numbers ≤ k → slice_index (parents_of (types_under names numbers)) k ≡ 0
past_is [] numbers k h = refl
past_is (n ∷ ns) [] zero h = refl
past_is (n ∷ ns) [] (suc k) h = past_is ns [] k (omega arith)
past_is (n ∷ ns) (p ∷ ps) zero h = absurd (omega arith)
past_is (n ∷ ns) (p ∷ ps) (suc k) h = past_is ns ps k (omega arith)

object_leads : (parents : List ℕ) (n : ℕ) → leads_to parents n 0 0 ≡ true
object_leads parents zero = refl
object_leads parents (suc n) = refl

step_leads : (parents : List ℕ) (n kind : ℕ) → slice_index parents kind ≡ 0 → leads_to parents (suc n) kind 0 ≡ true
step_leads parents n kind is = rw (is, object_leads parents n) (or_true (kind == 0))
  where
    or_true : (b : Bool) → b || true ≡ true
    or_true true = refl
    or_true false = refl

near_object : (parents : List ℕ) (size kind : ℕ) → length parents ≡ size → 0 < size → slice_index parents kind ≡ 0 → is_under parents kind 0 ≡ true
near_object parents zero kind is some at = absurd (omega arith)
near_object parents (suc n) kind is some at = rw is (step_leads parents n kind at)

pub each_under : (d : Declared) → length d.names ≡ suc (length d.places) → length d.places ≡ length d.parents → rooted (parents_of (types_of d)) 1 d.places ≡ Ok tt
    → (kind : ℕ) → kind < length (types_of d) → is_under (parents_of (types_of d)) kind 0 ≡ true
each_under d names parents is zero lt = near_object (parents_of (types_of d)) (length (parents_of (types_of d))) 0 refl (omega (arith, size_is d, parents_grow d.names d.parents)) ((lawful d (omega arith)).object_first)
each_under d names parents is (suc i) lt = split (cases_lt i (length d.places))
  where
    split : (i < length d.places) ⊎ (length d.places ≤ i) → is_under (parents_of (types_of d)) (suc i) 0 ≡ true
    split (inl h) = let e : suc i ≡ 1 + i = omega arith in rw e (rooted_each (parents_of (types_of d)) 1 d.places is i h)
    split (inr h) =
        let past = past_is (with_parents d.names d.parents) (object ∷ map (number_in (with_parents d.names d.parents)) d.parents) (suc i) (omega (arith, h, length-map d.parents (number_in (with_parents d.names d.parents)))) in
        near_object (parents_of (types_of d)) (length (parents_of (types_of d))) (suc i) refl (omega (arith, size_is d, parents_grow d.names d.parents)) past

-- ---- what holds of the types of a domain

all_at : (xs : List ℕ) (n : ℕ) → ((k : ℕ) → k < length xs → slice_index xs k < n) → are_below n xs ≡ true
all_at [] n h = refl
all_at (x ∷ xs) n h = rw (lt-ltb x n (h 0 (omega arith))) (all_at xs n (λ k lt. h (suc k) (omega arith)))

first_is : (xs : List ℕ) → 0 < length xs → slice_index xs 0 ≡ 0 → slice_get xs 0 ≡ Some 0
first_is [] some is = absurd (omega arith)
first_is (x ∷ xs) some is = ap Some is

pub record TypesLawful (ts : List TypeDecl) : Type 0 where
  pub names : are_names (type_names ts) ≡ true
  pub some : 0 < length ts
  pub first : slice_get (parents_of ts) 0 ≡ Some 0
  pub below : are_below (length ts) (parents_of ts) ≡ true
  pub leads : (kind : ℕ) → kind < length ts → is_under (parents_of ts) kind 0 ≡ true

-- what holds of the types that are declared
abbrev Whole : Declared → Type 0
Whole d = (length d.names ≡ suc (length d.places)) × (length d.places ≡ length d.parents) × HasNames d []

whole : (r : Result Declared Fault) → IfOk r (λ d. (length d.names ≡ suc (length d.places)) × (length d.places ≡ length d.parents)) → IfOk r (λ d. HasNames d []) → IfOk r Whole
whole (Ok d) counted named = (counted.0, counted.1, named)
whole (Err e) counted named = tt

of_declared : (d : Declared) → Whole d → rooted (parents_of (types_of d)) 1 d.places ≡ Ok tt → TypesLawful (types_of d)
of_declared d counted is =
    let ts = types_of d in
    let are = lawful d (omega (arith, counted.0)) in
    let size : length (parents_of ts) ≡ length ts = length-map ts (λ t. t.parent) in
    record {
      names = names_of d counted.2;
      some = omega (arith, are.some);
      first = first_is (parents_of ts) are.some are.object_first;
      below = all_at (parents_of ts) (length ts) (λ k lt. subst (λ n. slice_index (parents_of ts) k < n) size (are.below k lt));
      leads = each_under d counted.0 counted.1 is;
    }

after_test : (d : Declared) → Whole d → (r : Result (Unit {0}) Fault) → rooted (parents_of (types_of d)) 1 d.places ≡ r → IfOk (r >>= λ _. Ok (types_of d)) TypesLawful
after_test d counted (Ok u) is = of_declared d counted is
after_test d counted (Err e) is = tt

pub types_sound : (items : Trees) → AllOfWords items → IfOk (types items) TypesLawful
types_sound items all =
    bind_ok Whole TypesLawful (declared_from only_object [] items) _ (whole (declared_from only_object [] items) (declared_counted items) (declared_named items all))
    (λ d counted. after_test d counted (rooted (parents_of (types_of d)) 1 d.places) refl)
