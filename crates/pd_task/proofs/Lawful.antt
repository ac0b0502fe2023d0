-- What reading gives fits what the task declares: terms, atoms, conditions and effects.
use Rattle.std.proofs.Common.{◌≡◌, ℕ, zero, suc, ◌+◌, ◌<◌, ◌≤◌, ◌==◌, Bool, true, false, ◌&&◌, cond, List, [], ◌∷◌, ◌++◌, length, slice_index, Option, Some, None, Result, Ok, Err, refl, ap, ◌∙◌, sym, subst, arith, length-append, replicate}
use Rattle.std.specs.Prelude.{IfOk, IfSome, option_map, nat_lt, slice_get, not}
use Rattle.std.specs.List.{list_all}
use Rattle.std.proofs.lemmas.Bool.{lt-ltb, eqb-true, eq-eqb, and_from}
use Rattle.pd_sexp.specs.Tree.{Tree, word, list, Trees, no_trees, and_tree}
use Rattle.pd_model.specs.WellFormed.{are_below, takes, is_term, is_pattern, is_cond}
use Rattle.pd_model.specs.declared.predicates.Predicate.{Predicate}
use Rattle.pd_model.specs.declared.atoms.Term.TheVariants.{Object, Variable}
use Rattle.pd_model.specs.declared.atoms.Pattern.{Pattern}
use Rattle.pd_model.specs.declared.conds.Cond.{Cond}
use Rattle.pd_model.specs.declared.effects.Effect.{Effect}
use Rattle.pd_model.specs.declared.parts.Parts.{Parts}
use Rattle.pd_model.specs.Names.{predicate_names, arities_of}
use Rattle.pd_words.specs.declared.fault.Fault.{Fault}
use Rattle.pd_words.specs.declared.fault.Fault.TheVariants.{Shape, Unknown, Arity, Unsupported}
use Rattle.pd_words.specs.declared.keyword.Keyword.{Keyword}
use Rattle.pd_words.specs.declared.keyword.Keyword.TheVariants as heads
use Rattle.pd_words.specs.declared.named.Named.{Named}
use Rattle.pd_words.specs.Words.{is_name, is_variable, head_of}
use Rattle.pd_words.specs.Names.{number_of, variable_number, or_else, is_among}
use Rattle.pd_words.specs.Typed.{Variables, listed, variables, variable_list, admit_variable, give_kind, type_name, type_of, object}
use Rattle.pd_words.specs.First.{◌>>=◌, found, every, each}
use Rattle.pd_words.specs.Items.{no_more}
use Rattle.pd_words.proofs.published.NameLemmas.{number_below, all_append, all_push}
use Rattle.pd_words.proofs.published.Sound.{bind_ok, wants_ok, if_ok, typed_keeps, any_tree, any_trees}
use Rattle.pd_task.specs.Atoms.{Names, count, term, predicate, atom, one_of, two_of, literal, equality, denied, negation, and_one, condition, conditions}
use Rattle.pd_task.specs.Effects.{Site, and_effect, removed, removal, literals, all_literals, conditional_body, conditional, under, simple, rest_of, effect, all_effects, quantified, quantified_body}

-- ---- steps

abbrev pub Passes : {A : Type 0} → (A → Bool) → Result A Fault → Type 0
Passes test read = IfOk read (λ x. test x ≡ true)

-- whatever the first step's value is
pub bind_any : {A B : Type 0} (Q : B → Type 0) (read : Result A Fault) (next : A → Result B Fault) → ((x : A) → IfOk (next x) Q) → IfOk (read >>= next) Q
bind_any Q (Ok x) next more = more x
bind_any Q (Err e) next more = tt

pub found_ok : {A : Type 0} (P : A → Type 0) (fault : Fault) (o : Option A) → IfSome o P → IfOk (found fault o) P
found_ok P fault None h = tt
found_ok P fault (Some x) h = h

some_map : {A B : Type 0} (f : A → B) (P : B → Type 0) (o : Option A) → IfSome o (λ x. P (f x)) → IfSome (option_map f o) P
some_map f P None h = tt
some_map f P (Some x) h = h

some_weaker : (P Q : ℕ → Type 0) (o : Option ℕ) → ((i : ℕ) → P i → Q i) → IfSome o P → IfSome o Q
some_weaker P Q None f h = tt
some_weaker P Q (Some i) f h = f i h

pub every_sound : {A : Type 0} (test : A → Bool) (read : Tree → Result A Fault) → ((t : Tree) → Passes test (read t)) → (ts : Trees)
    → IfOk (every read ts) (λ xs. (list_all test xs ≡ true) × (length xs ≡ count ts))
every_sound test read h no_trees = (refl, refl)
every_sound test read h (and_tree t ts) =
    bind_ok (λ x. test x ≡ true) (λ xs. (list_all test xs ≡ true) × (length xs ≡ suc (count ts))) (read t) _ (h t)
    (λ x is. bind_ok (λ xs. (list_all test xs ≡ true) × (length xs ≡ count ts)) (λ xs. (list_all test xs ≡ true) × (length xs ≡ suc (count ts))) (every read ts) _ (every_sound test read h ts)
    (λ xs more. (and_from (test x) (list_all test xs) is more.0, ap suc more.1)))

pub each_sound : {S : Type 0} (P : S → Type 0) (step : S → Tree → Result S Fault) → ((s : S) (t : Tree) → P s → IfOk (step s t) P) → (s : S) (ts : Trees) → P s → IfOk (each step s ts) P
each_sound P step h s no_trees is = is
each_sound P step h s (and_tree t ts) is = bind_ok P P (step s t) _ (h s t is) (λ next more. each_sound P step h next ts more)

-- ---- names

pub total : List (List (List ℕ)) → ℕ
total [] = 0
total (level ∷ levels) = length level + total levels

pub total_push : (levels : List (List (List ℕ))) (level : List (List ℕ)) → total (levels ++ level ∷ []) ≡ total levels + length level
unfolding total
total_push [] level = omega arith
total_push (l ∷ ls) level = omega (arith, total_push ls level)

-- names stand for what the task declares, with so many variables
pub record Fits (p : Parts) (names : Names) (n : ℕ) : Type 0 where
  pub predicates : names.predicates ≡ predicate_names p.predicates
  pub arities : names.arities ≡ arities_of p.predicates
  pub objects : length names.objects ≤ length p.objects
  pub variables : total names.variables ≡ n

or_below : (P : ℕ → Type 0) (a b : Option ℕ) → IfSome a P → IfSome b P → IfSome (or_else a b) P
or_below P None b h g = g
or_below P (Some i) b h g = h

variable_below : (name : List ℕ) (first : ℕ) (levels : List (List (List ℕ))) → IfSome (variable_number name first levels) (λ i. i < first + total levels)
unfolding total
variable_below name first [] = tt
variable_below name first (l ∷ ls) =
    let below : ℕ → Type 0 = λ i. i < first + (length l + total ls) in
    or_below below (variable_number name (first + length l) ls) (option_map (λ i. first + i) (number_of name l))
    (some_weaker (λ i. i < (first + length l) + total ls) below (variable_number name (first + length l) ls) (λ i h. omega arith) (variable_below name (first + length l) ls))
    (some_map (λ i. first + i) below (number_of name l) (some_weaker (λ i. i < length l) (λ i. first + i < first + (length l + total ls)) (number_of name l) (λ i h. omega arith) (number_below name l)))

takes_is : (predicates : List Predicate) (i n : ℕ) → i < length predicates → (n == slice_index (arities_of predicates) i) ≡ true → takes (slice_get predicates i) n ≡ true
takes_is [] i n lt is = absurd (omega arith)
takes_is (p ∷ ps) zero n lt is = eq-eqb p.arity n (sym (eqb-true n p.arity is))
takes_is (p ∷ ps) (suc i) n lt is = takes_is ps i n (omega arith) is

names_length : (predicates : List Predicate) → length (predicate_names predicates) ≡ length predicates
names_length [] = refl
names_length (p ∷ ps) = ap suc (names_length ps)

module _ (p : Parts) (names : Names) (n : ℕ) (fits : Fits p names n) where
  term_sound : (t : Tree) → Passes (is_term p n) (term names t)
  term_sound (list at items) = tt
  term_sound (word at text) =
      if_ok (λ x. is_term p n x ≡ true) (is_variable text) _ _
      (λ _. found_ok (λ x. is_term p n x ≡ true) (Unknown at) _
      (some_map Variable (λ x. is_term p n x ≡ true) (variable_number text 0 names.variables)
      (some_weaker (λ i. i < 0 + total names.variables) (λ i. nat_lt i n ≡ true) (variable_number text 0 names.variables)
      (λ i h. lt-ltb i n (omega (arith, fits.variables))) (variable_below text 0 names.variables))))
      (λ _. found_ok (λ x. is_term p n x ≡ true) (Unknown at) _
      (some_map Object (λ x. is_term p n x ≡ true) (number_of text names.objects)
      (some_weaker (λ i. i < length names.objects) (λ i. nat_lt i (length p.objects) ≡ true) (number_of text names.objects)
      (λ i h. lt-ltb i (length p.objects) (omega (arith, fits.objects))) (number_below text names.objects))))

  pub predicate_sound : (t : Tree) → IfOk (predicate names.predicates t) (λ i. i < length p.predicates)
  predicate_sound (list at items) = tt
  predicate_sound (word at text) =
      let size : length names.predicates ≡ length p.predicates = ap length fits.predicates ∙ names_length p.predicates in
      wants_ok (λ i. i < length p.predicates) (is_name text) (Shape at) _
      (λ _. found_ok (λ i. i < length p.predicates) (Unknown at) _
      (some_weaker (λ i. i < length names.predicates) (λ i. i < length p.predicates) (number_of text names.predicates) (λ i h. omega arith) (number_below text names.predicates)))

  pub takes_sound : (i k : ℕ) → i < length p.predicates → (k == slice_index names.arities i) ≡ true → takes (slice_get p.predicates i) k ≡ true
  takes_sound i k lt is = takes_is p.predicates i k lt (sym (ap (λ (ks : List ℕ). k == slice_index ks i) fits.arities) ∙ is)

  pattern_sound : (at : ℕ) (items : Trees) → Passes (is_pattern p n) (atom names at items)
  pattern_sound at no_trees = tt
  pattern_sound at (and_tree head rest) =
      let good : Pattern → Type 0 = λ a. is_pattern p n a ≡ true in
      bind_ok (λ i. i < length p.predicates) good (predicate names.predicates head) _ (predicate_sound head)
      (λ i lt. wants_ok good (count rest == slice_index names.arities i) (Arity at) _
      (λ is. bind_ok (λ xs. (list_all (is_term p n) xs ≡ true) × (length xs ≡ count rest)) good (every (term names) rest) _ (every_sound (is_term p n) (term names) term_sound rest)
      (λ xs more. and_from (takes (slice_get p.predicates i) (length xs)) (list_all (is_term p n) xs)
      (ap (λ k. takes (slice_get p.predicates i) k) more.1 ∙ takes_sound i (count rest) lt is) more.0)))

  literal_sound : (want : Bool) (at : ℕ) (items : Trees) → Passes (is_cond p n) (literal names want at items)
  literal_sound want at items = bind_ok (λ a. is_pattern p n a ≡ true) (λ c. is_cond p n c ≡ true) (atom names at items) _ (pattern_sound at items) (λ a is. is)

  equality_sound : (want : Bool) (at : ℕ) (items : Trees) → Passes (is_cond p n) (equality names want at items)
  equality_sound want at items =
      let good : Cond → Type 0 = λ c. is_cond p n c ≡ true in
      bind_any good (found (Shape at) (two_of items)) _
      (λ terms. bind_ok (λ x. is_term p n x ≡ true) good (term names terms.0) _ (term_sound terms.0)
      (λ left is. bind_ok (λ x. is_term p n x ≡ true) good (term names terms.1) _ (term_sound terms.1)
      (λ right more. and_from (is_term p n left) (is_term p n right) is more)))

  denied_sound : (at : ℕ) (t : Tree) → Passes (is_cond p n) (denied names at t)
  denied_sound at (word place text) = tt
  denied_sound at (list place no_trees) = tt
  denied_sound at (list place (and_tree head rest)) =
      elim (head_of head) as (λ k. Passes (is_cond p n) (elim k [
        | heads.Free ↦ literal names false place (and_tree head rest)
        | heads.Equals ↦ equality names false place rest
        | _ ↦ Err (Unsupported at)
      ])) [
        | heads.Free ↦ literal_sound false place (and_tree head rest)
        | heads.Equals ↦ equality_sound false place rest
        | _ ↦ tt
      ]

  negation_sound : (at : ℕ) (items : Trees) → Passes (is_cond p n) (negation names at items)
  negation_sound at items = bind_any (λ c. is_cond p n c ≡ true) (found (Shape at) (one_of items)) _ (λ t. denied_sound at t)

  one_more : (before : List Cond) (read : Result Cond Fault) → list_all (is_cond p n) before ≡ true → Passes (is_cond p n) read → Passes (list_all (is_cond p n)) (and_one before read)
  one_more before read h is = bind_ok (λ c. is_cond p n c ≡ true) (λ cs. list_all (is_cond p n) cs ≡ true) read _ is (λ c good. all_push (is_cond p n) before c h good)

  mutual
    pub condition_sound : (before : List Cond) (t : Tree) → list_all (is_cond p n) before ≡ true → Passes (list_all (is_cond p n)) (condition names before t)
    condition_sound before (word at text) h = tt
    condition_sound before (list at no_trees) h = h
    condition_sound before (list at (and_tree head rest)) h =
        elim (head_of head) as (λ k. Passes (list_all (is_cond p n)) (elim k [
          | heads.And ↦ conditions names before rest
          | heads.Not ↦ and_one before (negation names at rest)
          | heads.Equals ↦ and_one before (equality names true at rest)
          | heads.Free ↦ and_one before (literal names true at (and_tree head rest))
          | heads.Assignment ↦ and_one before (literal names true at (and_tree head rest))
          | _ ↦ Err (Unsupported at)
        ])) [
          | heads.And ↦ conditions_sound before rest h
          | heads.Not ↦ one_more before (negation names at rest) h (negation_sound at rest)
          | heads.Equals ↦ one_more before (equality names true at rest) h (equality_sound true at rest)
          | heads.Free ↦ one_more before (literal names true at (and_tree head rest)) h (literal_sound true at (and_tree head rest))
          | heads.Assignment ↦ one_more before (literal names true at (and_tree head rest)) h (literal_sound true at (and_tree head rest))
          | _ ↦ tt
        ]

    pub conditions_sound : (before : List Cond) (ts : Trees) → list_all (is_cond p n) before ≡ true → Passes (list_all (is_cond p n)) (conditions names before ts)
    conditions_sound before no_trees h = h
    conditions_sound before (and_tree t ts) h =
        bind_ok (λ cs. list_all (is_cond p n) cs ≡ true) (λ cs. list_all (is_cond p n) cs ≡ true) (condition names before t) _ (condition_sound before t h) (λ next more. conditions_sound next ts more)

-- ---- effects

-- the effect fits, but for the bound on its variables
abbrev pub lawful_effect : Parts → ℕ → Effect → Bool
lawful_effect p parameters e =
    are_below (length p.types) e.over && list_all (is_cond p (parameters + length e.over)) e.cond && is_pattern p (parameters + length e.over) e.atom

-- an effect stands where names and types fit
pub record SiteFits (p : Parts) (site : Site) (parameters : ℕ) : Type 0 where
  pub names : Fits p site.names (parameters + length site.over)
  pub over : are_below (length p.types) site.over ≡ true
  pub cond : list_all (is_cond p (parameters + length site.over)) site.cond ≡ true

module _ (p : Parts) (m : ℕ) where
  abbrev pub good : List Effect → Type 0
  good es = list_all (lawful_effect p m) es ≡ true

  and_effect_sound : (site : Site) (before : List Effect) (adds : Bool) (at : ℕ) (items : Trees) → SiteFits p site m → good before → IfOk (and_effect site before adds at items) good
  and_effect_sound site before adds at items fits h =
      let n = m + length site.over in
      bind_ok (λ a. is_pattern p n a ≡ true) good (atom site.names at items) _ (pattern_sound p site.names n fits.names at items)
      (λ a is. all_push (lawful_effect p m) before (record { over = site.over; cond = site.cond; atom = a; adds = adds }) h
      (and_from (are_below (length p.types) site.over && list_all (is_cond p n) site.cond) (is_pattern p n a)
      (and_from (are_below (length p.types) site.over) (list_all (is_cond p n) site.cond) fits.over fits.cond) is))

  removed_sound : (site : Site) (before : List Effect) (at : ℕ) (t : Tree) → SiteFits p site m → good before → IfOk (removed site before at t) good
  removed_sound site before at (word place text) fits h = tt
  removed_sound site before at (list place no_trees) fits h = tt
  removed_sound site before at (list place (and_tree head rest)) fits h =
      elim (head_of head) as (λ k. IfOk (elim k [
        | heads.Free ↦ and_effect site before false place (and_tree head rest)
        | heads.Equals ↦ Err (Shape place)
        | _ ↦ Err (Unsupported at)
      ]) good) [
        | heads.Free ↦ and_effect_sound site before false place (and_tree head rest) fits h
        | heads.Equals ↦ tt
        | _ ↦ tt
      ]

  removal_sound : (site : Site) (before : List Effect) (at : ℕ) (items : Trees) → SiteFits p site m → good before → IfOk (removal site before at items) good
  removal_sound site before at items fits h = bind_any good (found (Shape at) (one_of items)) _ (λ t. removed_sound site before at t fits h)

  mutual
    literals_sound : (site : Site) (before : List Effect) (t : Tree) → SiteFits p site m → good before → IfOk (literals site before t) good
    literals_sound site before (word at text) fits h = tt
    literals_sound site before (list at no_trees) fits h = h
    literals_sound site before (list at (and_tree head rest)) fits h =
        elim (head_of head) as (λ k. IfOk (elim k [
          | heads.And ↦ all_literals site before rest
          | heads.Not ↦ removal site before at rest
          | heads.Free ↦ and_effect site before true at (and_tree head rest)
          | heads.Equals ↦ Err (Shape at)
          | _ ↦ Err (Unsupported at)
        ]) good) [
          | heads.And ↦ all_literals_sound site before rest fits h
          | heads.Not ↦ removal_sound site before at rest fits h
          | heads.Free ↦ and_effect_sound site before true at (and_tree head rest) fits h
          | heads.Equals ↦ tt
          | _ ↦ tt
        ]

    all_literals_sound : (site : Site) (before : List Effect) (ts : Trees) → SiteFits p site m → good before → IfOk (all_literals site before ts) good
    all_literals_sound site before no_trees fits h = h
    all_literals_sound site before (and_tree t ts) fits h = bind_ok good good (literals site before t) _ (literals_sound site before t fits h) (λ next more. all_literals_sound site next ts fits more)

  body_sound : (site : Site) (before : List Effect) (at : ℕ) (items : Trees) → SiteFits p site m → good before → IfOk (conditional_body site before at items) good
  body_sound site before at no_trees fits h = tt
  body_sound site before at (and_tree what more) fits h = bind_ok good good (literals site before what) _ (literals_sound site before what fits h) (λ es is. bind_any good (no_more more) _ (λ _. is))

  conditional_sound : (site : Site) (before : List Effect) (at : ℕ) (items : Trees) → SiteFits p site m → good before → IfOk (conditional site before at items) good
  conditional_sound site before at no_trees fits h = tt
  conditional_sound site before at (and_tree cond rest) fits h =
      let n = m + length site.over in
      bind_ok (λ cs. list_all (is_cond p n) cs ≡ true) good (condition site.names [] cond) _ (condition_sound p site.names n fits.names [] cond refl)
      (λ c is. body_sound (record { names = site.names; over = site.over; cond = c }) before at rest (record { names = fits.names; over = fits.over; cond = is }) h)

  simple_sound : (site : Site) (before : List Effect) (k : Keyword) (at : ℕ) (items : Trees) → SiteFits p site m → good before → IfOk (simple site before k at items) good
  simple_sound site before heads.Not at items fits h = removal_sound site before at (rest_of items) fits h
  simple_sound site before heads.Free at items fits h = and_effect_sound site before true at items fits h
  simple_sound site before heads.When at items fits h = conditional_sound site before at (rest_of items) fits h
  simple_sound site before heads.Equals at items fits h = tt
  simple_sound site before heads.And at items fits h = tt
  simple_sound site before heads.Forall at items fits h = tt
  simple_sound site before heads.Other at items fits h = tt
  simple_sound site before heads.Assignment at items fits h = tt

-- ---- variables of types that are declared

record Kinds (size : ℕ) (vs : Variables) (waiting : List Named) : Type 0 where
  count : length vs.names ≡ length vs.kinds + length waiting
  below : are_below size vs.kinds ≡ true

replicate_below : (size kind n : ℕ) → kind < size → are_below size (replicate n kind) ≡ true
replicate_below size kind zero h = refl
replicate_below size kind (suc n) h = and_from (nat_lt kind size) (are_below size (replicate n kind)) (lt-ltb kind size h) (replicate_below size kind n h)

replicate_length : (n kind : ℕ) → length (replicate n kind) ≡ n
replicate_length zero kind = refl
replicate_length (suc n) kind = ap suc (replicate_length n kind)

pub type_below : (types : List (List ℕ)) (t : Tree) → IfOk (type_of types t) (λ k. k < length types)
type_below types t = bind_any (λ k. k < length types) (type_name t) _ (λ w. found_ok (λ k. k < length types) (Unknown w.at) (number_of w.name types) (number_below w.name types))

-- each variable has a type that is declared
pub record Typed (size : ℕ) (vs : Variables) : Type 0 where
  pub count : length vs.names ≡ length vs.kinds
  pub below : are_below size vs.kinds ≡ true

pub variables_sound : (types : List (List ℕ)) (items : Trees) → 0 < length types → IfOk (variables types items) (Typed (length types))
variables_sound types items some = last (variables types items)
    (typed_keeps admit_variable (type_of types) give_kind object any_tree any_trees (λ t ts all. tt) (λ t ts all. tt) (Kinds (length types))
    (λ vs waiting w one h. wants_ok (λ next. Kinds (length types) next (waiting ++ w ∷ [])) (is_variable w.name) _ _
    (λ _. wants_ok (λ next. Kinds (length types) next (waiting ++ w ∷ [])) (not (is_among w.name vs.names)) _ _
    (λ _. record { count = omega (arith, h.count, length-append vs.names (w.name ∷ []), length-append waiting (w ∷ [])); below = h.below })))
    (λ k. k < length types) (λ t one. type_below types t) some
    (λ vs waiting kind lt h. record {
      count = omega (arith, h.count, length-append vs.kinds (replicate (length waiting) kind), replicate_length (length waiting) kind);
      below = all_append (λ k. nat_lt k (length types)) vs.kinds (replicate (length waiting) kind) h.below (replicate_below (length types) kind (length waiting) lt);
    })
    (listed [] []) [] items tt (record { count = refl; below = refl }))
  where
    last : (r : Result Variables Fault) → IfOk r (λ vs. Kinds (length types) vs []) → IfOk r (Typed (length types))
    last (Ok vs) h = record { count = omega (arith, h.count); below = h.below }
    last (Err e) h = tt

pub variable_list_sound : (types : List (List ℕ)) (t : Tree) → 0 < length types → IfOk (variable_list types t) (Typed (length types))
variable_list_sound types (word at text) some = tt
variable_list_sound types (list at items) some = variables_sound types items some

-- ---- effects under `forall`

under_fits : (p : Parts) (m : ℕ) (site : Site) (new : Variables) → SiteFits p site m → site.cond ≡ [] → Typed (length p.types) new → SiteFits p (under site new) m
under_fits p m site new fits none typed =
    let size : m + length (site.over ++ new.kinds) ≡ (m + length site.over) + length new.kinds = omega (arith, length-append site.over new.kinds) in
    record {
      names = record {
        predicates = fits.names.predicates;
        arities = fits.names.arities;
        objects = fits.names.objects;
        variables = omega (arith, total_push site.names.variables new.names, fits.names.variables, typed.count, size);
      };
      over = all_append (λ k. nat_lt k (length p.types)) site.over new.kinds fits.over typed.below;
      cond = rw none refl;
    }

module _ (p : Parts) (m : ℕ) (types : List (List ℕ)) (size : length types ≡ length p.types) (some : 0 < length types) where
  mutual
    pub effect_sound : (site : Site) (before : List Effect) (t : Tree) → SiteFits p site m → site.cond ≡ [] → good p m before → IfOk (effect types site before t) (good p m)
    effect_sound site before (word at text) fits none h = tt
    effect_sound site before (list at no_trees) fits none h = h
    effect_sound site before (list at (and_tree head rest)) fits none h =
        elim (head_of head) as (λ k. IfOk (elim k [
          | heads.And ↦ all_effects types site before rest
          | heads.Forall ↦ quantified types site before at rest
          | _ ↦ simple site before (head_of head) at (and_tree head rest)
        ]) (good p m)) [
          | heads.And ↦ all_sound site before rest fits none h
          | heads.Forall ↦ quantified_sound site before at rest fits none h
          | _ ↦ simple_sound p m site before (head_of head) at (and_tree head rest) fits h
        ]

    all_sound : (site : Site) (before : List Effect) (ts : Trees) → SiteFits p site m → site.cond ≡ [] → good p m before → IfOk (all_effects types site before ts) (good p m)
    all_sound site before no_trees fits none h = h
    all_sound site before (and_tree t ts) fits none h =
        bind_ok (good p m) (good p m) (effect types site before t) _ (effect_sound site before t fits none h) (λ next more. all_sound site next ts fits none more)

    quantified_sound : (site : Site) (before : List Effect) (at : ℕ) (items : Trees) → SiteFits p site m → site.cond ≡ [] → good p m before → IfOk (quantified types site before at items) (good p m)
    quantified_sound site before at no_trees fits none h = tt
    quantified_sound site before at (and_tree variables rest) fits none h =
        bind_ok (Typed (length types)) (good p m) (variable_list types variables) _ (variable_list_sound types variables some)
        (λ new typed. quantified_body_sound (under site new) before at rest (under_fits p m site new fits none (subst (λ k. Typed k new) size typed)) none h)

    quantified_body_sound : (site : Site) (before : List Effect) (at : ℕ) (items : Trees) → SiteFits p site m → site.cond ≡ [] → good p m before → IfOk (quantified_body types site before at items) (good p m)
    quantified_body_sound site before at no_trees fits none h = tt
    quantified_body_sound site before at (and_tree body more) fits none h =
        bind_ok (good p m) (good p m) (effect types site before body) _ (effect_sound site before body fits none h) (λ es is. bind_any (good p m) (no_more more) _ (λ _. is))

pub total_none : total [] ≡ 0
unfolding total
total_none = refl

pub total_one : (level : List (List ℕ)) → total (level ∷ []) ≡ length level
unfolding total
total_one level = omega arith
