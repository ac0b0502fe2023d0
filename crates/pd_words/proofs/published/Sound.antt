-- What holds of all that reading gives: step by step, through typed lists.
use Rattle.std.proofs.Common.{◌≡◌, ℕ, ◌==◌, Bool, true, false, cond, List, [], ◌∷◌, ◌++◌, length, Option, Some, None, Result, Ok, Err, refl, subst}
use Rattle.std.proofs.lemmas.Bool.{and_parts}
use Rattle.std.specs.Prelude.{IfOk, not}
use Rattle.pd_sexp.specs.Tree.{Tree, word, list, Trees, no_trees, and_tree}
use Rattle.pd_sexp.specs.Word.{has_words, have_words}
use Rattle.pd_words.specs.declared.fault.Fault.{Fault}
use Rattle.pd_words.specs.declared.fault.Fault.TheVariants.{Shape}
use Rattle.pd_words.specs.declared.named.Named.{Named}
use Rattle.pd_words.specs.Words.{is_dash}
use Rattle.pd_words.specs.Typed.{named, typed_from, type_next}
use Rattle.pd_words.specs.First.{◌>>=◌, found, wants}

-- what holds of the first step's value is handed to the next ones
pub bind_ok : {A B F : Type 0} (P : A → Type 0) (Q : B → Type 0) (read : Result A F) (next : A → Result B F) → IfOk read P → ((x : A) → P x → IfOk (next x) Q) → IfOk (read >>= next) Q
bind_ok P Q (Ok x) next h more = more x h
bind_ok P Q (Err e) next h more = tt

-- after a test that passed
pub wants_ok : {B F : Type 0} (Q : B → Type 0) (test : Bool) (fault : F) (next : Unit {0} → Result B F) → (test ≡ true → IfOk (next tt) Q) → IfOk (wants test fault >>= next) Q
wants_ok Q true fault next more = more refl
wants_ok Q false fault next more = tt

-- both branches
pub if_ok : {B F : Type 0} (Q : B → Type 0) (test : Bool) (x y : Result B F) → (test ≡ true → IfOk x Q) → (test ≡ false → IfOk y Q) → IfOk (cond test x y) Q
if_ok Q true x y then_ok else_ok = then_ok refl
if_ok Q false x y then_ok else_ok = else_ok refl

-- a value that is there
pub found_ok : {A B F : Type 0} (Q : B → Type 0) (fault : F) (option : Option A) (next : A → Result B F) → ((x : A) → option ≡ Some x → IfOk (next x) Q) → IfOk (found fault option >>= next) Q
found_ok Q fault None next more = tt
found_ok Q fault (Some x) next more = more x refl

pub ok_is : {A F : Type 0} (P : A → Type 0) (read : Result A F) (x : A) → read ≡ Ok x → IfOk read P → P x
ok_is P (Ok y) x is h = let same : y ≡ x = cc in subst P same h
ok_is P (Err e) x is h = absurd cc

-- What words and types keep holds of the whole typed list, where something is known of its items: `One` of each,
-- and `All` of those that are left.
module _ {S K : Type 0} (admit : S → Named → Result S Fault) (kind_of : Tree → Result K Fault) (give : S → K → List Named → Result S Fault) (object : K)
    (One : Tree → Type 0) (All : Trees → Type 0) (first : (t : Tree) (ts : Trees) → All (and_tree t ts) → One t) (others : (t : Tree) (ts : Trees) → All (and_tree t ts) → All ts)
    (P : S → List Named → Type 0)
    (admits : (s : S) (waiting : List Named) (w : Named) → One (word w.at w.name) → P s waiting → IfOk (admit s w) (λ next. P next (waiting ++ w ∷ [])))
    (Q : K → Type 0) (kinds : (t : Tree) → One t → IfOk (kind_of t) Q) (object_is : Q object)
    (gives : (s : S) (waiting : List Named) (kind : K) → Q kind → P s waiting → IfOk (give s kind waiting) (λ next. P next [])) where
  mutual
    pub typed_keeps : (s : S) (waiting : List Named) (items : Trees) → All items → P s waiting → IfOk (typed_from admit kind_of give object s waiting items) (λ r. P r [])
    typed_keeps s waiting no_trees all h = gives s waiting object object_is h
    typed_keeps s waiting (and_tree (list at items) rest) all h = tt
    typed_keeps s waiting (and_tree (word at text) rest) all h =
        if_ok (λ r. P r []) (is_dash text) (type_next admit kind_of give object s waiting at rest) (admit s (named at text) >>= λ next. typed_from admit kind_of give object next (waiting ++ named at text ∷ []) rest)
        (λ _. next_keeps s waiting at rest (others (word at text) rest all) h)
        (λ _. bind_ok (λ next. P next (waiting ++ named at text ∷ [])) (λ r. P r []) (admit s (named at text)) (λ next. typed_from admit kind_of give object next (waiting ++ named at text ∷ []) rest)
        (admits s waiting (named at text) (first (word at text) rest all) h) (λ next more. typed_keeps next (waiting ++ named at text ∷ []) rest (others (word at text) rest all) more))

    next_keeps : (s : S) (waiting : List Named) (at : ℕ) (items : Trees) → All items → P s waiting → IfOk (type_next admit kind_of give object s waiting at items) (λ r. P r [])
    next_keeps s waiting at no_trees all h = tt
    next_keeps s waiting at (and_tree type rest) all h =
        wants_ok (λ r. P r []) (not (length waiting == 0)) (Shape at) (λ _. kind_of type >>= λ kind. give s kind waiting >>= λ next. typed_from admit kind_of give object next [] rest)
        (λ _. bind_ok Q (λ r. P r []) (kind_of type) (λ kind. give s kind waiting >>= λ next. typed_from admit kind_of give object next [] rest) (kinds type (first type rest all))
        (λ kind is. bind_ok (λ next. P next []) (λ r. P r []) (give s kind waiting) (λ next. typed_from admit kind_of give object next [] rest)
        (gives s waiting kind is h) (λ next more. typed_keeps next [] rest (others type rest all) more)))

-- of each item nothing has to be known
abbrev pub any_tree : Tree → Type 0
any_tree t = Unit {0}

abbrev pub any_trees : Trees → Type 0
any_trees ts = Unit {0}

-- ---- trees of words

abbrev pub OfWords : Tree → Type 0
OfWords t = has_words t ≡ true

abbrev pub AllOfWords : Trees → Type 0
AllOfWords ts = have_words ts ≡ true

pub first_words : (t : Tree) (ts : Trees) → AllOfWords (and_tree t ts) → OfWords t
first_words t ts all = (and_parts (has_words t) (have_words ts) all).0

pub other_words : (t : Tree) (ts : Trees) → AllOfWords (and_tree t ts) → AllOfWords ts
other_words t ts all = (and_parts (has_words t) (have_words ts) all).1
