-- A map that numbers names, after a name is added.
use Rattle.std.proofs.Common.{◌≡◌, ℕ, Bool, true, false, cond, List, [], ◌∷◌, ◌++◌, length, Option, Some, None, refl, ap, ◌∙◌, sym}
use Rattle.std.specs.Ordering.{nat_cmp, is_eq, match_ordering}
use Rattle.std.specs.declared.cmp.Ordering.{Ordering}
use Rattle.std.specs.declared.cmp.Ordering.TheVariants.{Less, Equal, Greater}
use Rattle.std.proofs.lemmas.Slice.Eq.{bytes_eq-Decides}
use Rattle.std.specs.Cmp.Lexicographic.{slice_cmp}
use Rattle.std.specs.Str.{bytes_eq}
use Rattle.std.specs.Map.{lookup}
use Rattle.std.specs.BTreeMap.{insert_entry, is_at}
use Rattle.std.proofs.lemmas.Map.Text.{is_eq-slice_cmp}
use Rattle.pd_words.specs.Names.{number_of, or_else}
use Rattle.pd_words.proofs.published.NameLemmas.{number_push}

swap : {X : Type 0} (bk be : Bool) (v w : X) (later : Option X) → (bk ≡ true → cond be (Some w) later ≡ None)
    → cond be (Some w) (cond bk (Some v) later) ≡ cond bk (Some v) (cond be (Some w) later)
swap true true v w later none = absurd (let e = none refl in cc)
swap true false v w later none = refl
swap false be v w later none = refl

later_none : {X : Type 0} (be : Bool) (w : X) (later : Option X) → cond be (Some w) later ≡ None → later ≡ None
later_none true w later e = absurd cc
later_none false w later e = e

insert_at : {K X : Type 0} (R : K → K → Ordering) (test : K → Bool) (e : K × X) (es : List (K × X)) (k : K) (v : X)
    → lookup (is_at (R k)) (e ∷ es) ≡ None → (test k ≡ true → lookup test (e ∷ es) ≡ None) → (o : Ordering) → R k e.0 ≡ o
    → (lookup (is_at (R k)) es ≡ None → (test k ≡ true → lookup test es ≡ None) → lookup test (insert_entry R es k v) ≡ cond (test k) (Some v) (lookup test es))
    → lookup test (match_ordering o ((k, v) ∷ e ∷ es) ((e.0, v) ∷ es) (e ∷ insert_entry R es k v)) ≡ cond (test k) (Some v) (lookup test (e ∷ es))
insert_at R test e es k v fresh none Less is later = refl
insert_at R test e es k v fresh none Equal is later = absurd (let found : lookup (is_at (R k)) (e ∷ es) ≡ Some e.1 = rw is refl in let both = sym found ∙ fresh in cc)
insert_at R test e es k v fresh none Greater is later =
    let rest = later (later_none (is_eq (R k e.0)) e.1 (lookup (is_at (R k)) es) fresh) (λ t. later_none (test e.0) e.1 (lookup test es) (none t)) in
    rw rest (swap (test k) (test e.0) v e.1 (lookup test es) none)

-- a new key is found where the test finds it, and the others as before
pub lookup_insert : {K X : Type 0} (R : K → K → Ordering) (test : K → Bool) (es : List (K × X)) (k : K) (v : X)
    → lookup (is_at (R k)) es ≡ None → (test k ≡ true → lookup test es ≡ None) → lookup test (insert_entry R es k v) ≡ cond (test k) (Some v) (lookup test es)
lookup_insert R test [] k v fresh none = refl
lookup_insert R test (e ∷ es) k v fresh none = insert_at R test e es k v fresh none (R k e.0) refl (lookup_insert R test es k v)

either_way : (b : Bool) (found : Option ℕ) (n : ℕ) → (b ≡ true → found ≡ None) → cond b (Some n) found ≡ or_else found (cond b (Some n) None)
either_way true None n h = refl
either_way true (Some k) n h = absurd (let e = h refl in cc)
either_way false None n h = refl
either_way false (Some k) n h = refl

-- the numbers stand for the names, by the bytes of their keys
pub numbered : {K : Type 0} (letters : K → List ℕ) (es : List (K × ℕ)) (names : List (List ℕ)) (k : K)
    → ((name : List ℕ) → lookup (λ key. is_eq (slice_cmp nat_cmp name (letters key))) es ≡ number_of name names) → number_of (letters k) names ≡ None
    → (name : List ℕ) → lookup (λ key. is_eq (slice_cmp nat_cmp name (letters key))) (insert_entry (λ a b. slice_cmp nat_cmp (letters a) (letters b)) es k (length names)) ≡ number_of name (names ++ letters k ∷ [])
numbered letters es names k tied fresh name =
    let none : bytes_eq name (letters k) ≡ true → number_of name names ≡ None = λ t. ap (λ n. number_of n names) ((bytes_eq-Decides name (letters k)).0 t) ∙ fresh in
    let met = lookup_insert (λ a b. slice_cmp nat_cmp (letters a) (letters b)) (λ key. is_eq (slice_cmp nat_cmp name (letters key))) es k (length names) (tied (letters k) ∙ fresh)
    (λ t. tied name ∙ none (sym (is_eq-slice_cmp name (letters k)) ∙ t)) in
    met ∙ rw (is_eq-slice_cmp name (letters k), tied name, number_push name names (letters k)) (either_way (bytes_eq name (letters k)) (number_of name names) (length names) none)
