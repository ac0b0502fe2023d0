-- What is told before any literal is assumed, and where literals are.
use Rattle.std.proofs.Common.{arith, ◌≡◌, ◌<◌, ◌*◌, ◌+◌, ℕ, List, [], ◌∷◌, ◌++◌, length, take, Bool, true, false, ◌&&◌, refl, sym, ◌∙◌, subst, inl, inr}
use Rattle.std.specs.Prelude.{slice_index, slice_index_or, nat_lt}
use Rattle.std.specs.List.{AllByRecursion}
use Rattle.std.proofs.lemmas.List.{take_more}
use Rattle.std.proofs.lemmas.Bool.{lt-ltb, ltb-true, cases_lt}
use Rattle.gt_core.specs.Literal.{opposite, is_in}
use Rattle.gt_core.specs.Clauses.{KnownClauses, IsKnownClauses}
use Rattle.gt_core.specs.Interference.{has_clause}
use Rattle.gt_core.proofs.published.Basics.{Among, each_from, and_split, and_both, or_split, apart, test_same}
use Rattle.gt_core.proofs.published.Literals.{in_split, among_in}
use Rattle.never_defs.specs.Propagation.{IsLeft}
use Rattle.never_check.specs.Follow.{HasAll, Obeys, IsGrown, IsContradiction, ObeysAll, IsFollowed, AreUses}
use Rattle.never_check.proofs.Grown.{pair_from, front_in, left_more, grown_then, grown_by}
use Rattle.never_check.proofs.KnownLaw.{clause_below}
use Rattle.never_check.proofs.Placed.{among_place}

-- ---- the lists of numbers

pub uses_are : (facts n : ℕ) (clauses uses : List (List ℕ)) → n ≡ length clauses → length uses ≡ 2 * facts
    → ((m k : ℕ) → is_in (slice_index_or uses m []) k ≡ (nat_lt k n && is_in (slice_index_or clauses k []) m)) → AreUses (2 * facts) clauses uses
uses_are facts n clauses uses long size has = record {
  long = size;
  numbers = λ l. each_from _ (slice_index_or uses l []) (λ k i.
      let t = and_split (nat_lt k n) _ (sym (has l k) ∙ among_in (slice_index_or uses l []) k i) in
      let lt : k < n = ltb-true k n t.0 in
      omega (arith, lt, long));
  each = λ k l lt h. has l k ∙ and_both _ _ (lt-ltb k n (omega (arith, lt, long))) h;
  only = λ k l i. (and_split (nat_lt k n) _ (sym (has l k) ∙ i)).1;
}

-- ---- one element more

pub each_push : {A : Type 0} (P : A → Type 0) (xs : List A) (x : A) → AllByRecursion P xs → P x → AllByRecursion P (xs ++ x ∷ [])
each_push P [] x all one = (one, tt)
each_push P (y ∷ xs) x all one = (all.0, each_push P xs x all.1 one)

pub each_map : {A : Type 0} (P Q : A → Type 0) (xs : List A) → ((x : A) → P x → Q x) → AllByRecursion P xs → AllByRecursion Q xs
each_map P Q [] f all = tt
each_map P Q (x ∷ xs) f all = (f x all.0, each_map P Q xs f all.1)

-- ---- literals that are assumed

module _ (lits old mid : List ℕ) (i lit : ℕ) (lt : i < length lits) (at : lit ≡ slice_index lits i) (grown : IsGrown (λ set. HasAll set lits) old mid) where
  one_of : is_in lits lit ≡ true
  one_of = among_in lits lit (subst (λ (k : ℕ). Among k lits) (sym at) (among_place lits i lt))

  pub assume_clash : is_in mid (opposite lit) ≡ true → IsContradiction (λ set. HasAll set lits) old
  assume_clash clash = λ set all has none. pair_from set lit (all lit one_of) (grown.sound set all has (opposite lit) clash) none

  pub assume_grown : (new : List ℕ) → IsGrown (λ set. set lit ≡ true) mid new → IsGrown (λ set. HasAll set lits) old new
  assume_grown new g = grown_then (λ set. HasAll set lits) old mid new grown (grown_by (λ set. HasAll set lits) (λ set. set lit ≡ true) mid new (λ set all has. all lit one_of) g)

  pub assume_has : (new : List ℕ) → take (length mid) new ≡ mid → is_in new lit ≡ true → HasAll (is_in mid) (take i lits) → HasAll (is_in new) (take (i + 1) lits)
  assume_has new front here has x h = elim (in_split (take i lits) (slice_index lits i ∷ []) x (subst (λ (ls : List ℕ). is_in ls x ≡ true) (take_more lits i 0 lt) h)) [
    | inl e ↦ front_in mid new front x (has x e)
    | inr e ↦ elim (or_split _ _ e) [ inl s ↦ subst (λ (k : ℕ). is_in new k ≡ true) (at ∙ test_same _ x s) here | inr n ↦ absurd (apart _ n refl) ]
  ]

-- ---- known clauses of one literal

-- a set has each literal that is a known clause by itself
abbrev pub HasSingle : List (ℕ × ℕ) → (ℕ → Bool) → Type 0
HasSingle known set = (l : ℕ) → has_clause known l l ≡ true → set l ≡ true

module _ (known : List (ℕ × ℕ)) (old mid : List ℕ) (lit : ℕ) (single : has_clause known lit lit ≡ true) (grown : IsGrown (HasSingle known) old mid) where
  pub single_clash : is_in mid (opposite lit) ≡ true → IsContradiction (HasSingle known) old
  single_clash clash = λ set all has none. pair_from set lit (all lit single) (grown.sound set all has (opposite lit) clash) none

  pub single_grown : (new : List ℕ) → IsGrown (λ set. set lit ≡ true) mid new → IsGrown (HasSingle known) old new
  single_grown new g = grown_then (HasSingle known) old mid new grown (grown_by (HasSingle known) (λ set. set lit ≡ true) mid new (λ set all has. all lit single) g)

  pub single_told : (new : List ℕ) → take (length mid) new ≡ mid → is_in new lit ≡ true → ((m : ℕ) → m < lit → has_clause known m m ≡ true → is_in mid m ≡ true)
      → (m : ℕ) → m < lit + 1 → has_clause known m m ≡ true → is_in new m ≡ true
  single_told new front here told m lt h = elim (cases_lt m lit) [
    | inl below ↦ front_in mid new front m (told m below h)
    | inr le ↦ let same : lit ≡ m = omega arith in subst (λ (k : ℕ). is_in new k ≡ true) same here
  ]

pub not_single_told : (known : List (ℕ × ℕ)) (mid : List ℕ) (lit : ℕ) → has_clause known lit lit ≡ false → ((m : ℕ) → m < lit → has_clause known m m ≡ true → is_in mid m ≡ true)
    → (m : ℕ) → m < lit + 1 → has_clause known m m ≡ true → is_in mid m ≡ true
not_single_told known mid lit none told m lt h = elim (cases_lt m lit) [
  | inl below ↦ told m below h
  | inr le ↦ let same : lit ≡ m = omega arith in absurd (apart _ h (subst (λ (k : ℕ). has_clause known k k ≡ false) same none))
]

-- ---- clauses, each looked at

abbrev pub Told : List ℕ → List ℕ → List ℕ → Type 0
Told old new c = (l : ℕ) → IsLeft (is_in old) c l → is_in new l ≡ true

pub looked_more : (clauses : List (List ℕ)) (old mid new : List ℕ) (i : ℕ) (c : List ℕ) → i < length clauses → slice_index_or clauses i [] ≡ c → HasAll (is_in mid) old → HasAll (is_in new) mid
    → AllByRecursion (Told old mid) (take i clauses) → Told mid new c → AllByRecursion (Told old new) (take (i + 1) clauses)
looked_more clauses old mid new i c lt at more most told here =
    subst (λ (cs : List (List ℕ)). AllByRecursion (Told old new) cs) (sym (take_more clauses i [] lt))
    (each_push (Told old new) (take i clauses) (slice_index_or clauses i [])
    (each_map (Told old mid) (Told old new) (take i clauses) (λ d t l left. most l (t l left)) told)
    (subst (Told old new) (sym at) (λ l left. here l (left_more (is_in old) (is_in mid) more c l left))))

-- ---- all of it

module _ (known : KnownClauses) (lawful : IsKnownClauses known) (clauses : List (List ℕ)) (first second : List ℕ)
    (singles : IsGrown (HasSingle known.clauses) [] first × ((l : ℕ) → l < 2 * known.facts → has_clause known.clauses l l ≡ true → is_in first l ≡ true)) where
  pub begun_second : IsContradiction (λ set. AllByRecursion (Obeys set) clauses) first → IsContradiction (ObeysAll known.clauses clauses) []
  begun_second k = λ set all has. k set all.1 (singles.0.sound set all.0.single has)

  module _ (looked : IsGrown (λ set. AllByRecursion (Obeys set) clauses) first second × AllByRecursion (Told first second) clauses) where
    pub begun_followed : IsFollowed known.clauses clauses [] second
    begun_followed = record {
      single = λ l v. front_in first second looked.0.front l (singles.1 l (clause_below known lawful l l v).0 v);
      chain = λ x y i v. absurd (apart _ i refl);
      unit = each_map (Told first second) (Told [] second) clauses (λ c t l left. t l (left_more (is_in []) (is_in first) (λ x i. absurd (apart _ i refl)) c l left)) looked.1;
    }

    pub begun_grown : IsGrown (ObeysAll known.clauses clauses) [] second
    begun_grown =
        grown_then (ObeysAll known.clauses clauses) [] first second (grown_by (ObeysAll known.clauses clauses) (HasSingle known.clauses) [] first (λ set all has. all.0.single) singles.0)
        (grown_by (ObeysAll known.clauses clauses) (λ set. AllByRecursion (Obeys set) clauses) first second (λ set all has. all.1) looked.0)
