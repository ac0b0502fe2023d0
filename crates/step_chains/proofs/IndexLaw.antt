use Rattle.std.proofs.Common.{arith, ◌≡◌, ◌==◌, ◌≢◌, ℕ, zero, suc, ◌+◌, ◌*◌, ◌/◌, ◌%◌, ◌<◌, ◌≤◌, List, [], ◌∷◌, ◌++◌, length, take, drop, get_or, set, replicate, nat_lt, Bool, true, false, ◌||◌, ◌&&◌, not, if◌then◌else◌, refl, sym, ap, ◌∙◌, subst}
use Rattle.std.specs.List.{list_any, AllByRecursion}
use Rattle.std.proofs.lemmas.List.{drop_more, drop_all, take_more, append-nil, get_or-set_same, get_or-set_other}
use Rattle.std.proofs.lemmas.Bool.Decides.{nat_tests}
use Rattle.gt_core.specs.Literal.{opposite}
use Rattle.gt_core.specs.Task.{Task}
use Rattle.gt_core.proofs.published.Literals.{opposite_twice}
use Rattle.gt_core.specs.Interference.{takes, reads}
use Rattle.gt_core.specs.Published.{Pairwise}
use Rattle.bit_sets.specs.Rows.{row_has}
use Rattle.gt_core.proofs.published.Basics.{apart, same_test, test_same, same_if, or_none}
use Rattle.step_chains.specs.declared.link.Link.{Link}
use Rattle.step_chains.specs.own.Touching.{link_of, links_of, touches}
use Rattle.step_chains.specs.own.Index.{entry, IsAway, IsNew, HasEntries, Marks, IsIndexOf, AreTouched, HasNoOther}
use Rattle.std.proofs.Math.Bool.{or-false}

-- An index of links as it grows: by one mark, by the marks of one action, by one action after the other.

-- what an action adds to a list of links

abbrev link : ℕ → Bool → Bool → Link
link a t r = record { action = a; takes = t; reads = r }

pub entry_same : (a : ℕ) (t t' r r' : Bool) → t ≡ t' → r ≡ r' → entry a t r ≡ entry a t' r'
entry_same a t t' r r' e f = ap (λ (b : Bool). entry a b r) e ∙ ap (λ (b : Bool). entry a t' b) f

entry_full : (a : ℕ) (t r : Bool) → (t || r) ≡ true → entry a t r ≡ link a t r ∷ []
entry_full a t r e = ap (λ (b : Bool). if b then link a t r ∷ [] else []) e

entry_none : (a : ℕ) (t r : Bool) → (t || r) ≡ false → entry a t r ≡ []
entry_none a t r e = ap (λ (b : Bool). if b then link a t r ∷ [] else []) e

or_more : (t r u v : Bool) → (u || v) ≡ true → ((t || u) || (r || v)) ≡ true
or_more true r u v e = refl
or_more false r true v e = refl
or_more false true false v e = refl
or_more false false false v e = e

nothing : (x y z : Bool) → (x || y) ≡ false → z ≡ (x || z)
nothing true y z h = cc
nothing false y z h = refl

-- a list ends in one way

cons_same : {A : Type 0} (x y : A) (xs ys : List A) → x ∷ xs ≡ y ∷ ys → (x ≡ y) × (xs ≡ ys)
cons_same x y xs ys e = (cc, cc)

pub not_nil : {A : Type 0} (xs : List A) (x : A) → [] ≡ xs ++ x ∷ [] → ⊥
not_nil [] x e = cc
not_nil (y ∷ xs) x e = cc

ends_same : {A : Type 0} (xs ys : List A) (x y : A) → xs ++ x ∷ [] ≡ ys ++ y ∷ [] → (xs ≡ ys) × (x ≡ y)
ends_same [] [] x y e = let h = cons_same x y [] [] e in (refl, h.0)
ends_same [] (z ∷ ys) x y e = let h = cons_same x z [] (ys ++ y ∷ []) e in absurd (not_nil ys y h.1)
ends_same (z ∷ xs) [] x y e = let h = cons_same z y (xs ++ x ∷ []) [] e in absurd (not_nil xs x (sym h.1))
ends_same (z ∷ xs) (w ∷ ys) x y e =
    let h = cons_same z w (xs ++ x ∷ []) (ys ++ y ∷ []) e in
    let k = ends_same xs ys x y h.1 in
    (ap (λ (c : List _). z ∷ c) k.0 ∙ ap (λ (c : _). c ∷ ys) h.0, k.1)

last_away : (a : ℕ) (xs : List Link) (k : Link) → IsAway a (xs ++ k ∷ []) → (k.action == a) ≡ false
last_away a [] k w = w.0
last_away a (x ∷ xs) k w = last_away a xs k w.1

-- The last link is the action's own, where it has one.
module _ (a : ℕ) (takes reads : Bool) (some : (takes || reads) ≡ true) (base : List Link) (t r : Bool) (away : IsAway a base) where
  -- the action's link was the last one
  pub marked_again : (old popped new : List Link) (last : Link) → old ≡ base ++ entry a t r → old ≡ popped ++ last ∷ [] → last.action ≡ a → new ≡ popped ++ link a (last.takes || takes) (last.reads || reads) ∷ [] → new ≡ base ++ entry a (t || takes) (r || reads)
  marked_again old popped new last e p s n = by (t || r) refl
    where
      by : (b : Bool) → (t || r) ≡ b → new ≡ base ++ entry a (t || takes) (r || reads)
      by true f =
          let g = ends_same popped base last (link a t r) (sym p ∙ e ∙ ap (λ (x : List Link). base ++ x) (entry_full a t r f)) in
          n ∙ ap (λ (x : List Link). x ++ link a (last.takes || takes) (last.reads || reads) ∷ []) g.0
          ∙ ap (λ (k : Link). base ++ link a (k.takes || takes) (k.reads || reads) ∷ []) g.1
          ∙ ap (λ (x : List Link). base ++ x) (sym (entry_full a (t || takes) (r || reads) (or_more t r takes reads some)))
      by false f =
          let g : base ≡ popped ++ last ∷ [] = sym (append-nil base) ∙ ap (λ (x : List Link). base ++ x) (sym (entry_none a t r f)) ∙ sym e ∙ p in
          absurd (apart (last.action == a) (same_test last.action a s) (last_away a popped last (subst (λ (x : List Link). IsAway a x) g away)))

-- Marks, one after the other.

pub entries_same : (a : ℕ) (base index : List (List Link)) (t t' r r' : ℕ → Bool) → ((l : ℕ) → t l ≡ t' l) → ((l : ℕ) → r l ≡ r' l) → HasEntries a base t r index → HasEntries a base t' r' index
entries_same a base index t t' r r' e f h = record { long = h.long; each = λ l lt. h.each l lt ∙ ap (λ (x : List Link). get_or base l [] ++ x) (entry_same a (t l) (t' l) (r l) (r' l) (e l) (f l)) }

pub marks_same : (a : ℕ) (t t' r r' : ℕ → Bool) (old new : List (List Link)) → ((l : ℕ) → t l ≡ t' l) → ((l : ℕ) → r l ≡ r' l) → Marks a t r old new → Marks a t' r' old new
marks_same a t t' r r' old new e f h base u v n old_is =
    entries_same a base new (λ l. u l || t l) (λ l. u l || t' l) (λ l. v l || r l) (λ l. v l || r' l) (λ l. ap (λ (b : Bool). u l || b) (e l)) (λ l. ap (λ (b : Bool). v l || b) (f l)) (h base u v n old_is)

pub marks_none : (a : ℕ) (t r : ℕ → Bool) (old : List (List Link)) → ((l : ℕ) → t l ≡ false) → ((l : ℕ) → r l ≡ false) → Marks a t r old old
marks_none a t r old e f base u v n old_is =
    entries_same a base old u (λ l. u l || t l) v (λ l. v l || r l) (λ l. sym (or-false (u l)) ∙ ap (λ (b : Bool). u l || b) (sym (e l))) (λ l. sym (or-false (v l)) ∙ ap (λ (b : Bool). v l || b) (sym (f l))) old_is

or_twice : (a b c : Bool) → ((a || b) || c) ≡ (a || (b || c))
or_twice true b c = refl
or_twice false b c = refl

pub marks_then : (a : ℕ) (t t' r r' : ℕ → Bool) (x y z : List (List Link)) → Marks a t r x y → Marks a t' r' y z → Marks a (λ l. t l || t' l) (λ l. r l || r' l) x z
marks_then a t t' r r' x y z one two base u v n old_is =
    entries_same a base z (λ l. (u l || t l) || t' l) (λ l. u l || (t l || t' l)) (λ l. (v l || r l) || r' l) (λ l. v l || (r l || r' l)) (λ l. or_twice (u l) (t l) (t' l)) (λ l. or_twice (v l) (r l) (r' l))
    (two base (λ l. u l || t l) (λ l. v l || r l) n (one base u v n old_is))

some_next : {X : Type 0} (p : X → ℕ → Bool) (xs : List X) (i : ℕ) (d x : X) (l : ℕ) → i < length xs → x ≡ get_or xs i d → (p x l || list_any (λ y. p y l) (drop (i + 1) xs)) ≡ list_any (λ y. p y l) (drop i xs)
some_next p xs i d x l lt is = ap (λ y. p y l || list_any (λ y. p y l) (drop (i + 1) xs)) is ∙ ap (list_any (λ y. p y l)) (sym (drop_more xs i d lt))

-- the marks of a list's elements, one after the other
pub takes_next : {X : Type 0} (a : ℕ) (p : X → ℕ → Bool) (xs : List X) (i : ℕ) (d x : X) (old mid new : List (List Link)) → i < length xs → x ≡ get_or xs i d → Marks a (p x) (λ l. false) old mid → Marks a (λ l. list_any (λ y. p y l) (drop (i + 1) xs)) (λ l. false) mid new → Marks a (λ l. list_any (λ y. p y l) (drop i xs)) (λ l. false) old new
takes_next a p xs i d x old mid new lt is one rest =
    marks_same a (λ l. p x l || list_any (λ y. p y l) (drop (i + 1) xs)) (λ l. list_any (λ y. p y l) (drop i xs)) (λ l. false) (λ l. false) old new
    (λ l. some_next p xs i d x l lt is) (λ l. refl)
    (marks_then a (p x) (λ l. list_any (λ y. p y l) (drop (i + 1) xs)) (λ l. false) (λ l. false) old mid new one rest)

pub reads_next : {X : Type 0} (a : ℕ) (p : X → ℕ → Bool) (xs : List X) (i : ℕ) (d x : X) (old mid new : List (List Link)) → i < length xs → x ≡ get_or xs i d → Marks a (λ l. false) (p x) old mid → Marks a (λ l. false) (λ l. list_any (λ y. p y l) (drop (i + 1) xs)) mid new → Marks a (λ l. false) (λ l. list_any (λ y. p y l) (drop i xs)) old new
reads_next a p xs i d x old mid new lt is one rest =
    marks_same a (λ l. false) (λ l. false) (λ l. p x l || list_any (λ y. p y l) (drop (i + 1) xs)) (λ l. list_any (λ y. p y l) (drop i xs)) old new
    (λ l. refl) (λ l. some_next p xs i d x l lt is)
    (marks_then a (λ l. false) (λ l. false) (p x) (λ l. list_any (λ y. p y l) (drop (i + 1) xs)) old mid new one rest)

pub none_left : {X : Type 0} (p : X → Bool) (xs : List X) (i : ℕ) → length xs ≤ i → list_any p (drop i xs) ≡ false
none_left p xs i le = ap (list_any p) (drop_all i xs le)

-- an effect takes the opposite of its literal
pub opposite_is : (l m : ℕ) → (opposite l == m) ≡ (l == opposite m)
opposite_is l m = same_if _ _ (λ e. same_test _ _ (sym (opposite_twice l) ∙ ap opposite (test_same _ _ e))) (λ e. same_test _ _ (ap opposite (test_same _ _ e) ∙ opposite_twice m))

-- one mark: the list of the literal changes
pub marks_one :
    (a lit : ℕ) (takes reads : Bool) (old new : List (List Link)) (row : List Link)
    → ((base : List Link) (t r : Bool) → IsAway a base → get_or old lit [] ≡ base ++ entry a t r → row ≡ base ++ entry a (t || takes) (r || reads))
    → lit < length old → new ≡ set old lit row → length new ≡ length old
    → Marks a (λ l. if lit == l then takes else false) (λ l. if lit == l then reads else false) old new
marks_one a lit takes reads old new row h lt n long base u v is old_is = record {
  long = long ∙ old_is.long;
  each = λ l below. by l below (lit == l) refl;
}
  where
    by : (l : ℕ) → l < length base → (b : Bool) → (lit == l) ≡ b → get_or new l [] ≡ get_or base l [] ++ entry a (u l || (if b then takes else false)) (v l || (if b then reads else false))
    by l below true e =
        let s : lit ≡ l = test_same lit l e in
        ap (λ (xs : List (List Link)). get_or xs l []) n
        ∙ ap (λ (i : ℕ). get_or (set old lit row) i []) (sym s)
        ∙ get_or-set_same old lit row [] lt
        ∙ h (get_or base l []) (u l) (v l) (is l below) (ap (λ (i : ℕ). get_or old i []) s ∙ old_is.each l below)
    by l below false e =
        let other : l ≢ lit = λ q. apart (lit == l) (same_test lit l (sym q)) e in
        ap (λ (xs : List (List Link)). get_or xs l []) n
        ∙ get_or-set_other old lit l row [] other
        ∙ old_is.each l below
        ∙ ap (λ (x : List Link). get_or base l [] ++ x) (entry_same a (u l) (u l || false) (v l) (v l || false) (sym (or-false (u l))) (sym (or-false (v l))))

pub if_it : (b : Bool) → (if b then true else false) ≡ b
if_it true = refl
if_it false = refl

pub if_not : (b : Bool) → (if b then false else false) ≡ false
if_not true = refl
if_not false = refl

-- both literals of a fact
pub fact_is : (fact l : ℕ) → ((2 * fact == l) || (2 * fact + 1 == l)) ≡ (fact == l / 2)
fact_is fact l = same_if _ _ there back
  where
    there : ((2 * fact == l) || (2 * fact + 1 == l)) ≡ true → (fact == l / 2) ≡ true
    there e = by (2 * fact == l) refl e
      where
        by : (b : Bool) → (2 * fact == l) ≡ b → (b || (2 * fact + 1 == l)) ≡ true → (fact == l / 2) ≡ true
        by true f g = let s = test_same (2 * fact) l f in same_test fact (l / 2) (omega (arith, s))
        by false f g = let s = test_same (2 * fact + 1) l g in same_test fact (l / 2) (omega (arith, s))

    back : (fact == l / 2) ≡ true → ((2 * fact == l) || (2 * fact + 1 == l)) ≡ true
    back e = by (2 * fact == l) refl
      where
        s : fact ≡ l / 2
        s = test_same fact (l / 2) e

        by : (b : Bool) → (2 * fact == l) ≡ b → (b || (2 * fact + 1 == l)) ≡ true
        by true f = refl
        by false f =
            let ne : 2 * fact ≡ l → ⊥ = λ q. apart (2 * fact == l) (same_test (2 * fact) l q) f in
            same_test (2 * fact + 1) l (odd ne)
          where
            odd : (2 * fact ≡ l → ⊥) → 2 * fact + 1 ≡ l
            odd ne = by_rest (l % 2 == 0) refl
              where
                by_rest : (b : Bool) → (l % 2 == 0) ≡ b → 2 * fact + 1 ≡ l
                by_rest true g = let z = test_same (l % 2) 0 g in absurd (ne (omega (arith, s, z)))
                by_rest false g = let z : l % 2 ≡ 1 = grind (arith, nat_tests) in omega (arith, s, z)

-- one action after the other

pub links_more : (task : Task) (m : ℕ) (xs : List ℕ) (a : ℕ) → links_of task m (xs ++ a ∷ []) ≡ links_of task m xs ++ entry a (takes task m a) (reads task m a)
links_more task m [] a = refl
links_more task m (x ∷ xs) a = by (touches (link_of task m x)) (links_more task m xs a)
  where
    by : (b : Bool) → links_of task m (xs ++ a ∷ []) ≡ links_of task m xs ++ entry a (takes task m a) (reads task m a) → (if b then link_of task m x ∷ links_of task m (xs ++ a ∷ []) else links_of task m (xs ++ a ∷ [])) ≡ (if b then link_of task m x ∷ links_of task m xs else links_of task m xs) ++ entry a (takes task m a) (reads task m a)
    by true h = ap (λ (ks : List Link). link_of task m x ∷ ks) h
    by false h = h

links_away : (task : Task) (m : ℕ) (xs : List ℕ) (a : ℕ) → AllByRecursion (λ x. (x == a) ≡ false) xs → IsAway a (links_of task m xs)
links_away task m [] a h = tt
links_away task m (x ∷ xs) a h = by (touches (link_of task m x)) (links_away task m xs a h.1)
  where
    by : (b : Bool) → IsAway a (links_of task m xs) → IsAway a (if b then link_of task m x ∷ links_of task m xs else links_of task m xs)
    by true w = (h.0, w)
    by false w = w

pub before_apart : (xs : List ℕ) (i d : ℕ) → Pairwise (λ a b. (a == b) ≡ false) xs → i < length xs → AllByRecursion (λ x. (x == get_or xs i d) ≡ false) (take i xs)
before_apart [] i d p lt = absurd (omega arith)
before_apart (x ∷ xs) zero d p lt = tt
before_apart (x ∷ xs) (suc i) d p lt = (each xs i p.0 (omega (arith, lt)), before_apart xs i d p.1 (omega (arith, lt)))
  where
    each : (ys : List ℕ) (j : ℕ) → AllByRecursion (λ b. (x == b) ≡ false) ys → j < length ys → (x == get_or ys j d) ≡ false
    each [] j h l = absurd (omega arith)
    each (y ∷ ys) zero h l = h.0
    each (y ∷ ys) (suc j) h l = each ys j h.1 (omega (arith, l))

pub index_more :
    (task : Task) (members : List ℕ) (i d a : ℕ) (old new : List (List Link)) → Pairwise (λ a b. (a == b) ≡ false) members
    → i < length members → a ≡ get_or members i d → IsIndexOf task (take i members) old
    → Marks a (λ l. takes task l a) (λ l. reads task l a) old new → IsIndexOf task (take (i + 1) members) new
index_more task members i d a old new p lt is old_is marks =
    let new_is = marks old (λ l. false) (λ l. false) away same in
    record {
      long = new_is.long ∙ old_is.long;
      each = λ l below.
          new_is.each l (subst (λ (n : ℕ). l < n) (sym old_is.long) below)
          ∙ ap (λ (x : List Link). x ++ entry a (takes task l a) (reads task l a)) (old_is.each l below)
          ∙ sym (links_more task l (take i members) a)
          ∙ ap (links_of task l) (ap (λ (x : ℕ). take i members ++ x ∷ []) is ∙ sym (take_more members i d lt));
    }
  where
    away : IsNew a old
    away l below =
        subst (λ (x : List Link). IsAway a x) (sym (old_is.each l (subst (λ (n : ℕ). l < n) old_is.long below)))
        (links_away task l (take i members) a (subst (λ (x : ℕ). AllByRecursion (λ y. (y == x) ≡ false) (take i members)) (sym is) (before_apart members i d p lt)))

    same : HasEntries a old (λ l. false) (λ l. false) old
    same = record { long = refl; each = λ l below. sym (append-nil (get_or old l [])) }

pub empty_index : (task : Task) (xs : List ℕ) (index : List (List Link)) → xs ≡ [] → length index ≡ 2 * task.facts → AllByRecursion (λ links. links ≡ []) index → IsIndexOf task xs index
empty_index task xs index e long none = record { long = long; each = λ l below. at index l none ∙ ap (links_of task l) (sym e) }
  where
    at : (ys : List (List Link)) (l : ℕ) → AllByRecursion (λ links. links ≡ []) ys → get_or ys l [] ≡ []
    at [] l h = refl
    at (y ∷ ys) zero h = h.0
    at (y ∷ ys) (suc l) h = at ys l h.1

pub all_empty : (xs : List (List Link)) (n : ℕ) → length xs ≤ n → ((k : ℕ) → k < n → get_or xs k [] ≡ []) → AllByRecursion (λ links. links ≡ []) xs
all_empty [] n le h = tt
all_empty (x ∷ xs) zero le h = absurd (omega (arith, le))
all_empty (x ∷ xs) (suc n) le h = (h zero (omega arith), all_empty xs n (omega (arith, le)) (λ k lt. h (suc k) (omega (arith, lt))))

-- an element that is there, whatever is taken past the end
pub same_item : {A : Type 0} (xs : List A) (i : ℕ) (d e : A) → i < length xs → get_or xs i d ≡ get_or xs i e
same_item [] i d e lt = absurd (omega (arith, lt))
same_item (x ∷ xs) zero d e lt = refl
same_item (x ∷ xs) (suc i) d e lt = same_item xs i d e (omega (arith, lt))

-- one more list is empty
pub empty_next : (xs : List (List Link)) (i : ℕ) (row : List Link) → i < length xs → row ≡ [] → ((k : ℕ) → k < i → get_or xs k [] ≡ []) → (k : ℕ) → k < i + 1 → get_or (set xs i row) k [] ≡ []
empty_next xs i row lt e h k below = by (k == i) refl
  where
    by : (b : Bool) → (k == i) ≡ b → get_or (set xs i row) k [] ≡ []
    by true t = ap (λ (j : ℕ). get_or (set xs i row) j []) (test_same k i t) ∙ get_or-set_same xs i row [] lt ∙ e
    by false t =
        let other : k ≢ i = λ q. apart (k == i) (same_test k i q) t in
        get_or-set_other xs i k row [] other ∙ h k (let lt2 : k < i = grind (arith, other, below) in lt2)

-- Rows of the literals that are touched.

pub touched_same : (touched touched2 : List ℕ) (lists : List (List Link)) → ((k : ℕ) → row_has touched2 k ≡ row_has touched k) → AreTouched touched lists → AreTouched touched2 lists
touched_same touched touched2 lists same h k t = h k (sym (same k) ∙ t)

set_empty : (lists : List (List Link)) (i : ℕ) (row : List Link) (k : ℕ) → (k ≡ i → get_or (set lists i row) i [] ≡ []) → get_or lists k [] ≡ [] → get_or (set lists i row) k [] ≡ []
set_empty lists i row k here h = by (k == i) refl
  where
    by : (b : Bool) → (k == i) ≡ b → get_or (set lists i row) k [] ≡ []
    by true t = let s = test_same k i t in ap (λ (j : ℕ). get_or (set lists i row) j []) s ∙ here s
    by false t = get_or-set_other lists i k row [] (λ q. apart (k == i) (same_test k i q) t) ∙ h

-- a literal's list was changed, and the literal is touched
pub touched_more : (touched touched2 : List ℕ) (lists : List (List Link)) (i : ℕ) (row : List Link) → i < length lists → ((k : ℕ) → row_has touched2 k ≡ ((i == k) || row_has touched k)) → AreTouched touched lists → AreTouched touched2 (set lists i row)
touched_more touched touched2 lists i row lt has h k t =
    let n = or_none (i == k) (row_has touched k) (sym (has k) ∙ t) in
    set_empty lists i row k (λ q. absurd (apart (i == k) (same_test i k (sym q)) n.0)) (h k n.1)

-- a list was made empty
pub still_touched : (touched : List ℕ) (lists : List (List Link)) (i : ℕ) (row : List Link) → row ≡ [] → i < length lists → AreTouched touched lists → AreTouched touched (set lists i row)
still_touched touched lists i row e lt h k t = set_empty lists i row k (λ q. get_or-set_same lists i row [] lt ∙ e) (h k t)

pub below_next : (touched : List ℕ) (lists : List (List Link)) (i n : ℕ) (row : List Link) → row ≡ [] → i < length lists → AreTouched touched lists → ((k : ℕ) → k < i → get_or lists k [] ≡ []) → ((k : ℕ) → i + 1 ≤ k → k < n → row_has touched k ≡ false) → (k : ℕ) → k < n → get_or (set lists i row) k [] ≡ []
below_next touched lists i n row e lt h below none k less = by (nat_lt k (i + 1)) refl
  where
    by : (b : Bool) → nat_lt k (i + 1) ≡ b → get_or (set lists i row) k [] ≡ []
    by true t = empty_next lists i row lt e below k (let q : k < i + 1 = grind (arith, nat_tests) in q)
    by false t = still_touched touched lists i row e lt h k (none k (let q : i + 1 ≤ k = grind (arith, nat_tests) in q) less)

past_end : (xs : List (List Link)) (k : ℕ) → length xs ≤ k → get_or xs k [] ≡ []
past_end [] k le = refl
past_end (x ∷ xs) zero le = absurd (omega (arith, le))
past_end (x ∷ xs) (suc k) le = past_end xs k (omega (arith, le))

pub none_anywhere : (xs : List (List Link)) (n : ℕ) → length xs ≤ n → ((k : ℕ) → k < n → get_or xs k [] ≡ []) → (k : ℕ) → get_or xs k [] ≡ []
none_anywhere xs n le below k = by (nat_lt k n) refl
  where
    by : (b : Bool) → nat_lt k n ≡ b → get_or xs k [] ≡ []
    by true t = below k (let q : k < n = grind (arith, nat_tests) in q)
    by false t = past_end xs k (let q : n ≤ k = grind (arith, nat_tests) in omega (arith, q, le))

abbrev no_links : List Link
no_links = []

nothing_at : (m j : ℕ) → get_or (replicate m no_links) j no_links ≡ no_links
nothing_at zero j = refl
nothing_at (suc m) zero = refl
nothing_at (suc m) (suc j) = nothing_at m j

-- lists of which all are empty
pub none_touched : (touched : List ℕ) (n : ℕ) (lists : List (List Link)) → lists ≡ replicate n [] → AreTouched touched lists
none_touched touched n lists e k t = ap (λ (xs : List (List Link)). get_or xs k []) e ∙ nothing_at n k

-- Rows that have no other literal.

pub other_same : (touched touched2 : List ℕ) (lists : List (List Link)) → ((k : ℕ) → row_has touched2 k ≡ row_has touched k) → HasNoOther touched lists → HasNoOther touched2 lists
other_same touched touched2 lists same h k t = h k (sym (same k) ∙ t)

-- no literal at all
pub no_other : (touched : List ℕ) (lists : List (List Link)) → ((k : ℕ) → row_has touched k ≡ false) → HasNoOther touched lists
no_other touched lists none k t = absurd (apart (row_has touched k) t (none k))

-- another literal's list stays
stays_there : (lists : List (List Link)) (i k : ℕ) (row : List Link) → (i == k) ≡ false → get_or (set lists i row) k [] ≡ get_or lists k []
stays_there lists i k row e = get_or-set_other lists i k row [] (λ q. apart (i == k) (same_test i k (sym q)) e)

-- the literal's list is not empty
pub other_more : (touched touched2 : List ℕ) (lists : List (List Link)) (i : ℕ) (row : List Link) → i < length lists → ((k : ℕ) → row_has touched2 k ≡ ((i == k) || row_has touched k)) → row ≢ [] → HasNoOther touched lists → HasNoOther touched2 (set lists i row)
other_more touched touched2 lists i row lt has some h k t none = by (i == k) refl
  where
    by : (b : Bool) → (i == k) ≡ b → ⊥
    by true e = some (sym (get_or-set_same lists i row [] lt) ∙ ap (λ (j : ℕ). get_or (set lists i row) j []) (test_same i k e) ∙ none)
    by false e = h k (sym (ap (λ (b : Bool). b || row_has touched k) e) ∙ sym (has k) ∙ t) (sym (stays_there lists i k row e) ∙ none)

in_and_out : (b x : Bool) → (not b && (b || x)) ≡ (not b && x)
in_and_out true x = refl
in_and_out false x = refl

-- the literal was put in and taken out again
pub taken_out : (touched touched2 touched3 : List ℕ) (i : ℕ) → ((k : ℕ) → row_has touched2 k ≡ ((i == k) || row_has touched k)) → ((k : ℕ) → row_has touched3 k ≡ (not (i == k) && row_has touched2 k)) → (k : ℕ) → row_has touched3 k ≡ (not (i == k) && row_has touched k)
taken_out touched touched2 touched3 i has out k = out k ∙ ap (λ (b : Bool). not (i == k) && b) (has k) ∙ in_and_out (i == k) (row_has touched k)

-- the literal is not in the row, and its list is empty
pub touched_less : (touched touched3 : List ℕ) (lists : List (List Link)) (i : ℕ) (row : List Link) → i < length lists → ((k : ℕ) → row_has touched3 k ≡ (not (i == k) && row_has touched k)) → row ≡ [] → AreTouched touched lists → AreTouched touched3 (set lists i row)
touched_less touched touched3 lists i row lt has e h k t = by (i == k) refl
  where
    by : (b : Bool) → (i == k) ≡ b → get_or (set lists i row) k [] ≡ []
    by true f = ap (λ (j : ℕ). get_or (set lists i row) j []) (sym (test_same i k f)) ∙ get_or-set_same lists i row [] lt ∙ e
    by false f = stays_there lists i k row f ∙ h k (sym (ap (λ (b : Bool). not b && row_has touched k) f) ∙ sym (has k) ∙ t)

pub other_less : (touched touched3 : List ℕ) (lists : List (List Link)) (i : ℕ) (row : List Link) → ((k : ℕ) → row_has touched3 k ≡ (not (i == k) && row_has touched k)) → HasNoOther touched lists → HasNoOther touched3 (set lists i row)
other_less touched touched3 lists i row has h k t none = by (i == k) refl
  where
    by : (b : Bool) → (i == k) ≡ b → ⊥
    by true f = absurd (apart (row_has touched3 k) t (has k ∙ ap (λ (b : Bool). not b && row_has touched k) f))
    by false f = h k (sym (ap (λ (b : Bool). not b && row_has touched k) f) ∙ sym (has k) ∙ t) (sym (stays_there lists i k row f) ∙ none)

-- the literal was put in, its list was left as this row is, and the literal was taken out again where that is empty
module _ (touched touched2 touched3 : List ℕ) (lists : List (List Link)) (i : ℕ) (lt : i < length lists) (has : (k : ℕ) → row_has touched2 k ≡ ((i == k) || row_has touched k))
    (old : AreTouched touched lists) (no_more : HasNoOther touched lists) where
  pub left_as : (row : List Link) → (row ≢ [] → (k : ℕ) → row_has touched3 k ≡ row_has touched2 k) → (row ≡ [] → (k : ℕ) → row_has touched3 k ≡ (not (i == k) && row_has touched2 k))
      → AreTouched touched3 (set lists i row) × HasNoOther touched3 (set lists i row)
  left_as [] stays goes =
      let out = taken_out touched touched2 touched3 i has (goes refl) in
      (touched_less touched touched3 lists i [] lt out refl old, other_less touched touched3 lists i [] out no_more)
  left_as (x ∷ xs) stays goes =
      let some : x ∷ xs ≢ [] = λ e. cc in
      let same = stays some in
      (touched_same touched2 touched3 (set lists i (x ∷ xs)) same (touched_more touched touched2 lists i (x ∷ xs) lt has old), other_same touched2 touched3 (set lists i (x ∷ xs)) same (other_more touched touched2 lists i (x ∷ xs) lt has some no_more))
