use Rattle.std.proofs.Common.{arith, ◌≡◌, ◌==◌, ℕ, zero, suc, ◌+◌, ◌*◌, ◌<◌, ◌≤◌, List, [], ◌∷◌, ◌++◌, length, get_or, set, drop, Bool, true, false, not, ◌&&◌, ◌||◌, refl, ap, sym, ◌∙◌, ◌⊎◌, inl, inr, subst, Some, None, Option}
use Rattle.std.specs.Prelude.{nat_lt, is_some}
use Rattle.std.specs.List.{list_any, AllByRecursion}
use Rattle.std.proofs.lemmas.Bool.{cases_lt, lt-ltb as lt_test, le-ltb as ge_test}
use Rattle.bit_sets.specs.Rows.{row_has, IsLeastFrom}
use Rattle.gt_core.specs.Literal.{opposite}
use Rattle.gt_core.specs.Task.{Effect}
use Rattle.gt_core.proofs.published.Basics.{or_split, or_left, or_right, not_true, same_test, test_same}
use Rattle.implied_literals.specs.Tested.{EffectFits}
use Rattle.two_invariants.specs.own.Groups.{effect_with, group_with, GroupFits}
use Rattle.two_invariants.specs.declared.groups.Group.{Group}
use Rattle.two_invariants.proofs.Steps.{any_rest, opposite_test}
use Rattle.implied_literals.proofs.published.Steps.{any_push}

-- What the loops over groups of effects need.

-- ---- a list with one element changed, or one more

regroup : (a b c : Bool) → ((a || b) || c) ≡ ((a || c) || b)
regroup a b c = grind arith

nested : (a b c : Bool) → (a || (b || c)) ≡ ((a || b) || c)
nested true b c = refl
nested false b c = refl

pub any_changed : {A : Type 0} (p : A → Bool) (xs : List A) (i : ℕ) (x y : A) (b : Bool) → i < length xs → x ≡ get_or xs i x → p y ≡ (p x || b) → list_any p (set xs i y) ≡ (list_any p xs || b)
any_changed p [] i x y b l at is = absurd (omega arith)
any_changed p (z ∷ xs) zero x y b l at is = ap (λ (c : Bool). c || list_any p xs) (is ∙ ap (λ (w : _). p w || b) at) ∙ regroup (p z) b (list_any p xs)
any_changed p (z ∷ xs) (suc i) x y b l at is = ap (λ (c : Bool). p z || c) (any_changed p xs i x y b (omega arith) at is) ∙ nested (p z) (list_any p xs) b

pub all_changed : {A : Type 0} (P : A → Type 0) (xs : List A) (i : ℕ) (y : A) → AllByRecursion P xs → P y → AllByRecursion P (set xs i y)
all_changed P [] i y all one = all
all_changed P (z ∷ xs) zero y all one = (one, all.1)
all_changed P (z ∷ xs) (suc i) y all one = (all.0, all_changed P xs i y all.1 one)

pub all_read : {A : Type 0} (P : A → Type 0) (xs : List A) (i : ℕ) (x : A) → AllByRecursion P xs → i < length xs → x ≡ get_or xs i x → P x
all_read P [] i x all l at = absurd (omega arith)
all_read P (z ∷ xs) zero x all l at = subst P (sym at) all.0
all_read P (z ∷ xs) (suc i) x all l at = all_read P xs i x all.1 (omega arith) at

-- the opposite of an effect's literal is one of the literals, of which there are as many as rows
pub opposite_fits : (facts : ℕ) (effects : List Effect) {i lit l rows : ℕ} {e : Effect} → AllByRecursion (EffectFits (2 * facts)) effects → i < length effects → e ≡ get_or effects i e
    → lit ≡ e.literal → l ≡ opposite lit → rows ≡ 2 * facts → l < rows
opposite_fits facts effects {i} {lit} {l} {rows} {e} fit inside at is_lit is_opposite long =
    subst (λ (n : ℕ). l < n) (sym long)
    (subst (λ (k : ℕ). k < 2 * facts) (sym (is_opposite ∙ ap opposite is_lit)) (all_read (EffectFits (2 * facts)) effects i e fit inside at).literal)

pub all_push : {A : Type 0} (P : A → Type 0) (xs : List A) (x : A) → AllByRecursion P xs → P x → AllByRecursion P (xs ++ x ∷ [])
all_push P [] x all one = (one, tt)
all_push P (z ∷ xs) x all one = (all.0, all_push P xs x all.1 one)

-- ---- groups

either_and : (a b t : Bool) → ((a || b) && t) ≡ ((b && t) || (a && t))
either_and a b t = grind arith

-- a group with one more literal finds what it found, and that literal
pub group_more : (g h : Group) (lit : ℕ) (c : List ℕ) → g.condition.items ≡ c → h.condition.items ≡ g.condition.items → ((m : ℕ) → row_has h.literals m ≡ ((lit == m) || row_has g.literals m))
    → (l : ℕ) (test : List ℕ → Bool) → (row_has h.literals l && test h.condition.items) ≡ ((row_has g.literals l && test g.condition.items) || ((lit == l) && test c))
group_more g h lit c was same more l test =
    (λ i. more l i && test (same i))
    ∙ either_and (lit == l) (row_has g.literals l) (test g.condition.items)
    ∙ (λ i. (row_has g.literals l && test g.condition.items) || ((lit == l) && test (was i)))

pub more_fits : (size : ℕ) (g h : Group) (lit : ℕ) → opposite lit < size → GroupFits size g → h.condition.items ≡ g.condition.items
    → ((m : ℕ) → row_has h.literals m ≡ ((lit == m) || row_has g.literals m)) → ((m : ℕ) → row_has h.opposites m ≡ ((opposite lit == m) || row_has g.opposites m)) → GroupFits size h
more_fits size g h lit below fits same more others = record {
  condition = subst (λ (c : List ℕ). AllByRecursion (λ l. l < size) c) (sym same) fits.condition;
  turned = λ m. others m ∙ (λ i. sym (opposite_test lit m) i || fits.turned m i) ∙ sym (more (opposite m));
  within = λ m t. by m (or_split (opposite lit == m) (row_has g.opposites m) (sym (others m) ∙ t));
}
  where
    by : (m : ℕ) → ((opposite lit == m) ≡ true) ⊎ (row_has g.opposites m ≡ true) → m < size
    by m (inl e) = subst (λ (k : ℕ). k < size) (test_same (opposite lit) m e) below
    by m (inr h) = fits.within m h

pub one_fits : (size : ℕ) (h : Group) (e : Effect) → EffectFits size e → h.condition.items ≡ e.condition
    → ((m : ℕ) → row_has h.literals m ≡ (e.literal == m)) → ((m : ℕ) → row_has h.opposites m ≡ (opposite e.literal == m)) → GroupFits size h
one_fits size h e fits same more others = record {
  condition = subst (λ (c : List ℕ). AllByRecursion (λ l. l < size) c) (sym same) fits.condition;
  turned = λ m. others m ∙ sym (opposite_test e.literal m) ∙ sym (more (opposite m));
  within = λ m t. subst (λ (k : ℕ). k < size) (test_same (opposite e.literal) m (sym (others m) ∙ t)) fits.literal;
}

-- the group of one effect more
pub one_more : (groups : List Group) (h : Group) (e : Effect) → h.condition.items ≡ e.condition → ((m : ℕ) → row_has h.literals m ≡ (e.literal == m))
    → (l : ℕ) (test : List ℕ → Bool) → group_with (groups ++ h ∷ []) l test ≡ (group_with groups l test || ((e.literal == l) && test e.condition))
one_more groups h e same more l test =
    any_push (λ g. row_has g.literals l && test g.condition.items) groups h
    ∙ (λ i. group_with groups l test || (more l i && test (same i)))

-- one more effect is in its group
pub effects_more : (old new : List Group) (effects : List Effect) (i : ℕ) (e : Effect) (l : ℕ) (test : List ℕ → Bool) → i < length effects → e ≡ get_or effects i e
    → group_with new l test ≡ (group_with old l test || ((e.literal == l) && test e.condition))
    → (group_with new l test || effect_with (drop (i + 1) effects) l test) ≡ (group_with old l test || effect_with (drop i effects) l test)
effects_more old new effects i e l test lt at more =
    ap (λ (b : Bool). b || effect_with (drop (i + 1) effects) l test) more
    ∙ sym (nested (group_with old l test) ((e.literal == l) && test e.condition) (effect_with (drop (i + 1) effects) l test))
    ∙ ap (λ (b : Bool). group_with old l test || b) (sym (any_rest (λ f. (f.literal == l) && test f.condition) effects i e lt at))

pub and_one : (b : Bool) → (b && true) ≡ b
and_one true = refl
and_one false = refl

-- ---- what may be lost

-- one more group, or list of losses, is looked at
pub lost_more : {A : Type 0} (p : A → Bool) (groups : List A) (i : ℕ) (g : A) (before after : Bool) → i < length groups → g ≡ get_or groups i g → after ≡ (before && not (p g))
    → (after && not (list_any p (drop (i + 1) groups))) ≡ (before && not (list_any p (drop i groups)))
lost_more p groups i g before after lt at is =
    ap (λ (b : Bool). b && not (list_any p (drop (i + 1) groups))) is
    ∙ both before (p g) (list_any p (drop (i + 1) groups))
    ∙ ap (λ (b : Bool). before && not b) (sym (any_rest p groups i g lt at))
  where
    both : (b x r : Bool) → ((b && not x) && not r) ≡ (b && not (x || r))
    both false x r = refl
    both true true r = refl
    both true false r = refl

-- no common element
pub keep_apart : (o s : Bool) → (o && s) ≡ false → s ≡ (s && not o)
keep_apart true true e = cc
keep_apart true false e = refl
keep_apart false s e = sym (and_one s)

same_off : (l m : ℕ) → (l ≡ m → ⊥) → (l == m) ≡ false
same_off l m d = not_true (l == m) (λ t. d (test_same l m t))

module _ (low l m : ℕ) (x y start before after : Bool) (le : low ≤ l) (old : before ≡ (start && not (nat_lt m low && x))) where
  untouched : low ≤ m → before ≡ start
  untouched h = old ∙ ap (λ (z : Bool). start && not (z && x)) (ge_test m low h) ∙ and_one start

  module _ (one : after ≡ (before && not ((l == m) && y))) (own : l ≡ m → y ≡ x) (gap : low ≤ m → m < l → (x && before) ≡ false) where
    passed : (l ≡ m → ⊥) → after ≡ before
    passed d = one ∙ ap (λ (z : Bool). before && not (z && y)) (same_off l m d) ∙ and_one before

    low_case : (m < low) ⊎ (low ≤ m) → m < l → after ≡ (start && not x)
    low_case (inl h) lt = passed (λ e. omega arith) ∙ old ∙ ap (λ (z : Bool). start && not (z && x)) (lt_test m low h)
    low_case (inr h) lt = passed (λ e. omega arith) ∙ untouched h ∙ keep_apart x start (ap (λ (b : Bool). x && b) (sym (untouched h)) ∙ gap h lt)

    by_place : (m < l) ⊎ (l ≤ m) → (m < l + 1) ⊎ (l + 1 ≤ m) → after ≡ (start && not (nat_lt m (l + 1) && x))
    by_place (inl h) k = low_case (cases_lt m low) h ∙ ap (λ (z : Bool). start && not (z && x)) (sym (lt_test m (l + 1) (omega arith)))
    by_place (inr h) (inl k) =
        let e : l ≡ m = omega arith in
        let same : (l == m) ≡ true = same_test l m e in
        let at : low ≤ m = omega arith in
        one ∙ (λ i. untouched at i && not (same i && own e i)) ∙ ap (λ (z : Bool). start && not (z && x)) (sym (lt_test m (l + 1) k))
    by_place (inr h) (inr k) =
        passed (λ e. omega arith) ∙ untouched (omega arith) ∙ sym (and_one start) ∙ ap (λ (z : Bool). start && not (z && x)) (sym (ge_test m (l + 1) k))

    -- one more number is looked at
    pub taken_next : after ≡ (start && not (nat_lt m (l + 1) && x))
    taken_next = by_place (cases_lt m l) (cases_lt m (l + 1))

-- all numbers were looked at
pub taken_all : (low m : ℕ) (x start now : Bool) → now ≡ (start && not (nat_lt m low && x)) → (low ≤ m → (x && now) ≡ false) → now ≡ (start && not x)
taken_all low m x start now old none = by (cases_lt m low)
  where
    by : (m < low) ⊎ (low ≤ m) → now ≡ (start && not x)
    by (inl h) = old ∙ ap (λ (z : Bool). start && not (z && x)) (lt_test m low h)
    by (inr h) =
        let same : now ≡ start = old ∙ ap (λ (z : Bool). start && not (z && x)) (ge_test m low h) ∙ and_one start in
        same ∙ keep_apart x start (ap (λ (b : Bool). x && b) (sym same) ∙ none h)

-- where two sets have no common element, the part of one has none either
pub less_apart : (o t s : Bool) → (o && s) ≡ false → ((o && t) && s) ≡ false
less_apart true true s e = e
less_apart true false s e = refl
less_apart false t s e = refl

pub own_part : (o t : Bool) → o ≡ true → t ≡ (o && t)
own_part true t e = refl
own_part false t e = cc

-- ---- losses

or_none : (b : Bool) → (b || false) ≡ b
or_none true = refl
or_none false = refl

module _ (low l a : ℕ) (x y start before after : Bool) (le : low ≤ l) (old : before ≡ (start || (nat_lt a low && x))) where
  unlisted : low ≤ a → before ≡ start
  unlisted h = old ∙ ap (λ (z : Bool). start || (z && x)) (ge_test a low h) ∙ or_none start

  module _ (one : after ≡ (before || ((l == a) && y))) (own : l ≡ a → y ≡ x) (gap : low ≤ a → a < l → x ≡ false) where
    kept : (l ≡ a → ⊥) → after ≡ before
    kept d = one ∙ ap (λ (z : Bool). before || (z && y)) (same_off l a d) ∙ or_none before

    low_lost : (a < low) ⊎ (low ≤ a) → a < l → after ≡ (start || x)
    low_lost (inl h) lt = kept (λ e. omega arith) ∙ old ∙ ap (λ (z : Bool). start || (z && x)) (lt_test a low h)
    low_lost (inr h) lt = kept (λ e. omega arith) ∙ unlisted h ∙ sym (or_none start) ∙ ap (λ (z : Bool). start || z) (sym (gap h lt))

    lost_place : (a < l) ⊎ (l ≤ a) → (a < l + 1) ⊎ (l + 1 ≤ a) → after ≡ (start || (nat_lt a (l + 1) && x))
    lost_place (inl h) k = low_lost (cases_lt a low) h ∙ ap (λ (z : Bool). start || (z && x)) (sym (lt_test a (l + 1) (omega arith)))
    lost_place (inr h) (inl k) =
        let e : l ≡ a = omega arith in
        let same : (l == a) ≡ true = same_test l a e in
        let at : low ≤ a = omega arith in
        one ∙ (λ i. unlisted at i || (same i && own e i)) ∙ ap (λ (z : Bool). start || (z && x)) (sym (lt_test a (l + 1) k))
    lost_place (inr h) (inr k) =
        kept (λ e. omega arith) ∙ unlisted (omega arith) ∙ sym (or_none start) ∙ ap (λ (z : Bool). start || (z && x)) (sym (ge_test a (l + 1) k))

    pub lost_next : after ≡ (start || (nat_lt a (l + 1) && x))
    lost_next = lost_place (cases_lt a l) (cases_lt a (l + 1))

-- the losses of one more group
pub groups_more : (p : Group → Bool) (groups : List Group) (i : ℕ) (g : Group) (clause before after : Bool) → i < length groups → g ≡ get_or groups i g → after ≡ (before || (clause && p g))
    → (after || (clause && list_any p (drop (i + 1) groups))) ≡ (before || (clause && list_any p (drop i groups)))
groups_more p groups i g clause before after lt at is =
    ap (λ (b : Bool). b || (clause && list_any p (drop (i + 1) groups))) is
    ∙ spread before clause (p g) (list_any p (drop (i + 1) groups))
    ∙ ap (λ (b : Bool). before || (clause && b)) (sym (any_rest p groups i g lt at))
  where
    spread : (x c w r : Bool) → ((x || (c && w)) || (c && r)) ≡ (x || (c && (w || r)))
    spread true c w r = refl
    spread false true w r = refl
    spread false false w r = refl

pub part_none : (c o r : Bool) → o ≡ false → (c && (o && r)) ≡ false
part_none true true r e = cc
part_none true false r e = refl
part_none false o r e = refl

-- a set with a least element is not empty
pub some_in : (p : ℕ → Bool) (o : Option ℕ) → IsLeastFrom p 0 o → is_some o ≡ true → (m : ℕ) × (p m ≡ true)
some_in p None h e = cc
some_in p (Some k) h e = (k, h.1)

pub none_lost : (b c o p q r : Bool) → p ≡ false → b ≡ (b || (c && (o && ((p && q) && r))))
none_lost b c o p q r h = grind arith

-- what one element passes, some element does
pub any_among : {A : Type 0} (p : A → Bool) (xs : List A) (i : ℕ) (x : A) → i < length xs → x ≡ get_or xs i x → p x ≡ true → list_any p xs ≡ true
any_among p [] i x lt at t = absurd (omega arith)
any_among p (y ∷ ys) zero x lt at t = or_left _ _ (ap p (sym at) ∙ t)
any_among p (y ∷ ys) (suc i) x lt at t = or_right _ _ (any_among p ys i x (omega arith) at t)
