-- One turn more of a loop: over a list, over the clauses with a literal, over the actions of a task.
use Rattle.std.proofs.Common.{arith, ◌≡◌, ◌<◌, ◌≤◌, ◌+◌, ◌*◌, ◌++◌, ◌∷◌, ℕ, zero, suc, List, [], length, take, drop, get_or, true, ap, sym, ◌∙◌, subst, inl, inr, Some, None, slice_get}
use Rattle.std.specs.Prelude.{slice_index_or}
use Rattle.std.specs.List.{AllByRecursion}
use Rattle.std.proofs.lemmas.Bool.{cases_lt}
use Rattle.std.proofs.lemmas.List.{take_more, take_all, take-append-drop}
use Rattle.gt_core.specs.Literal.{is_in}
use Rattle.gt_core.specs.Lawful.{is_task}
use Rattle.gt_core.specs.Task.{Action, Task, action}
use Rattle.gt_core.proofs.published.Basics.{Among, each_at}
use Rattle.gt_core.proofs.published.Literals.{in_among, among_in, in_left}
use Rattle.implied_literals.specs.Tested.{ActionFits}
use Rattle.never_check.specs.Follow.{AreUses}
use Rattle.never_check.proofs.Grown.{default_same}
use Rattle.never_check.proofs.Beginning.{each_push}
use Rattle.never_check.proofs.Placed.{among_place}
use Rattle.never_check.proofs.Following.{clause_among}
use Rattle.never_check.proofs.Pairing.{among_any}
use Rattle.never_check.proofs.Forwarding.{action_fits}

-- ---- lists

pub each_next : {A : Type 0} (P : A → Type 0) (xs : List A) (i : ℕ) (x : A) → i < length xs → x ≡ get_or xs i x → AllByRecursion P (take i xs) → P x → AllByRecursion P (take (i + 1) xs)
each_next P xs i x lt is all one =
    subst (λ ys. AllByRecursion P ys) (sym (take_more xs i x lt ∙ ap (λ y. take i xs ++ y ∷ []) (sym is))) (each_push P (take i xs) x all one)

pub item_among : {A : Type 0} (xs ys : List A) (i : ℕ) (x : A) → i < length xs → x ≡ get_or xs i x → xs ≡ ys → Among x ys
item_among xs ys i x lt is same = subst (λ zs. Among x zs) same (subst (λ y. Among y xs) (sym is) (among_any xs i x lt))

pub next_at : (P : ℕ → Type 0) (xs : List ℕ) (i : ℕ) → i < length xs → AllByRecursion P (take i xs) → P (get_or xs i 0) → AllByRecursion P (take (i + 1) xs)
next_at P xs i lt all one = subst (λ ys. AllByRecursion P ys) (sym (take_more xs i 0 lt)) (each_push P (take i xs) (get_or xs i 0) all one)

pub each_of_take : {A : Type 0} (P : A → Type 0) (xs : List A) (n : ℕ) → AllByRecursion P xs → AllByRecursion P (take n xs)
each_of_take P xs zero all = tt
each_of_take P [] (suc n) all = tt
each_of_take P (x ∷ xs) (suc n) all = (all.0, each_of_take P xs n all.1)

pub in_of_take : (xs : List ℕ) (n x : ℕ) → is_in (take n xs) x ≡ true → is_in xs x ≡ true
in_of_take xs n x i = subst (λ (ys : List ℕ). is_in ys x ≡ true) (take-append-drop n xs) (in_left (take n xs) (drop n xs) x i)

-- a clause that is read by its number
pub number_at : {A : Type 0} (xs : List A) (k : ℕ) (x : A) → slice_get xs k ≡ Some x → k < length xs
number_at [] k x e = let z : None ≡ Some x = e in absurd (let w : ⊥ = cc in w)
number_at (y ∷ xs) zero x e = omega arith
number_at (y ∷ xs) (suc k) x e = let r = number_at xs k x e in omega (arith, r)

pub clause_next : (P : List ℕ → Type 0) (clauses : List (List ℕ)) (k : ℕ) (c : List ℕ) → slice_get clauses k ≡ Some c → AllByRecursion P (take k clauses) → P c → AllByRecursion P (take (k + 1) clauses)
clause_next P clauses k c at all one =
    let lt = number_at clauses k c at in
    let same : slice_index_or clauses k [] ≡ c = (clause_among clauses k c at).1 in
    each_next P clauses k c lt (sym same ∙ default_same clauses k [] c lt) all one

-- ---- the numbers of the clauses with a literal

module _ (size : ℕ) (clauses uses : List (List ℕ)) (are : AreUses size clauses uses) (lit : ℕ) (within : lit < size) (list default : List ℕ) (is : list ≡ slice_index_or uses lit default) where
  pub list_same : list ≡ slice_index_or uses lit []
  list_same = is ∙ default_same uses lit default [] (let long = are.long in omega (arith, long, within))

  module _ (P : ℕ → Type 0) (i : ℕ) where
    -- the number at a place fails
    pub number_fails : i < length list → (P (get_or list i 0) → ⊥) → (get_or list i 0 < length clauses) × (is_in (slice_index_or uses lit []) (get_or list i 0) ≡ true) × (P (get_or list i 0) → ⊥)
    number_fails lt nay =
        let among : Among (get_or list i 0) (slice_index_or uses lit []) = subst (λ (ls : List ℕ). Among (get_or list i 0) ls) list_same (among_place list i lt) in (
          each_at (λ (n : ℕ). n < length clauses) (slice_index_or uses lit []) (get_or list i 0) (are.numbers lit) among,
          among_in (slice_index_or uses lit []) (get_or list i 0) among,
          nay,
        )

    pub numbers_all : length list ≤ i → AllByRecursion P (take i list) → (k : ℕ) → is_in (slice_index_or uses lit []) k ≡ true → P k
    numbers_all ends all k j =
        each_at P (slice_index_or uses lit []) k (subst (λ (ls : List ℕ). AllByRecursion P ls) (take_all i list ends ∙ list_same) all) (in_among (slice_index_or uses lit []) k j)

-- ---- the actions of a task

module _ (task : Task) (acts : List Action) (same : acts ≡ task.actions) (n : ℕ) where
  pub act_within : n < length acts → n < length task.actions
  act_within lt = let e = ap length same in omega (arith, e, lt)

  pub act_fits : n < length acts → is_task task ≡ true → (facts : ℕ) (act : Action) → facts ≡ task.facts → act ≡ action task n → ActionFits (2 * facts) act
  act_fits lt lawful facts act are is =
      subst (λ (x : Action). ActionFits (2 * facts) x) (sym is) (subst (λ (k : ℕ). ActionFits (2 * k) (action task n)) (sym are) (action_fits task n lawful (act_within lt)))

  module _ (P : ℕ → Type 0) (all : (a : ℕ) → a < n → P a) where
    pub acts_next : P n → (a : ℕ) → a < n + 1 → P a
    acts_next one a lt = elim (cases_lt a n) [
      | inl below ↦ all a below
      | inr le ↦ let e : n ≡ a = omega arith in subst P e one
    ]

    pub acts_all : (n < length acts → ⊥) → (a : ℕ) → a < length task.actions → P a
    acts_all ends a lt = elim (cases_lt a n) [
      | inl below ↦ all a below
      | inr le ↦ absurd (ends (let e = ap length same in omega (arith, e, le, lt)))
    ]
