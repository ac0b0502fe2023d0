use Rattle.std.proofs.Common.{◌≡◌, ◌==◌, ℕ, ◌+◌, ◌<◌, List, [], ◌∷◌, ◌++◌, length, take, drop, Bool, true, false, not, ◌&&◌, ◌||◌, refl, ap, sym, ◌∙◌}
use Rattle.std.specs.Prelude.{slice_index_or}
use Rattle.std.specs.List.{list_any}
use Rattle.std.proofs.lemmas.List.{take_more, at_drop_more}
use Rattle.gt_core.specs.Literal.{is_in, range}
use Rattle.action_order.proofs.published.Lists.{range_more}
use Rattle.std.proofs.Math.Bool.{or-false, or_comm}
use Rattle.std.proofs.lemmas.List.Folds.{list_any-append}

-- Tests of growing lists.

pub any_push : {A : Type 0} (p : A → Bool) (xs : List A) (x : A) → list_any p (xs ++ x ∷ []) ≡ (p x || list_any p xs)
any_push p xs x = list_any-append p xs (x ∷ []) ∙ ap (λ (b : Bool). list_any p xs || b) (or-false (p x)) ∙ or_comm (list_any p xs) (p x)

-- a test of one more element
pub any_more : {A : Type 0} (p : A → Bool) (xs : List A) (i : ℕ) (d : A) → i < length xs → list_any p (take (i + 1) xs) ≡ (p (slice_index_or xs i d) || list_any p (take i xs))
any_more p xs i d lt = ap (list_any p) (take_more xs i d lt) ∙ any_push p (take i xs) (slice_index_or xs i d)

-- a test of what is left of a list, with its first element apart
pub any_left : {A : Type 0} (p : A → Bool) (xs : List A) (i : ℕ) (x : A) → i < length xs → x ≡ slice_index_or xs i x → list_any p (drop i xs) ≡ (p x || list_any p (drop (i + 1) xs))
any_left p xs i x lt is = at_drop_more (list_any p) xs i x lt ∙ ap (λ y. p y || list_any p (drop (i + 1) xs)) (sym is)

pub in_pushed : (xs : List ℕ) (x y : ℕ) → is_in (xs ++ x ∷ []) y ≡ ((x == y) || is_in xs y)
in_pushed xs x y = any_push (λ z. z == y) xs x

-- one more number below a bound
pub any_below_more : (p : ℕ → Bool) (n : ℕ) → list_any p (range (n + 1)) ≡ (p n || list_any p (range n))
any_below_more p n = ap (list_any p) (range_more n) ∙ any_push p (range n) n

-- less one and the others is less the one, and then less the others
pub less_both : (r h t : Bool) → (r && not (h || t)) ≡ ((r && not h) && not t)
less_both false h t = refl
less_both true true t = refl
less_both true false t = refl
