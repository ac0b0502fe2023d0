-- Lists with one more item at the end, read at a place.
use Rattle.std.proofs.Common.{arith, ◌≡◌, ℕ, zero, suc, List, [], ◌∷◌, ◌++◌, length, refl, Some, ◌⊎◌, inl, inr}
use Rattle.std.specs.Prelude.{slice_get}

-- what stands at a place is what stood there, or the new item
pub pushed_at : {X : Type 0} (items : List X) (new x : X) (k : ℕ) → slice_get (items ++ new ∷ []) k ≡ Some x → (slice_get items k ≡ Some x) ⊎ ((k ≡ length items) × (x ≡ new))
pushed_at [] new x zero at = inr (refl, cc)
pushed_at [] new x (suc k) at = absurd (cc)
pushed_at (y ∷ items) new x zero at = inl at
pushed_at (y ∷ items) new x (suc k) at = elim (pushed_at items new x k at) [ inl h ↦ inl h | inr h ↦ inr (let e = h.0 in omega (arith, e), h.1) ]

pub pushed_before : {X : Type 0} (items : List X) (new x : X) (k : ℕ) → slice_get items k ≡ Some x → slice_get (items ++ new ∷ []) k ≡ Some x
pushed_before [] new x k at = absurd (cc)
pushed_before (y ∷ items) new x zero at = at
pushed_before (y ∷ items) new x (suc k) at = pushed_before items new x k at

pub pushed_last : {X : Type 0} (items : List X) (new : X) → slice_get (items ++ new ∷ []) (length items) ≡ Some new
pushed_last [] new = refl
pushed_last (y ∷ items) new = pushed_last items new
