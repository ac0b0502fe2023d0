-- The first place of an id among ids that rise is the only one.
use Rattle.std.proofs.Common.{arith, ◌≡◌, ℕ, zero, suc, ◌+◌, ◌<◌, inl, inr, List, [], ◌∷◌, Some, None, add-one, refl, ap}
use Rattle.std.specs.List.{slice_get}
use Rattle.std.proofs.lemmas.Bool.Decides.{eqb_tells}
use Rattle.std.proofs.lemmas.Option.{slice_get_within, get_or_from_slice_get}
use Rattle.lrat_judge.specs.Ids.{Follow, place_of}
use Rattle.lrat_judge.proofs.Places.{ids, all_rising}

-- an id that stands at no place has none
pub no_place : (xs : List ℕ) (id : ℕ) → ((place : ℕ) → slice_get xs place ≡ Some id → ⊥) → None ≡ place_of xs id
no_place [] id none = refl
no_place (x ∷ xs) id none = elim (eqb_tells x id) [
  | inl (t, e) ↦ absurd (none 0 (ap (λ (y : ℕ). Some y) e))
  | inr (f, apart) ↦ rw (f, ← no_place xs id (λ place e. none (place + 1) (rw add-one e))) refl
]

-- a place at which it stands, and no earlier one
first_place : (xs : List ℕ) (place id : ℕ) → slice_get xs place ≡ Some id → ((k : ℕ) → k < place → slice_get xs k ≡ Some id → ⊥) → Some place ≡ place_of xs id
first_place [] place id e before = absurd (let never : None ≡ Some id = e in cc)
first_place (x ∷ xs) zero id e before = elim (eqb_tells x id) [
  | inl (t, same) ↦ rw t refl
  | inr (f, apart) ↦ absurd (let same : x ≡ id = cc in apart same)
]
first_place (x ∷ xs) (suc place) id e before = elim (eqb_tells x id) [
  | inl (t, same) ↦ absurd (before 0 (omega arith) (ap (λ (y : ℕ). Some y) same))
  | inr (f, apart) ↦
      let more = first_place xs place id e (λ k less at. before (suc k) (omega arith) at) in
      let next : suc place ≡ place + 1 = omega arith in
      rw (f, ← more) (ap (λ (n : ℕ). Some n) next)
]

-- the place of an id in the table
pub place_is : (d : ℕ) (later whole : List ℕ) (place id : ℕ) → ids d later ≡ whole → Follow d later → slice_get whole place ≡ Some id → Some place ≡ place_of whole id
place_is d later whole place id w f e = first_place whole place id e (λ k less at.
    let within = slice_get_within whole place id e in
    let here = get_or_from_slice_get whole place id 0 e in
    let there = get_or_from_slice_get whole k id 0 at in
    let rising = all_rising d later whole w f k place less within in
    absurd (omega (arith, here, there, rising)))
