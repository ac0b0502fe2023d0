-- Each of the first turns is polled once.
use Rattle.std.proofs.Common.{◌≡◌, ◌∙◌, ◌<◌, ◌≤◌, ℕ, ◌+◌, zero, suc, false, List, [], ◌∷◌, ◌++◌, nat_eq, count_by, refl, sym, ap, arith, inl, inr}
use Rattle.std.specs.List.{AllByRecursion}
use Rattle.std.proofs.Math.Dec.{eqb}
use Rattle.std.proofs.lemmas.Bool.{eq-eqb}
use Rattle.std.proofs.lemmas.Bool.Decides.{eqb_tells}
use Rattle.std.proofs.lemmas.List.Elements.{All-from_recursion}
use Rattle.std.proofs.lemmas.List.Sums.{sum_by-append}
use Rattle.requests.specs.declared.request.Turns.{Turns}
use Rattle.requests.specs.declared.request.Turns.TheVariants.{Forward, Backward}
use Rattle.poll_batch.specs.Batch.{IsOrder}
use Rattle.plan_top.specs.own.Parts.{turn_at}

-- the places of the first turns
abbrev pub first_turns : Turns → ℕ → ℕ → List ℕ
first_turns turns count zero = []
first_turns turns count (suc done) = first_turns turns count done ++ turn_at turns count done ∷ []

below : (turns : Turns) (count turn : ℕ) → turn < count → turn_at turns count turn < count
below Forward count turn lt = lt
below Backward count turn lt = omega (arith, lt)

-- it is its own inverse
back : (turns : Turns) (count place : ℕ) → place < count → turn_at turns count (turn_at turns count place) ≡ place
back Forward count place lt = refl
back Backward count place lt = omega (arith, lt)

all_push : {X : Type 0} (P : X → Type 0) (xs : List X) (x : X) → AllByRecursion P xs → P x → AllByRecursion P (xs ++ x ∷ [])
all_push P [] x all h = (h, tt)
all_push P (y ∷ ys) x all h = (all.0, all_push P ys x all.1 h)

within : (turns : Turns) (count done : ℕ) → done ≤ count → AllByRecursion (λ t. t < count) (first_turns turns count done)
within turns count zero le = tt
within turns count (suc done) le = all_push (λ t. t < count) (first_turns turns count done) (turn_at turns count done) (within turns count done (omega (arith, le))) (below turns count done (omega (arith, le)))

count_push : (place : ℕ) (xs : List ℕ) (x : ℕ) → count_by (nat_eq place) (xs ++ x ∷ []) ≡ count_by (nat_eq place) xs + count_by (nat_eq place) (x ∷ [])
count_push place xs x = sum_by-append _ xs (x ∷ [])

hit : (place x : ℕ) → place ≡ x → count_by (nat_eq place) (x ∷ []) ≡ 1
hit place x same = rw (eq-eqb place x same) refl

miss : (place x : ℕ) → eqb place x ≡ false → count_by (nat_eq place) (x ∷ []) ≡ 0
miss place x other = rw other refl

missed : (place x : ℕ) → (place ≡ x → ⊥) → count_by (nat_eq place) (x ∷ []) ≡ 0
missed place x other = elim (eqb_tells place x) [
  | inl h ↦ absurd (other h.1)
  | inr h ↦ miss place x h.0
]

module _ (turns : Turns) (count place : ℕ) (lt : place < count) where
  none_yet : (done : ℕ) → done ≤ turn_at turns count place → count_by (nat_eq place) (first_turns turns count done) ≡ 0
  none_yet zero le = refl
  none_yet (suc done) le =
      let small : turn_at turns count place < count = below turns count place lt in
      let other : place ≡ turn_at turns count done → ⊥ = λ same.
      let here : turn_at turns count place ≡ done = ap (turn_at turns count) same ∙ back turns count done (omega (arith, le, small)) in
      omega (arith, here, le) in
      let rest = none_yet done (omega (arith, le)) in
      let last = missed place (turn_at turns count done) other in
      count_push place (first_turns turns count done) (turn_at turns count done) ∙ omega (arith, rest, last)

  once_in : (done : ℕ) → done ≤ count → turn_at turns count place < done → count_by (nat_eq place) (first_turns turns count done) ≡ 1
  once_in zero le some = absurd (omega (arith, some))
  once_in (suc done) le some = elim (eqb_tells (turn_at turns count place) done) [
    | inl h ↦ (let same : place ≡ turn_at turns count done = sym (back turns count place lt) ∙ ap (turn_at turns count) h.1 in
        let rest = none_yet done (let e = h.1 in omega (arith, e)) in
        let last = hit place (turn_at turns count done) same in
        count_push place (first_turns turns count done) (turn_at turns count done) ∙ omega (arith, rest, last))
    | inr h ↦ (let other : place ≡ turn_at turns count done → ⊥ = λ same. h.1 (ap (turn_at turns count) same ∙ back turns count done (omega (arith, le))) in
        let rest = once_in done (omega (arith, le)) (let off = h.1 in omega (arith, some, off)) in
        let last = missed place (turn_at turns count done) other in
        count_push place (first_turns turns count done) (turn_at turns count done) ∙ omega (arith, rest, last))
  ]

pub order : (turns : Turns) (count : ℕ) → IsOrder count (first_turns turns count count)
order turns count = record {
  within = All-from_recursion (λ (t : ℕ). t < count) (first_turns turns count count) (within turns count count (omega arith));
  once = λ place lt. once_in turns count place lt count (omega arith) (below turns count place lt);
}
