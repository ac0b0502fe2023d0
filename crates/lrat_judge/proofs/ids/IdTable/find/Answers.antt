use Rattle.std.proofs.Common.{arith, ◌≡◌, ℕ, ◌+◌, ◌-◌, ◌<◌, List, Some, subst}
use Rattle.std.specs.List.{slice_get}
use Rattle.lrat_judge.proofs.Places.{zero_nowhere, nowhere, some_dense, some_later, below_id}
use Rattle.lrat_judge.proofs.First.{place_is, no_place}
use Rattle.lrat_judge.proofs.ids.IdTable.find.Goals as goal

pub returns-then-id-eq0-clause-none : goal.returns-then-id-eq0-clause-none
returns-then-id-eq0-clause-none c =
    zero_nowhere c.self.inside.dense c.self.inside.later.items c.args.self.now c.args.id c.self.view_is c.self.invariant c.if-id-eq0.true

pub returns-then-id-dense-clause-some : goal.returns-then-id-dense-clause-some
returns-then-id-dense-clause-some c =
    some_dense c.self.inside.dense c.self.inside.later.items c.args.self.now c.args.id c.self.view_is (omega arith) (omega arith)

pub overflow_add-result : goal.overflow_add-result
overflow_add-result c =
    let at = subst (λ (xs : List ℕ). slice_get xs c.in-Some.place ≡ Some c.args.id) c.deref.ensures.value c.in-Some.ensures.some in
    let below : c.self.inside.dense + c.in-Some.place < c.args.id = below_id c.self.inside.dense c.self.inside.later.items c.args.id c.in-Some.place c.self.invariant at in
    omega (arith, below, c.ranges.id.fits)

pub returns-in-Some-clause-some : goal.returns-in-Some-clause-some
returns-in-Some-clause-some c =
    let at = subst (λ (xs : List ℕ). slice_get xs c.in-Some.place ≡ Some c.args.id) c.deref.ensures.value c.in-Some.ensures.some in
    some_later c.self.inside.dense c.self.inside.later.items c.args.self.now c.args.id c.in-Some.place c.self.view_is at

pub returns-in-None-clause-none : goal.returns-in-None-clause-none
returns-in-None-clause-none c =
    let none = subst (λ (xs : List ℕ). (place : ℕ) → slice_get xs place ≡ Some c.args.id → ⊥) c.deref.ensures.value c.in-None.ensures.none in
    nowhere c.self.inside.dense c.self.inside.later.items c.args.self.now c.args.id c.self.view_is (omega arith) none

pub returns-then-id-eq0-clause-first : goal.returns-then-id-eq0-clause-first
returns-then-id-eq0-clause-first c =
    no_place c.args.self.now c.args.id (zero_nowhere c.self.inside.dense c.self.inside.later.items c.args.self.now c.args.id c.self.view_is c.self.invariant c.if-id-eq0.true)

pub returns-then-id-dense-clause-first : goal.returns-then-id-dense-clause-first
returns-then-id-dense-clause-first c =
    place_is c.self.inside.dense c.self.inside.later.items c.args.self.now (c.args.id - 1) c.args.id c.self.view_is c.self.invariant
    (some_dense c.self.inside.dense c.self.inside.later.items c.args.self.now c.args.id c.self.view_is (omega arith) (omega arith))

pub returns-in-Some-clause-first : goal.returns-in-Some-clause-first
returns-in-Some-clause-first c =
    let at = subst (λ (xs : List ℕ). slice_get xs c.in-Some.place ≡ Some c.args.id) c.deref.ensures.value c.in-Some.ensures.some in
    place_is c.self.inside.dense c.self.inside.later.items c.args.self.now (c.self.inside.dense + c.in-Some.place) c.args.id c.self.view_is c.self.invariant
    (some_later c.self.inside.dense c.self.inside.later.items c.args.self.now c.args.id c.in-Some.place c.self.view_is at)

pub returns-in-None-clause-first : goal.returns-in-None-clause-first
returns-in-None-clause-first c =
    let none = subst (λ (xs : List ℕ). (place : ℕ) → slice_get xs place ≡ Some c.args.id → ⊥) c.deref.ensures.value c.in-None.ensures.none in
    no_place c.args.self.now c.args.id (nowhere c.self.inside.dense c.self.inside.later.items c.args.self.now c.args.id c.self.view_is (omega arith) none)
