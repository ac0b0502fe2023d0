use Rattle.std.proofs.Common.{arith, ◌≡◌, ◌+◌, ◌<◌, ℕ, length, get_or, subst}
use Rattle.std.proofs.lemmas.Grind.{get_or_default_zero}
use Rattle.propagation.specs.own.Given.{AreGiven}
use Rattle.propagation.proofs.Givens.{given_passed, ahead_of, past_next}
use Rattle.propagation.proofs.given.Given.enter_part.Goals as goal
use Rattle.propagation.proofs.given.Given.enter_part.Goals.{After-index-place}

inside : (c : After-index-place) → c.loop-index.index < length c.args.others.now.places.items
inside c = omega (arith, c.loop-index-test.true, c.len-index-end.ensures)

place_is : (c : After-index-place) → c.index-place.result.now ≡ get_or c.args.others.now.places.items c.loop-index.index 0
place_is c = omega (arith, c.index-place.ensures, get_or_default_zero c.args.others.now.places.items c.loop-index.index c.index-place.result.now (inside c))

below : (c : After-index-place) → c.index-place.result.now < c.args.others.now.count
below c = omega (arith, c.requires.below c.loop-index.index (inside c), place_is c)

pub enter-requires-clause-given : goal.enter-requires-clause-given
enter-requires-clause-given c =
    let a = (goal.at.enter-requires-clause-given c).After-index-place in
    let t = c.loop-index.self in
    let i = c.loop-index.invariant in
    let places = c.args.others.now.places.items in
    given_passed c.args.codes c.args.store.now.clauses c.args.first c.loop-index.next c.index-place.result.now c.loop-index.index c.args.others.now.count places t i.given
    (omega (arith, i.ahead c.loop-index.index (omega arith) (inside a), place_is a)) (omega (arith, below a)) c.requires.twos i.past
    (ahead_of places c.loop-index.index c.index-place.result.now c.requires.rising (place_is a))

pub overflow_add-next : goal.overflow_add-next
overflow_add-next c = omega (arith, below (goal.at.overflow_add-next c).After-index-place, c.requires.inside, c.requires.few)

pub loop-index-preserved : goal.loop-index-preserved
loop-index-preserved c =
    let a = (goal.at.loop-index-preserved c).After-index-place in
    let t = c.enter.new.self in
    let places = c.args.others.now.places.items in
    record {
      within = omega (arith, below a);
      past = past_next places c.loop-index.index c.index-place.result.now c.requires.rising (inside a) (place_is a);
      ahead = λ i h g. omega (arith, place_is a, c.requires.rising c.loop-index.index i (omega (arith, h)) g);
      given =
          subst (λ (n : ℕ). AreGiven c.args.codes c.args.store.now.clauses n t) (let e : c.args.first + c.index-place.result.now + 1 ≡ c.args.first + (c.index-place.result.now + 1) = omega arith in e)
          c.in_ok-enter.ensures;
    }

pub returns-clause-given : goal.returns-clause-given
returns-clause-given c =
    let t = c.loop-index.self in
    let i = c.loop-index.invariant in
    given_passed c.args.codes c.args.store.now.clauses c.args.first c.loop-index.next c.args.others.now.count c.loop-index.index c.args.others.now.count c.args.others.now.places.items t i.given i.within
    (omega arith) c.requires.twos i.past (λ k h g. absurd (omega (arith, h, g, c.loop-index-test.false, c.len-index-end.ensures)))

pub overflow_add-first : goal.overflow_add-first
overflow_add-first c = omega (arith, below (goal.at.overflow_add-first c).After-index-place, c.requires.inside, c.requires.few)

pub overflow_cast-place : goal.overflow_cast-place
overflow_cast-place c = omega (arith, below (goal.at.overflow_cast-place c).After-index-place, c.requires.inside, c.requires.few)
