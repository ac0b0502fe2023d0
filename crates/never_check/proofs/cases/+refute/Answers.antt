use Rattle.std.proofs.Common.{arith, rules, ◌≡◌, ◌==◌, ◌<◌, ◌+◌, ◌*◌, ◌∙◌, ℕ, List, [], ◌∷◌, ◌++◌, map, length, take, drop, false, refl, ap, sym, subst}
use Rattle.std.specs.Prelude.{slice_index}
use Rattle.std.specs.List.{AllByRecursion, filter}
use Rattle.std.proofs.lemmas.List.{take_all, take_more}
use Rattle.gt_core.specs.Literal.{opposite}
use Rattle.gt_core.specs.Task.{Effect}
use Rattle.gt_core.specs.Interference.{action_surely_makes}
use Rattle.gt_core.proofs.published.Basics.{Among, each_at, same_test}
use Rattle.implied_literals.specs.Tested.{EffectFits}
use Rattle.never_defs.specs.Cases.{cases_of, conditions_of, none_makes, if_made}
use Rattle.never_check.specs.Trail.{Reached}
use Rattle.never_check.specs.Follow.{AreBelow}
use Rattle.never_check.specs.Refuted.{AreContradicted, IsWayContradicted}
use Rattle.never_check.specs.Pairs.{IsReady, IsPlace}
use Rattle.never_check.proofs.Grown.{front_then, when_true, when_false, either_way}
use Rattle.never_check.proofs.Casing.{settled_clash, settled_told, leaf_true, leaf_false, way_clash, way_true, way_false, open_true, open_stays, open_made, conditions_push, conditions_at}
use Rattle.never_check.proofs.Pairing.{ready_settled, among_any, literal_below, none_below, ready_next, ready_joined, joins_none, way_same, place_told, at_place, at_end, rest_same}
use Rattle.never_check.proofs.cases.+refute.Goals as goal

pub refute_way-refute_from-requires : goal.refute_way-refute_from-requires
refute_way-refute_from-requires t c =
    let a = when_false c.in_ok-assume.field-0 _ c.if-branch.false c.in_ok-assume.ensures.told in
    let ready = ready_next c.args.pair.now c.args.held.now c.args.trail.now c.assume.new.trail c.requires.ready c.in_ok-assume.ensures.facts a.0.front a.0.apart in
    (search rules, record { pair = c.requires.pair; place = let place = c.requires.place in omega (arith, place); ready = ready })

pub refute_way-refute_from-requires-2 : goal.refute_way-refute_from-requires-2
refute_way-refute_from-requires-2 t c =
    let a = when_false c.in_ok-assume.field-0 _ c.if-branch.false c.in_ok-assume.ensures.told in
    let place = c.requires.place in (
      search rules,
      record {
        pair = c.requires.pair;
        place = omega (arith, place);
        ready =
            ready_joined c.args.pair.now c.args.held.now c.args.trail.now c.assume.new.trail c.requires.ready c.in_ok-assume.ensures.facts a.0.front a.0.apart _ c.args.clauses.now refl c.in_ok-more.ensures
            c.requires.clauses;
      },
    )

pub refute_way-returns-clause-told : goal.refute_way-returns-clause-told
refute_way-returns-clause-told t c =
    let pair = c.args.pair.now in
    let more = c.args.held.now.more.now in
    let tr = c.args.trail.now.literals in
    let a = when_false c.in_ok-assume.field-0 _ c.if-branch.false c.in_ok-assume.ensures.told in
    let qs = cases_of pair.act.now (drop (c.args.place + 1) pair.clause.now) in
    either_way c.in_ok-refuted-2.refuted
    (way_true pair.rules.now more tr c.args.literals.now c.args.clauses.now c.in_ok-more.more c.in_ok-more.ensures c.assume.new.trail.literals a qs)
    (way_false pair.rules.now more tr c.args.literals.now c.args.clauses.now c.in_ok-more.more c.in_ok-more.ensures c.assume.new.trail.literals a qs) c.in_ok-refuted-2.ensures.told

pub refute_way-returns-then-branch-clause-told : goal.refute_way-returns-then-branch-clause-told
refute_way-returns-then-branch-clause-told t c =
    let pair = c.args.pair.now in
    way_clash pair.rules.now c.args.held.now.more.now c.args.trail.now.literals c.args.literals.now c.args.clauses.now (cases_of pair.act.now (drop (c.args.place + 1) pair.clause.now))
    (when_true c.in_ok-assume.field-0 _ c.if-branch.true c.in_ok-assume.ensures.told)

pub refute_way-returns-then-len-eq0-clause-told : goal.refute_way-returns-then-len-eq0-clause-told
refute_way-returns-then-len-eq0-clause-told t c =
    let pair = c.args.pair.now in
    let more = c.args.held.now.more.now in
    let tr = c.args.trail.now.literals in
    let a = when_false c.in_ok-assume.field-0 _ c.if-branch.false c.in_ok-assume.ensures.told in
    let joins = joins_none more c.args.clauses.now (sym c.len.ensures ∙ c.if-len-eq0.true) in
    let qs = cases_of pair.act.now (drop (c.args.place + 1) pair.clause.now) in
    either_way c.in_ok-refuted.refuted
    (way_true pair.rules.now more tr c.args.literals.now c.args.clauses.now more joins c.assume.new.trail.literals a qs)
    (way_false pair.rules.now more tr c.args.literals.now c.args.clauses.now more joins c.assume.new.trail.literals a qs) c.in_ok-refuted.ensures.told

pub refute_conditions-refute_made-requires : goal.refute_conditions-refute_made-requires
refute_conditions-refute_made-requires t c =
    let pair = c.args.at.now.pair.now in
    let kept = c.loop-effect.invariant.kept in
    let items = c.effects-effect-items.result.now in
    let among : Among c.effect-item.result items = subst (λ (e : Effect). Among e items) (sym c.effect-item.is) (among_any items c.loop-effect.effect-index c.effect-item.result c.loop-effect-test.true) in
    let mine : Among c.effect-item.result pair.act.now.effects = subst (λ (es : List Effect). Among c.effect-item.result es) c.effects-effect-items.ensures among in
    let below = (each_at (EffectFits (2 * pair.rules.now.known.now.facts)) pair.act.now.effects c.effect-item.result c.requires.pair.fits.effects mine).condition in
    let facts = ap (λ (r : Reached). r.facts) kept ∙ c.requires.ready.facts in
    let here : AreBelow (2 * c.loop-effect.trail.facts) c.cond.result.now = subst (λ (ls : List ℕ). AreBelow (2 * c.loop-effect.trail.facts) ls) (sym c.cond.ensures) (subst (λ (k : ℕ). AreBelow (2 * k) c.effect-item.result.condition) (sym facts) below) in
    (search rules, (subst (λ (r : Reached). IsPlace c.args.at.now c.args.held.now r) (sym kept) c.requires, here))

pub refute_conditions-returns-clause-kept : goal.refute_conditions-returns-clause-kept
refute_conditions-returns-clause-kept t c = c.loop-effect.invariant.kept

pub refute_conditions-returns-clause-told : goal.refute_conditions-returns-clause-told
refute_conditions-returns-clause-told t c =
    let pair = c.args.at.now.pair.now in
    let items = c.effects-effect-items.result.now in
    let l = opposite (slice_index pair.clause.now c.args.at.now.place) in
    let all = take_all c.loop-effect.effect-index items c.loop-effect-test.false ∙ c.effects-effect-items.ensures in
    subst (λ (es : List Effect). AllByRecursion (λ d. IsWayContradicted pair.rules.now c.args.held.now.more.now c.args.trail.now.literals (cases_of pair.act.now (drop (c.args.at.now.place + 1) pair.clause.now)) (record { literals = d; clauses = if_made pair.act.now l })) (map (λ e. e.condition) (filter (λ e. e.literal == l) es))) all c.loop-effect.invariant.all

pub refute_conditions-returns-then-not-branch-clause-kept : goal.refute_conditions-returns-then-not-branch-clause-kept
refute_conditions-returns-then-not-branch-clause-kept t c = c.in_ok-refute_made.ensures.kept ∙ c.loop-effect.invariant.kept

pub refute_conditions-returns-then-not-branch-clause-told : goal.refute_conditions-returns-then-not-branch-clause-told
refute_conditions-returns-then-not-branch-clause-told t c =
    let pair = c.args.at.now.pair.now in
    let items = c.effects-effect-items.result.now in
    let l = opposite (slice_index pair.clause.now c.args.at.now.place) in
    let qs = cases_of pair.act.now (drop (c.args.at.now.place + 1) pair.clause.now) in
    let more = c.args.held.now.more.now in
    let among : Among c.effect-item.result items = subst (λ (e : Effect). Among e items) (sym c.effect-item.is) (among_any items c.loop-effect.effect-index c.effect-item.result c.loop-effect-test.true) in
    let mine : Among c.effect-item.result pair.act.now.effects = subst (λ (es : List Effect). Among c.effect-item.result es) c.effects-effect-items.ensures among in
    let same : c.effect-item.result.literal ≡ l = sym c.lit.ensures ∙ c.if-lit.false ∙ c.opposite-lit.ensures in
    let told = way_same pair.rules.now more c.loop-effect.trail.literals c.args.trail.now.literals qs c.cond.result.now c.effect-item.result.condition (if_made pair.act.now l) (if_made pair.act.now l) c.in_ok-refute_made.field-0 (ap (λ (r : Reached). r.literals) c.loop-effect.invariant.kept) c.cond.ensures refl c.in_ok-refute_made.ensures.told in
    λ all. when_false c.in_ok-refute_made.field-0 _ c.if-not-branch.true told
    (conditions_at (λ d. IsWayContradicted pair.rules.now more c.args.trail.now.literals qs (record { literals = d; clauses = if_made pair.act.now l })) l pair.act.now.effects c.effect-item.result mine (same_test _ _ same) all)

pub refute_conditions-loop-effect-preserved : goal.refute_conditions-loop-effect-preserved
refute_conditions-loop-effect-preserved t c =
    let pair = c.args.at.now.pair.now in
    let items = c.effects-effect-items.result.now in
    let l = opposite (slice_index pair.clause.now c.args.at.now.place) in
    let qs = cases_of pair.act.now (drop (c.args.at.now.place + 1) pair.clause.now) in
    let more = c.args.held.now.more.now in
    let told = way_same pair.rules.now more c.loop-effect.trail.literals c.args.trail.now.literals qs c.cond.result.now c.effect-item.result.condition (if_made pair.act.now l) (if_made pair.act.now l) c.in_ok-refute_made.field-0 (ap (λ (r : Reached). r.literals) c.loop-effect.invariant.kept) c.cond.ensures refl c.in_ok-refute_made.ensures.told in
    let one = when_true c.in_ok-refute_made.field-0 _ c.if-not-branch.false told in
    let next : take (c.loop-effect.effect-index + 1) items ≡ take c.loop-effect.effect-index items ++ c.effect-item.result ∷ [] =
    take_more items c.loop-effect.effect-index c.effect-item.result c.loop-effect-test.true ∙ ap (λ (e : Effect). take c.loop-effect.effect-index items ++ e ∷ []) (sym c.effect-item.is) in
    record {
      kept = c.in_ok-refute_made.ensures.kept ∙ c.loop-effect.invariant.kept;
      all =
          subst (λ (es : List Effect). AllByRecursion (λ d. IsWayContradicted pair.rules.now more c.args.trail.now.literals qs (record { literals = d; clauses = if_made pair.act.now l })) (map (λ e. e.condition) (filter (λ e. e.literal == l) es))) (sym next)
          (conditions_push (λ d. IsWayContradicted pair.rules.now more c.args.trail.now.literals qs (record { literals = d; clauses = if_made pair.act.now l })) l (take c.loop-effect.effect-index items) c.effect-item.result c.loop-effect.invariant.all (λ s. one));
    }

pub refute_ways-refute_way-requires : goal.refute_ways-refute_way-requires
refute_ways-refute_way-requires t c =
    let pair = c.args.pair.now in
    let le = c.requires.place in
    let ne = c.if-place-pair.false in
    let lt : c.args.place < length pair.clause.now = omega (arith, le, ne) in
    let facts = c.requires.ready.facts in
    let lit = literal_below pair.rules.now.known.now.facts pair.clause.now c.args.place c.opposite-lit.result c.requires.pair.over lt c.opposite-lit.ensures in
    let none = subst (λ (k : ℕ). AllByRecursion (AreBelow (2 * k)) (none_makes pair.act.now c.opposite.result)) (sym facts) (none_below pair.rules.now.known.now.facts c.opposite.result pair.act.now.effects c.requires.pair.fits.effects) in
    (search rules, (c.requires.pair, (lt, ((omega (arith, lit, facts), tt), (subst (λ (cs : List (List ℕ)). AllByRecursion (AreBelow (2 * c.args.trail.now.facts)) cs) (sym c.in_ok-none.ensures) none, c.requires.ready)))))

pub refute_ways-refute_made-requires : goal.refute_ways-refute_made-requires
refute_ways-refute_made-requires t c =
    let le = c.requires.place in
    let ne = c.if-place-pair.false in
    let is = c.in_ok-none.ensures ∙ ap (none_makes c.args.pair.now.act.now) (c.opposite.ensures ∙ ap opposite c.opposite-lit.ensures) in
    (search rules, (record { pair = c.requires.pair; place = omega (arith, le, ne); none = is; ready = c.requires.ready }, tt))

pub refute_ways-refute_conditions-requires : goal.refute_ways-refute_conditions-requires
refute_ways-refute_conditions-requires t c =
    let le = c.requires.place in
    let ne = c.if-place-pair.false in
    let is = c.in_ok-none.ensures ∙ ap (none_makes c.args.pair.now.act.now) (c.opposite.ensures ∙ ap opposite c.opposite-lit.ensures) in
    (search rules, record { pair = c.requires.pair; place = omega (arith, le, ne); none = is; ready = subst (λ (r : Reached). IsReady c.args.pair.now c.args.held.now r) (sym c.in_ok-refute_way.ensures.kept) c.requires.ready })

pub refute_ways-returns-clause-told : goal.refute_ways-returns-clause-told
refute_ways-returns-clause-told t c =
    let pair = c.args.pair.now in
    let at =
    place_told pair c.args.place c.args.held.now.more.now c.args.trail.now.literals (let le = c.requires.place in let ne = c.if-place-pair.false in omega (arith, le, ne)) c.opposite-lit.result c.opposite-lit.ensures c.opposite.result
    c.opposite.ensures c.in_ok-none.none c.in_ok-none.ensures c.surely_makes.result c.surely_makes.ensures c.if-surely_makes.false c.in_ok-refute_way.field-0 c.in_ok-refute_way.ensures.told
    in
    let stays = when_true c.in_ok-refute_way.field-0 _ c.if-not-branch.false at.way in
    let kept = ap (λ (r : Reached). r.literals) c.in_ok-refute_way.ensures.kept in
    let x = pair.act.now in
    let rs = pair.rules.now in
    let more = c.args.held.now.more.now in
    let tr = c.args.trail.now.literals in
    let l = slice_index pair.clause.now c.args.place in
    let rest = drop (c.args.place + 1) pair.clause.now in
    rest_same rs more tr x (drop c.args.place pair.clause.now) (l ∷ rest) c.in_ok-refuted-3.refuted (at_place pair.clause.now c.args.place at.within)
    (either_way c.in_ok-refuted-3.refuted
    (λ all. open_true rs more tr x l rest (action_surely_makes x (opposite l)) at.unsure stays (subst (λ (ls : List ℕ). AllByRecursion (λ d. IsWayContradicted rs more ls (cases_of x rest) (record { literals = d; clauses = if_made x (opposite l) })) (conditions_of x (opposite l))) kept all))
    (λ nay. open_made rs more tr x l rest (action_surely_makes x (opposite l)) at.unsure (λ all. nay (subst (λ (ls : List ℕ). AllByRecursion (λ d. IsWayContradicted rs more ls (cases_of x rest) (record { literals = d; clauses = if_made x (opposite l) })) (conditions_of x (opposite l))) (sym kept) all)))
    c.in_ok-refuted-3.ensures.told)

pub refute_ways-returns-then-not-branch-clause-told : goal.refute_ways-returns-then-not-branch-clause-told
refute_ways-returns-then-not-branch-clause-told t c =
    let pair = c.args.pair.now in
    let at =
    place_told pair c.args.place c.args.held.now.more.now c.args.trail.now.literals (let le = c.requires.place in let ne = c.if-place-pair.false in omega (arith, le, ne)) c.opposite-lit.result c.opposite-lit.ensures c.opposite.result
    c.opposite.ensures c.in_ok-none.none c.in_ok-none.ensures c.surely_makes.result c.surely_makes.ensures c.if-surely_makes.false c.in_ok-refute_way.field-0 c.in_ok-refute_way.ensures.told
    in
    let gone = when_false c.in_ok-refute_way.field-0 _ c.if-not-branch.true at.way in
    let known = pair.rules.now in
    let have = c.args.trail.now.literals in
    λ all. open_stays known c.args.held.now.more.now have pair.act.now (slice_index pair.clause.now c.args.place) (drop (c.args.place + 1) pair.clause.now) (action_surely_makes pair.act.now (opposite (slice_index pair.clause.now c.args.place)))
    at.unsure gone (subst (λ (ls : List ℕ). AreContradicted known c.args.held.now.more.now have (cases_of pair.act.now ls)) (at_place pair.clause.now c.args.place at.within) all)

pub refute_ways-returns-then-place-pair-clause-told : goal.refute_ways-returns-then-place-pair-clause-told
refute_ways-returns-then-place-pair-clause-told t c =
    let pair = c.args.pair.now in
    let tr = c.args.trail.now.literals in
    rest_same pair.rules.now c.args.held.now.more.now tr pair.act.now (drop c.args.place pair.clause.now) [] c.in_ok-refuted.refuted (at_end pair.clause.now c.args.place c.if-place-pair.true)
    (either_way c.in_ok-refuted.refuted (leaf_true pair.rules.now c.args.held.now.more.now tr pair.act.now) (leaf_false pair.rules.now c.args.held.now.more.now tr pair.act.now c.settle.new.trail.literals c.requires.ready.apart) c.in_ok-refuted.ensures.told)

pub refute_made-refute_way-requires-2 : goal.refute_made-refute_way-requires-2
refute_made-refute_way-requires-2 t c =
    let pair = c.args.at.now.pair.now in
    let facts = c.requires.at.ready.facts in
    let none = subst (λ (k : ℕ). AllByRecursion (AreBelow (2 * k)) c.args.at.now.none.now) (sym facts) (subst (λ (cs : List (List ℕ)). AllByRecursion (AreBelow (2 * pair.rules.now.known.now.facts)) cs) (sym c.requires.at.none) (none_below pair.rules.now.known.now.facts _ pair.act.now.effects c.requires.at.pair.fits.effects)) in
    (search rules, (c.requires.at.pair, (c.requires.at.place, (c.requires.cond, (none, c.requires.at.ready)))))

pub refute_from-returns-then-branch-clause-told : goal.refute_from-returns-then-branch-clause-told
refute_from-returns-then-branch-clause-told t c =
    let pair = c.args.pair.now in
    settled_clash pair.rules.now c.args.held.now.more.now c.args.trail.now.literals (when_true c.in_ok-settle.field-0 _ c.if-branch.true c.in_ok-settle.ensures.told) (cases_of pair.act.now (drop c.args.place pair.clause.now))

pub refute_from-refute_ways-requires-2 : goal.refute_from-refute_ways-requires-2
refute_from-refute_ways-requires-2 t c =
    let pair = c.args.pair.now in
    let told = when_false c.in_ok-settle.field-0 _ c.if-branch.false c.in_ok-settle.ensures.told in
    (search rules, record { pair = c.requires.pair; place = c.requires.place; ready = ready_settled pair c.args.held.now c.args.trail.now c.settle.new.trail c.requires.ready c.in_ok-settle.ensures.facts told.0.front told.0.apart _ refl c.len.ensures.is told.1 })

pub refute_from-returns-clause-front : goal.refute_from-returns-clause-front
refute_from-returns-clause-front t c = front_then c.args.trail.now.literals c.settle.new.trail.literals c.refute_ways-2.new.trail.literals c.in_ok-settle.ensures.front c.in_ok-refuted-2.ensures.front

pub refute_from-returns-clause-told : goal.refute_from-returns-clause-told
refute_from-returns-clause-told t c =
    let pair = c.args.pair.now in
    let told = when_false c.in_ok-settle.field-0 _ c.if-branch.false c.in_ok-settle.ensures.told in
    settled_told pair.rules.now c.args.held.now.more.now c.args.trail.now.literals c.settle.new.trail.literals told.0 (cases_of pair.act.now (drop c.args.place pair.clause.now)) c.in_ok-refuted-2.refuted c.in_ok-refuted-2.ensures.told
