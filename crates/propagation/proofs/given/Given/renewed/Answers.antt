use Rattle.std.proofs.Common.{arith, ◌≡◌, ◌≤◌, ◌+◌, ◌*◌, ◌∙◌, ℕ, List, length, ap, refl, sym, subst}
use Rattle.cdcl_defs.specs.State.{clause_at}
use Rattle.propagation.specs.own.Given.{AreGiven}
use Rattle.propagation.proofs.Givens.{given_none}
use Rattle.propagation.proofs.Templates.{whole_long, told_two, steps_two, times_two, after_two, twos_of, after_parts}
use Rattle.propagation.proofs.given.Given.renewed.Goals as goal
use Rattle.propagation.proofs.given.Given.renewed.Goals.{In_ok-told, In_ok-stepped, In_ok-timed, In_ok-last}

-- a list has so many clauses
sized : {count : ℕ} {list own : List (List ℕ)} → count ≡ length list → list ≡ own → count ≡ length own
sized n l = n ∙ ap (λ (cs : List (List ℕ)). length cs) l

-- so many clauses are few
few_clauses : {own list : List (List ℕ)} → length own ≤ 1073741824 → list ≡ own → length list ≤ 1073741824
few_clauses few same = subst (λ (cs : List (List ℕ)). length cs ≤ 1073741824) (sym same) few

-- where the parts begin
told_end : (c : In_ok-told) → c.in_ok-told.told ≡ length c.parts-parts.result.told.now
told_end c = omega (arith, c.in_ok-told.ensures.next, sized c.in_ok-told_others.ensures.count refl)

steps_end : (c : In_ok-stepped) → c.in_ok-told.told ≡ length c.parts-parts.result.told.now
    → c.in_ok-stepped.stepped ≡ length c.parts-parts.result.told.now + c.parts-parts.result.repeated.now.horizon * length c.parts-parts.result.repeated.now.step
steps_end c told =
    let r = c.parts-parts.result.repeated.now in
    after_parts c.in_ok-stepped.stepped c.in_ok-told.told c.horizon-steps.result c.in_ok-step_others.step_others.count r.horizon (length r.step)
    c.in_ok-stepped.ensures.next c.horizon-steps.ensures.value (sized c.in_ok-step_others.ensures.count c.step.ensures)
    ∙ ap (λ (n : ℕ). n + r.horizon * length r.step) told

times_end : (c : In_ok-timed)
    → c.in_ok-stepped.stepped ≡ length c.parts-parts.result.told.now + c.parts-parts.result.repeated.now.horizon * length c.parts-parts.result.repeated.now.step
    → c.in_ok-timed.timed ≡ length c.parts-parts.result.told.now + c.parts-parts.result.repeated.now.horizon * length
    c.parts-parts.result.repeated.now.step + c.parts-parts.result.repeated.now.horizon * length c.parts-parts.result.repeated.now.time
times_end c stepped =
    let r = c.parts-parts.result.repeated.now in
    after_parts c.in_ok-timed.timed c.in_ok-stepped.stepped c.horizon-steps.result c.in_ok-time_others.time_others.count r.horizon (length r.time)
    c.in_ok-timed.ensures.next c.horizon-steps.ensures.value (sized c.in_ok-time_others.ensures.count c.time.ensures)
    ∙ ap (λ (n : ℕ). n + r.horizon * length r.time) stepped

last_end : (c : In_ok-last)
    → c.in_ok-timed.timed ≡ length c.parts-parts.result.told.now + c.parts-parts.result.repeated.now.horizon * length
    c.parts-parts.result.repeated.now.step + c.parts-parts.result.repeated.now.horizon * length c.parts-parts.result.repeated.now.time
    → c.in_ok-last.last ≡ length c.parts-parts.result.told.now + c.parts-parts.result.repeated.now.horizon * length
    c.parts-parts.result.repeated.now.step + (c.parts-parts.result.repeated.now.horizon + 1) * length c.parts-parts.result.repeated.now.time
last_end c timed = omega (arith, timed, c.in_ok-last.ensures.next, sized c.in_ok-time_others.ensures.count c.time.ensures)

pub enter_part-requires-clause-given : goal.enter_part-requires-clause-given
enter_part-requires-clause-given c =
    let g = c.in_ok-given.given in
    let e = c.in_ok-given.ensures in
    given_none c.args.codes c.args.store.now.clauses g e.slots e.linked e.codes e.pending
    (omega (arith, e.room, c.count.ensures.value, ap (λ (cs : List (List ℕ)). length cs) c.requires.same))
    (omega (arith, e.asks, c.count.ensures.value, ap (λ (cs : List (List ℕ)). length cs) c.requires.same))

pub enter_part-requires-clause-twos : goal.enter_part-requires-clause-twos
enter_part-requires-clause-twos c =
    let p = c.parts-parts.result in
    told_two p.told.now p.after.now c.args.store.now.clauses p.repeated.now c.in_ok-told_others.told_others.places.items c.in_ok-told_others.told_others.count
    0 (c.requires.same ∙ c.parts-parts.ensures.clauses) refl (sized c.in_ok-told_others.ensures.count refl)
    (twos_of p.told.now p.told.now c.in_ok-told_others.told_others.places.items c.in_ok-told_others.told_others.count refl c.in_ok-told_others.ensures.twos)

pub enter_parts-requires-clause-inside : goal.enter_parts-requires-clause-inside
enter_parts-requires-clause-inside c =
    let p = c.parts-parts.result in
    let r = p.repeated.now in
    let next = after_parts (c.in_ok-told.told + c.horizon-steps.result * c.in_ok-step_others.step_others.count) c.in_ok-told.told
    c.horizon-steps.result c.in_ok-step_others.step_others.count r.horizon (length r.step) refl c.horizon-steps.ensures.value
    (sized c.in_ok-step_others.ensures.count c.step.ensures) in
    omega (arith, next, whole_long p.told.now p.after.now c.args.store.now.clauses r (c.requires.same ∙ c.parts-parts.ensures.clauses), told_end (goal.at.enter_parts-requires-clause-inside c).In_ok-told)

pub enter_parts-requires-clause-twos : goal.enter_parts-requires-clause-twos
enter_parts-requires-clause-twos c t j lt f =
    let p = c.parts-parts.result in
    let r = p.repeated.now in
    steps_two p.told.now p.after.now c.args.store.now.clauses r c.in_ok-step_others.step_others.places.items c.in_ok-step_others.step_others.count
    c.in_ok-told.told (c.requires.same ∙ c.parts-parts.ensures.clauses) (told_end (goal.at.enter_parts-requires-clause-twos c).In_ok-told)
    (sized c.in_ok-step_others.ensures.count c.step.ensures)
    (twos_of c.step.result.now r.step c.in_ok-step_others.step_others.places.items c.in_ok-step_others.step_others.count c.step.ensures
    c.in_ok-step_others.ensures.twos) t j (omega (arith, lt, c.horizon-steps.ensures.value)) f

pub enter_parts-requires-2-clause-inside : goal.enter_parts-requires-2-clause-inside
enter_parts-requires-2-clause-inside c =
    let a = goal.at.enter_parts-requires-2-clause-inside c in
    let p = c.parts-parts.result in
    let r = p.repeated.now in
    let next = after_parts (c.in_ok-stepped.stepped + c.horizon-steps.result * c.in_ok-time_others.time_others.count) c.in_ok-stepped.stepped
    c.horizon-steps.result c.in_ok-time_others.time_others.count r.horizon (length r.time) refl c.horizon-steps.ensures.value
    (sized c.in_ok-time_others.ensures.count c.time.ensures) in
    omega (arith, next, whole_long p.told.now p.after.now c.args.store.now.clauses r (c.requires.same ∙ c.parts-parts.ensures.clauses), steps_end a.In_ok-stepped (told_end a.In_ok-told))

pub enter_parts-requires-2-clause-twos : goal.enter_parts-requires-2-clause-twos
enter_parts-requires-2-clause-twos c t j lt f =
    let a = goal.at.enter_parts-requires-2-clause-twos c in
    let p = c.parts-parts.result in
    let r = p.repeated.now in
    times_two p.told.now p.after.now c.args.store.now.clauses r c.in_ok-time_others.time_others.places.items c.in_ok-time_others.time_others.count
    c.in_ok-stepped.stepped (c.requires.same ∙ c.parts-parts.ensures.clauses) (steps_end a.In_ok-stepped (told_end a.In_ok-told))
    (sized c.in_ok-time_others.ensures.count c.time.ensures)
    (twos_of c.time.result.now r.time c.in_ok-time_others.time_others.places.items c.in_ok-time_others.time_others.count c.time.ensures
    c.in_ok-time_others.ensures.twos) t j (omega (arith, lt, c.horizon-steps.ensures.value)) f

pub enter_part-requires-2-clause-inside : goal.enter_part-requires-2-clause-inside
enter_part-requires-2-clause-inside c =
    let a = goal.at.enter_part-requires-2-clause-inside c in
    let p = c.parts-parts.result in
    omega (
      arith,
      whole_long p.told.now p.after.now c.args.store.now.clauses p.repeated.now (c.requires.same ∙ c.parts-parts.ensures.clauses),
      times_end
          a.In_ok-timed (steps_end a.In_ok-stepped (told_end a.In_ok-told)),
      sized c.in_ok-time_others.ensures.count c.time.ensures,
    )

pub enter_part-requires-2-clause-twos : goal.enter_part-requires-2-clause-twos
enter_part-requires-2-clause-twos c j f =
    let a = goal.at.enter_part-requires-2-clause-twos c in
    let p = c.parts-parts.result in
    let r = p.repeated.now in
    let stepped = steps_end a.In_ok-stepped (told_end a.In_ok-told) in
    let size = sized c.in_ok-time_others.ensures.count c.time.ensures in
    let at : c.in_ok-timed.timed + j ≡ c.in_ok-stepped.stepped + (r.horizon * c.in_ok-time_others.time_others.count + j) =
    (let e = ap (λ (n : ℕ). r.horizon * n) size in omega (arith, times_end a.In_ok-timed stepped, stepped, e)) in
    ap (λ (n : ℕ). length (clause_at c.args.store.now.clauses n)) at
    ∙ times_two p.told.now p.after.now c.args.store.now.clauses r c.in_ok-time_others.time_others.places.items c.in_ok-time_others.time_others.count
    c.in_ok-stepped.stepped (c.requires.same ∙ c.parts-parts.ensures.clauses) stepped size
    (twos_of c.time.result.now r.time c.in_ok-time_others.time_others.places.items c.in_ok-time_others.time_others.count c.time.ensures c.in_ok-time_others.ensures.twos) r.horizon j (omega arith) f

pub enter_part-requires-3-clause-inside : goal.enter_part-requires-3-clause-inside
enter_part-requires-3-clause-inside c =
    let a = goal.at.enter_part-requires-3-clause-inside c in
    let p = c.parts-parts.result in
    omega (
      arith,
      whole_long p.told.now p.after.now c.args.store.now.clauses p.repeated.now (c.requires.same ∙ c.parts-parts.ensures.clauses),
      last_end
          a.In_ok-last (times_end a.In_ok-timed (steps_end a.In_ok-stepped (told_end a.In_ok-told))),
      sized c.in_ok-after_others.ensures.count refl,
    )

pub enter_part-requires-3-clause-twos : goal.enter_part-requires-3-clause-twos
enter_part-requires-3-clause-twos c =
    let a = goal.at.enter_part-requires-3-clause-twos c in
    let p = c.parts-parts.result in
    after_two p.told.now p.after.now c.args.store.now.clauses p.repeated.now c.in_ok-after_others.after_others.places.items
    c.in_ok-after_others.after_others.count c.in_ok-last.last (c.requires.same ∙ c.parts-parts.ensures.clauses)
    (last_end a.In_ok-last (times_end a.In_ok-timed (steps_end a.In_ok-stepped (told_end a.In_ok-told))))
    (twos_of p.after.now p.after.now c.in_ok-after_others.after_others.places.items c.in_ok-after_others.after_others.count refl c.in_ok-after_others.ensures.twos)

pub returns : goal.returns
returns c =
    let a = goal.at.returns c in
    let p = c.parts-parts.result in
    let e = c.enter_part-3.new.self in
    let end : c.in_ok-enter_part.field-0 ≡ length c.args.store.now.clauses = omega (
      arith,
      whole_long p.told.now p.after.now c.args.store.now.clauses p.repeated.now (c.requires.same ∙ c.parts-parts.ensures.clauses),
      last_end
          a.In_ok-last (times_end a.In_ok-timed (steps_end a.In_ok-stepped (told_end a.In_ok-told))),
      sized c.in_ok-after_others.ensures.count refl,
      c.in_ok-enter_part.ensures.next,
    ) in
    subst (λ (n : ℕ). AreGiven c.args.codes c.args.store.now.clauses n e) end c.in_ok-enter_part.ensures.given

pub enter_part-requires-clause-few : goal.enter_part-requires-clause-few
enter_part-requires-clause-few c = few_clauses c.count.ensures.few c.requires.same

pub enter_parts-requires-clause-few : goal.enter_parts-requires-clause-few
enter_parts-requires-clause-few c = few_clauses c.count.ensures.few c.requires.same

pub enter_parts-requires-2-clause-few : goal.enter_parts-requires-2-clause-few
enter_parts-requires-2-clause-few c = few_clauses c.count.ensures.few c.requires.same

pub enter_part-requires-2-clause-few : goal.enter_part-requires-2-clause-few
enter_part-requires-2-clause-few c = few_clauses c.count.ensures.few c.requires.same

pub enter_part-requires-3-clause-few : goal.enter_part-requires-3-clause-few
enter_part-requires-3-clause-few c = few_clauses c.count.ensures.few c.requires.same

pub enter_part-requires-clause-inside : goal.enter_part-requires-clause-inside
enter_part-requires-clause-inside c =
    let p = c.parts-parts.result in
    omega (arith, whole_long p.told.now p.after.now c.args.store.now.clauses p.repeated.now (c.requires.same ∙ c.parts-parts.ensures.clauses), sized c.in_ok-told_others.ensures.count refl)
