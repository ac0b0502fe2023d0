use Rattle.std.proofs.Common.{arith, ◌≡◌, ◌+◌, ◌*◌, ◌<◌, ◌∙◌, ap, not, Bool, ℕ, true, false, length, get_or, sym, subst, Option, Some}
use Rattle.std.proofs.lemmas.List.{get_or_read}
use Rattle.clause_base.specs.Clause.{has_literal}
use Rattle.propagation.specs.Pending.{is_free}
use Rattle.propagation.proofs.Scans.{IsRead, list_of, read_second, read_true, read_false, read_first, read_end}
use Rattle.propagation.proofs.scan.status_of.Goals as goal
use Rattle.propagation.proofs.scan.status_of.Goals.{After-lit, then-not-is_false+else-is_some, else-not-is_false}

-- the literal that is read is one of the clause's
inside : (c : After-lit) → c.loop-place.place < length c.args.clause.now
inside c = omega (arith, c.loop-place-test.true, c.len-place-end.ensures)

item : (c : After-lit) → c.lit.inside.0 ≡ get_or c.args.clause.now c.loop-place.place 0
item c = c.lit.view_is ∙ get_or_read c.args.clause.now c.loop-place.place c.get-lit.result (inside c) c.get-lit.ensures.item 0

below : (c : After-lit) → c.lit.inside.0 < 2 * c.args.assignment.now.variables
below c = subst (λ (n : ℕ). n < 2 * c.args.assignment.now.variables) (sym (item c)) (c.requires c.loop-place.place (inside c))

pub is_true-requires : goal.is_true-requires
is_true-requires c = below (goal.at.is_true-requires c).After-lit

pub is_false-requires : goal.is_false-requires
is_false-requires c = below (goal.at.is_false-requires c).After-lit

pub returns-then-is_true : goal.returns-then-is_true
returns-then-is_true c =
    let read = (goal.at.returns-then-is_true c).After-lit in
    read_true (has_literal c.args.assignment.now.trail) c.args.clause.now c.loop-place.place c.lit.inside.0 (inside read) (item read) (sym c.is_true.ensures ∙ c.if-is_true.true)

pub returns-then-is_some : goal.returns-then-is_some
returns-then-is_some c =
    let read = (goal.at.returns-then-is_some c).After-lit in
    let free : is_free (has_literal c.args.assignment.now.trail) c.lit.inside.0 ≡ true = ap (λ (b : Bool). not b) (sym c.is_false.ensures ∙ c.if-not-is_false.true) in
    read_second (has_literal c.args.assignment.now.trail) c.args.clause.now c.loop-place.place c.lit.inside.0 c.loop-place.left (inside read)
    (item read) c.loop-place.invariant (sym c.is_some.ensures ∙ c.if-is_some.true) free

pub loop-place-preserved : goal.loop-place-preserved
loop-place-preserved c =
    let read = (goal.at.loop-place-preserved c).After-lit in
    let xs = c.args.clause.now in
    let on = has_literal c.args.assignment.now.trail in
    let i = c.loop-place.place in
    let off : on c.lit.inside.0 ≡ false = sym c.is_true.ensures ∙ c.if-is_true.false in
    elim c.if-not-is_false.branch [
      | then-not-is_false+else-is_some w ↦
          let free : is_free on c.lit.inside.0 ≡ true = ap (λ (b : Bool). not b) (sym c.is_false.ensures ∙ w.if-not-is_false.true) in
          let first : c.if-not-is_false.left ≡ Some c.lit.inside.0 = let s = w.left-is in let v = c.lit.view_is in cc in
          subst (λ (o : Option ℕ). IsRead on xs (i + 1) o) (sym first)
          (read_first on xs i c.lit.inside.0 c.loop-place.left (inside read) (item read) c.loop-place.invariant
          (sym w.is_some.ensures ∙ w.if-is_some.false) off free)
      | else-not-is_false w ↦
          let free : is_free on c.lit.inside.0 ≡ false = ap (λ (b : Bool). not b) (sym c.is_false.ensures ∙ w.if-not-is_false.false) in
          let same : c.if-not-is_false.left ≡ c.loop-place.left = let s = w.left-is in cc in
          subst (λ (o : Option ℕ). IsRead on xs (i + 1) o) (sym same) (read_false on xs i c.lit.inside.0 c.loop-place.left (inside read) (item read) c.loop-place.invariant off free)
    ]

pub returns-in-Some : goal.returns-in-Some
returns-in-Some c =
    let all = read_end (has_literal c.args.assignment.now.trail) c.args.clause.now c.loop-place.place c.loop-place.left c.loop-place.invariant
    (omega (arith, c.loop-place-test.false, c.len-place-end.ensures)) in
    (all.0, all.1 ∙ ap list_of c.in-Some.is)

pub returns-in-None : goal.returns-in-None
returns-in-None c =
    let all = read_end (has_literal c.args.assignment.now.trail) c.args.clause.now c.loop-place.place c.loop-place.left c.loop-place.invariant
    (omega (arith, c.loop-place-test.false, c.len-place-end.ensures)) in
    (all.0, all.1 ∙ ap list_of c.in-None.is)
