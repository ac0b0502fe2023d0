use Rattle.std.proofs.Common.{arith, ◌≡◌, ◌∙◌, ℕ, length, get_or, subst}
use Rattle.std.proofs.lemmas.List.{get_or_read}
use Rattle.propagation.specs.own.Latest.{IsFreeUntil, AreLatest}
use Rattle.propagation.proofs.fall.latest_two.Goals as goal

pub loop-place-init : goal.loop-place-init
loop-place-init c =
    let trail = c.args.assignment.now.trail in
    let k = c.args.clause.now in
    let v = c.args.assignment.now.variables in
    let a : c.a.inside.0 ≡ get_or k 0 0 = c.a.view_is ∙ get_or_read k 0 c.index-clause-0.result (omega (arith, c.requires.two)) c.index-clause-0.is 0 in
    let b : c.b.inside.0 ≡ get_or k 1 0 = c.b.view_is ∙ get_or_read k 1 c.index-clause-1.result (omega (arith, c.requires.two)) c.index-clause-1.is 0 in
    record {
      within = c.requires.two;
      latest = c.of_two-two.ensures trail k v
          (subst (λ (l : ℕ). IsFreeUntil trail l v c.free_until-one.result) a
          (record { lasts = c.free_until-one.ensures.lasts; within = c.free_until-one.ensures.within; short = c.free_until-one.ensures.short }))
          (subst (λ (l : ℕ). IsFreeUntil trail l v c.free_until-other.result) b
          (record { lasts = c.free_until-other.ensures.lasts; within = c.free_until-other.ensures.within; short = c.free_until-other.ensures.short }));
    }

pub loop-place-preserved : goal.loop-place-preserved
loop-place-preserved c =
    let trail = c.args.assignment.now.trail in
    let k = c.args.clause.now in
    let v = c.args.assignment.now.variables in
    let p = c.loop-place.place in
    let lit : c.lit.inside.0 ≡ get_or k p 0 = c.lit.view_is ∙ get_or_read k p c.index-clause-place.result (omega (arith, c.loop-place-test.true)) c.index-clause-place.is 0 in
    record {
      within = omega (arith, c.loop-place-test.true);
      latest = c.with_place-two.ensures trail k v c.loop-place.invariant.latest
          (subst (λ (l : ℕ). IsFreeUntil trail l v c.free_until-until.result) lit
          (record { lasts = c.free_until-until.ensures.lasts; within = c.free_until-until.ensures.within; short = c.free_until-until.ensures.short }));
    }

pub returns : goal.returns
returns c =
    let end : c.loop-place.place ≡ length c.args.clause.now = omega (arith, c.loop-place-test.false, c.loop-place.invariant.within) in
    subst (λ (n : ℕ). AreLatest c.args.assignment.now.trail c.args.clause.now c.args.assignment.now.variables n c.loop-place.two) end c.loop-place.invariant.latest
