use Rattle.std.proofs.Common.{◌≡◌, ◌∙◌, sym, length}
use Rattle.std.proofs.lemmas.Bool.{eqb-true}
use Rattle.std.proofs.lemmas.Result.{on_ok_weaker}
use Rattle.grounder.specs.own.Putting.{effects_at}
use Rattle.grounder.proofs.Put.{bare_added, change_added, changes_added}
use Rattle.grounder.proofs.Listed.{nothing_added}
use Rattle.grounder.proofs.effects.add_instances.Goals as goal

pub loop-number-preserved : goal.loop-number-preserved
loop-number-preserved c =
    let are = rw c.as_slice-over.ensures at c.in_ok-bindings.ensures in
    change_added c.args.known.now.domains.now c.args.known.now.facts c.args.objects.now c.args.effect.now c.in_ok-bindings.bindings are c.loop-number.number c.loop-number-test.true
    c.deref.result.now (c.deref.ensures.value ∙ c.in_ok-objects.ensures) (effects_at c.args.into.now.items) (effects_at c.loop-number.into.items) (effects_at c.add_effect-in-loop-number.new.into.items)
    c.loop-number.invariant c.in_ok-add_effect.ensures

pub returns : goal.returns
returns c =
    let are = rw c.as_slice-over.ensures at c.in_ok-bindings.ensures in
    changes_added c.args.known.now.domains.now c.args.known.now.facts c.args.objects.now c.args.effect.now c.in_ok-bindings.bindings are c.loop-number.number c.loop-number-test.false
    (effects_at c.args.into.now.items) (effects_at c.loop-number.into.items) c.loop-number.invariant

pub returns-then-not-have_objects : goal.returns-then-not-have_objects
returns-then-not-have_objects c =
    let none = rw c.as_slice-over.ensures at c.have_objects.ensures.none c.if-not-have_objects.true in
    nothing_added c.args.known.now.domains.now c.args.known.now.facts c.args.objects.now c.args.effect.now (effects_at c.args.into.now.items) none

pub returns-then-is_empty : goal.returns-then-is_empty
returns-then-is_empty c =
    let none : length c.args.effect.now.over ≡ 0 = rw c.as_slice-over.ensures at (eqb-true (length c.as_slice-over.result.now) 0 (sym c.is_empty.ensures ∙ c.if-is_empty.true)) in
    on_ok_weaker c.add_effect.result
    (bare_added c.args.known.now.domains.now c.args.known.now.facts c.args.objects.now c.args.effect.now (effects_at c.args.into.now.items) (effects_at c.add_effect.new.into.items) none)
    c.add_effect.ensures
