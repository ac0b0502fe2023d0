use Rattle.std.proofs.Common.{◌∙◌, ◌<◌, ◌≤◌, Bool, length, List, ℕ, sym, ap, refl, subst, get_or}
use Rattle.clause_base.specs.declared.log.Entry.TheVariants.{Drop}
use Rattle.lrat_judge.specs.Follow.{number_named, with_entry}
use Rattle.lrat_judge.specs.Reached.{Enters}
use Rattle.lrat_judge.proofs.Entering.{forgets_none, forgets_stop, forgets_more, forgets_all}
use Rattle.lrat_judge.proofs.entries.forget.Goals as goal

pub loop-id-init : goal.loop-id-init
loop-id-init c = record { formula = refl; has = c.requires; exact = λ log taken count. (log, taken, count, refl) }

pub returns-in_default-clause-exact : goal.returns-in_default-clause-exact
returns-in_default-clause-exact c log taken count =
    let s = c.loop-id.invariant.exact log taken count in
    let ids = c.deref-id-items.ensures.value in
    let less = subst (λ (xs : List ℕ). c.loop-id.id-index < length xs) ids c.loop-id-test.true in
    let named = sym c.in_default.is ∙ (c.number_of.ensures ∙ ap (λ (xs : List ℕ). number_named c.args.ids.now (get_or xs c.loop-id.id-index 0)) ids) in
    forgets_none c.args.checker.now.formula c.loop-id.checker.formula c.loop-id.invariant.formula c.args.ids.now c.args.line.now.ids.items c.loop-id.id-index less log s.0 s.3 _ _ named

pub returns-then-not-forget_counted-clause-exact : goal.returns-then-not-forget_counted-clause-exact
returns-then-not-forget_counted-clause-exact c log taken count =
    let s = c.loop-id.invariant.exact log taken count in
    let ids = c.deref-id-items.ensures.value in
    let less = subst (λ (xs : List ℕ). c.loop-id.id-index < length xs) ids c.loop-id-test.true in
    let named = sym c.in-Some.is ∙ (c.number_of.ensures ∙ ap (λ (xs : List ℕ). number_named c.args.ids.now (get_or xs c.loop-id.id-index 0)) ids) in
    let entered = subst (λ (b : Bool). Enters b c.forget_counted.new.checker c.forget_counted.new.entries (with_entry c.loop-id.checker.formula s.0 (Drop c.in-Some.number))) c.if-not-forget_counted.true (c.forget_counted.ensures.exact s.0 s.1 s.2) in
    forgets_stop c.args.checker.now.formula c.loop-id.checker.formula c.loop-id.invariant.formula c.args.ids.now c.args.line.now.ids.items c.loop-id.id-index less log s.0 s.3 _ _ c.in-Some.number named entered

pub loop-id-preserved : goal.loop-id-preserved
loop-id-preserved c = record {
  formula = c.forget_counted.ensures.formula ∙ c.loop-id.invariant.formula;
  has = c.forget_counted.ensures.counted;
  exact = λ log taken count.
      let s = c.loop-id.invariant.exact log taken count in
      let ids = c.deref-id-items.ensures.value in
      let less = subst (λ (xs : List ℕ). c.loop-id.id-index < length xs) ids c.loop-id-test.true in
      let named = sym c.in-Some.is ∙ (c.number_of.ensures ∙ ap (λ (xs : List ℕ). number_named c.args.ids.now (get_or xs c.loop-id.id-index 0)) ids) in
      let entered = subst (λ (b : Bool). Enters b c.forget_counted.new.checker c.forget_counted.new.entries (with_entry c.loop-id.checker.formula s.0 (Drop c.in-Some.number))) c.if-not-forget_counted.false (c.forget_counted.ensures.exact s.0 s.1 s.2) in
      forgets_more c.args.checker.now.formula c.loop-id.checker.formula c.loop-id.invariant.formula c.args.ids.now c.args.line.now.ids.items c.loop-id.id-index less log s.0 s.3 _ _ c.in-Some.number named entered;
}

pub returns-clause-exact : goal.returns-clause-exact
returns-clause-exact c log taken count =
    let s = c.loop-id.invariant.exact log taken count in
    let all = subst (λ (xs : List ℕ). length xs ≤ c.loop-id.id-index) c.deref-id-items.ensures.value c.loop-id-test.false in
    forgets_all c.args.checker.now.formula c.args.ids.now c.args.line.now.ids.items c.loop-id.id-index log s.0 _ _ all s.3 s.1 s.2
