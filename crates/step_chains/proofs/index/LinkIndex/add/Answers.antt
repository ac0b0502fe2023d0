use Rattle.std.proofs.Common.{◌≡◌, ◌==◌, ◌/◌, ◌<◌, ◌||◌, ℕ, List, Bool, true, false, refl, sym, ap, ◌∙◌, subst}
use Rattle.std.specs.List.{list_any, AllByRecursion}
use Rattle.gt_core.specs.Literal.{opposite, is_in}
use Rattle.gt_core.specs.Task.{Action, Effect, action}
use Rattle.gt_core.specs.Interference.{takes, reads}
use Rattle.gt_core.specs.Active.{EffectWithin}
use Rattle.gt_core.proofs.published.Within.{action_effects_within, precondition_within}
use Rattle.step_chains.proofs.IndexLaw.{marks_then, marks_same}
use Rattle.step_chains.proofs.RangeLaw.{takers_below, readers_below, conditions_below}
use Rattle.step_chains.proofs.index.LinkIndex.add.Goals as goal

pub add_takers-requires : goal.add_takers-requires
add_takers-requires c =
    let e = c.effects.ensures ∙ ap (λ (x : Action). x.effects) c.act-act.ensures.act in
    takers_below c.args.task.now.facts _ c.effects.result.now c.requires.long (subst (λ (es : List Effect). AllByRecursion (EffectWithin c.args.task.now.facts) es) (sym e) (action_effects_within c.args.task.now c.args.a c.act-act.ensures.lawful c.requires.a))

pub add_readers-requires : goal.add_readers-requires
add_readers-requires c =
    let e = c.pre.ensures ∙ ap (λ (x : Action). x.precondition) c.act-act.ensures.act in
    readers_below c.args.task.now.facts _ c.pre.result.now (c.add_takers.ensures.long ∙ c.requires.long) (subst (λ (es : List ℕ). AllByRecursion (λ l. l / 2 < c.args.task.now.facts) es) (sym e) (precondition_within c.args.task.now c.args.a c.act-act.ensures.lawful c.requires.a))

pub add_conditions-requires : goal.add_conditions-requires
add_conditions-requires c =
    let e = c.effects-2.ensures ∙ ap (λ (x : Action). x.effects) c.act-act.ensures.act in
    conditions_below c.args.task.now.facts _ c.effects-2.result.now (c.add_readers.ensures.long ∙ c.add_takers.ensures.long ∙ c.requires.long) (subst (λ (es : List Effect). AllByRecursion (EffectWithin c.args.task.now.facts) es) (sym e) (action_effects_within c.args.task.now c.args.a c.act-act.ensures.lawful c.requires.a))

pub returns-clause-marks : goal.returns-clause-marks
returns-clause-marks c =
    let task = c.args.task.now in
    let a = c.args.a in
    let act = c.act-act.ensures.act in
    let effects : c.effects.result.now ≡ (action task a).effects = c.effects.ensures ∙ ap (λ (x : Action). x.effects) act in
    let asked : c.effects-2.result.now ≡ (action task a).effects = c.effects-2.ensures ∙ ap (λ (x : Action). x.effects) act in
    let pre : c.pre.result.now ≡ (action task a).precondition = c.pre.ensures ∙ ap (λ (x : Action). x.precondition) act in
    let t : ℕ → Bool = λ l. list_any (λ e. e.literal == opposite l) c.effects.result.now in
    let p : ℕ → Bool = λ l. is_in c.pre.result.now l in
    let q : ℕ → Bool = λ l. list_any (λ e. list_any (λ k. k / 2 == l / 2) e.condition) c.effects-2.result.now in
    marks_same a (λ l. (t l || false) || false) (λ l. takes task l a) (λ l. (false || p l) || q l) (λ l. reads task l a) c.args.self.now c.add_conditions.new.self
    (λ l. twice (t l) ∙ ap (λ (es : List Effect). list_any (λ e. e.literal == opposite l) es) effects)
    (λ l. ap (λ (ls : List ℕ). is_in ls l || q l) pre ∙ ap (λ (es : List Effect). is_in (action task a).precondition l || list_any (λ e. list_any (λ k. k / 2 == l / 2) e.condition) es) asked)
    (marks_then a (λ l. t l || false) (λ l. false) (λ l. false || p l) q c.args.self.now c.add_readers.new.self c.add_conditions.new.self
    (marks_then a t (λ l. false) (λ l. false) p c.args.self.now c.add_takers.new.self c.add_readers.new.self c.in_ok-add_takers.ensures.marks c.in_ok-add_readers.ensures.marks)
    c.in_ok-add_conditions.ensures.marks)
  where
    twice : (b : Bool) → ((b || false) || false) ≡ b
    twice true = refl
    twice false = refl
