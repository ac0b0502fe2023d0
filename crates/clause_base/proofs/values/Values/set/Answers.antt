use Rattle.std.proofs.Common.{arith, ◌≡◌, ◌∙◌, Bool, Option, Some, None, true, false, refl, ap, sym}
use Rattle.std.specs.List.{slice_set}
use Rattle.clause_base.specs.Choice.{Known}
use Rattle.clause_base.proofs.ValueLemmas.{variable_below, value_both}
use Rattle.clause_base.proofs.values.Values.set.Goals as goal

pub index_mut-requires : goal.index_mut-requires
index_mut-requires c = let h = variable_below _ _ c.args.v _ c.args.self.now c.self.invariant c.self.view_is c.requires in omega (arith, h.1, c.self.inside.on.ok)

pub index_mut-requires-in-Some-true : goal.index_mut-requires-in-Some-true
index_mut-requires-in-Some-true c = let h = variable_below _ _ c.args.v _ c.args.self.now c.self.invariant c.self.view_is c.requires in omega (arith, h.1, c.self.inside.on.ok)

pub index_mut-requires-in-Some-false : goal.index_mut-requires-in-Some-false
index_mut-requires-in-Some-false c = let h = variable_below _ _ c.args.v _ c.args.self.now c.self.invariant c.self.view_is c.requires in omega (arith, h.1, c.self.inside.on.ok)

pub index_mut-requires-in-Some-false-2 : goal.index_mut-requires-in-Some-false-2
index_mut-requires-in-Some-false-2 c = let h = variable_below _ _ c.args.v _ c.args.self.now c.self.invariant c.self.view_is c.requires in omega (arith, h.1, c.self.inside.on.ok)

pub index_mut-requires-in-None : goal.index_mut-requires-in-None
index_mut-requires-in-None c = let h = variable_below _ _ c.args.v _ c.args.self.now c.self.invariant c.self.view_is c.requires in omega (arith, h.1, c.self.inside.on.ok)

pub index_mut-requires-in-None-2 : goal.index_mut-requires-in-None-2
index_mut-requires-in-None-2 c = let h = variable_below _ _ c.args.v _ c.args.self.now c.self.invariant c.self.view_is c.requires in omega (arith, h.1, c.self.inside.on.ok)

pub invariant_of-self : goal.invariant_of-self
invariant_of-self c =
    let w = c.self.inside in
    let h = variable_below _ _ c.args.v _ c.args.self.now c.self.invariant c.self.view_is c.requires in
    (value_both w.variables w.low w.low c.args.v w.on.items true false c.self.invariant h.0 (λ e. refl) (omega arith) (λ e. absurd (let z : ⊥ = cc in z))).1

pub invariant_of-self-in-Some-false : goal.invariant_of-self-in-Some-false
invariant_of-self-in-Some-false c =
    let w = c.self.inside in
    let h = variable_below _ _ c.args.v _ c.args.self.now c.self.invariant c.self.view_is c.requires in
    (value_both w.variables w.low w.low c.args.v w.on.items false true c.self.invariant h.0 (λ e. absurd (let z : ⊥ = cc in z)) (omega arith) (λ e. absurd (let z : ⊥ = cc in z))).1

pub invariant_of-self-in-None : goal.invariant_of-self-in-None
invariant_of-self-in-None c =
    let w = c.self.inside in
    let h = variable_below _ _ c.args.v _ c.args.self.now c.self.invariant c.self.view_is c.requires in
    (value_both w.variables w.low c.min-self-inside.result c.args.v w.on.items false false c.self.invariant h.0 (λ e. refl) (omega (arith, c.min-self-inside.ensures))
    (λ e. omega (arith, c.min-self-inside.ensures))).1

pub returns-in-Some-true : goal.returns-in-Some-true
returns-in-Some-true c =
    let w = c.self.inside in
    let h = variable_below _ _ c.args.v _ c.args.self.now c.self.invariant c.self.view_is c.requires in
    let value : ◌≡◌ {A = Option Bool} c.args.value (Some true) = c.in-Some-true.is ∙ ap (λ (b : Bool). Some b) c.in-Some-true.field-0-test in
    (value_both w.variables w.low w.low c.args.v w.on.items true false c.self.invariant h.0 (λ e. refl) (omega arith) (λ e. absurd (let z : ⊥ = cc in z))).0
    ∙ ap (λ (values : Known). slice_set values c.args.v (Some true)) c.self.view_is
    ∙ ap (λ (x : Option Bool). slice_set c.args.self.now c.args.v x) (sym value)

pub returns-in-Some-false : goal.returns-in-Some-false
returns-in-Some-false c =
    let w = c.self.inside in
    let h = variable_below _ _ c.args.v _ c.args.self.now c.self.invariant c.self.view_is c.requires in
    let value : ◌≡◌ {A = Option Bool} c.args.value (Some false) = c.in-Some-false.is ∙ ap (λ (b : Bool). Some b) c.in-Some-false.field-0-test in
    (value_both w.variables w.low w.low c.args.v w.on.items false true c.self.invariant h.0 (λ e. absurd (let z : ⊥ = cc in z)) (omega arith) (λ e. absurd (let z : ⊥ = cc in z))).0
    ∙ ap (λ (values : Known). slice_set values c.args.v (Some false)) c.self.view_is
    ∙ ap (λ (x : Option Bool). slice_set c.args.self.now c.args.v x) (sym value)

pub returns-in-None : goal.returns-in-None
returns-in-None c =
    let w = c.self.inside in
    let h = variable_below _ _ c.args.v _ c.args.self.now c.self.invariant c.self.view_is c.requires in
    (value_both w.variables w.low 0 c.args.v w.on.items false false c.self.invariant h.0 (λ e. refl) (omega arith) (λ e. omega arith)).0
    ∙ ap (λ (values : Known). slice_set values c.args.v None) c.self.view_is
    ∙ ap (λ (x : Option Bool). slice_set c.args.self.now c.args.v x) (sym c.in-None.is)
