use Rattle.std.proofs.Common.{◌<◌, ◌∙◌, ℕ, List, [], Some, map, length, sym, ap, subst}
use Rattle.std.specs.Arc.{arc_value}
use Rattle.std.specs.List.{AllByRecursion}
use Rattle.std.specs.Prelude.{slice_index_or}
use Rattle.goal_choice.specs.declared.supporters.Blocks.{Blocks}
use Rattle.goal_choice.specs.Means.{Supporter, variable_from}
use Rattle.goal_choice.specs.own.Members.{IsWithin}
use Rattle.goal_choice.specs.own.Needs.{supporter_in}
use Rattle.goal_choice.specs.Walk.{least_with}
use Rattle.goal_choice.proofs.Found.{row, seen_row, of_variables, least_found, least_variable_is, found}
use Rattle.goal_choice.proofs.supporters.Supporters.least_with.Goals as goal

pub least_variable-requires-clause-within : goal.least_variable-requires-clause-within
least_variable-requires-clause-within c =
    let b = arc_value c.self.inside.blocks in
    let variables = c.list_at-variables.ensures ∙ ap (λ (b : Blocks). slice_index_or b.variables c.args.lit []) c.deref.ensures in
    let whole = seen_row c.args.self.now _ _ b.needs b.variables c.args.lit c.list_at-variables.result.now c.self.view_is variables in
    of_variables (λ s. variable_from c.args.start s < length c.args.values.now) b.needs c.list_at-variables.result.now
    (subst (AllByRecursion (λ s. variable_from c.args.start s < length c.args.values.now)) whole c.requires.within)

pub of-requires : goal.of-requires
of-requires c =
    let b = arc_value c.self.inside.blocks in
    let z = c.self.inside.layout in
    let variables = c.list_at-variables.ensures ∙ ap (λ (b : Blocks). slice_index_or b.variables c.args.lit []) c.deref.ensures in
    let whole = row b.needs b.variables c.args.lit ∙ ap (λ (vs : List ℕ). map (supporter_in b.needs) vs) (sym variables) in
    let all = of_variables (IsWithin z) b.needs c.list_at-variables.result.now (subst (AllByRecursion (IsWithin z)) whole (c.self.invariant.0.each c.args.lit)) in
    let within = least_variable_is (λ v. IsWithin z (supporter_in b.needs v)) c.args.values.now c.args.value c.args.start c.list_at-variables.result.now c.in-Some.variable all c.in-Some.ensures in
    subst (λ (n : ℕ). c.in-Some.variable < n) (sym (ap (λ (b : Blocks). length b.needs) c.deref-in-Some.ensures ∙ c.self.invariant.2)) within.variable

pub returns-in-None-clause-none : goal.returns-in-None-clause-none
returns-in-None-clause-none c =
    let b = arc_value c.self.inside.blocks in
    let variables = c.list_at-variables.ensures ∙ ap (λ (b : Blocks). slice_index_or b.variables c.args.lit []) c.deref.ensures in
    let whole = seen_row c.args.self.now _ _ b.needs b.variables c.args.lit c.list_at-variables.result.now c.self.view_is variables in
    ap (least_with c.args.values.now c.args.value c.args.start) whole
    ∙ least_found b.needs c.args.values.now c.args.value c.args.start c.list_at-variables.result.now
    ∙ ap (found b.needs) (sym c.in-None.ensures)

pub returns-in-Some-clause-some : goal.returns-in-Some-clause-some
returns-in-Some-clause-some c =
    let b = arc_value c.self.inside.blocks in
    let v = c.in-Some.variable in
    let variables = c.list_at-variables.ensures ∙ ap (λ (b : Blocks). slice_index_or b.variables c.args.lit []) c.deref.ensures in
    let whole = seen_row c.args.self.now _ _ b.needs b.variables c.args.lit c.list_at-variables.result.now c.self.view_is variables in
    ap (least_with c.args.values.now c.args.value c.args.start) whole
    ∙ least_found b.needs c.args.values.now c.args.value c.args.start c.list_at-variables.result.now
    ∙ ap (found b.needs) (sym c.in-Some.ensures)
    ∙ ap (λ (ns : List ℕ). Some (let s : Supporter = record { variable = v; needs = ns } in s)) (sym (c.of.ensures ∙ ap (λ (b : Blocks). slice_index_or b.needs v []) c.deref-in-Some.ensures))
