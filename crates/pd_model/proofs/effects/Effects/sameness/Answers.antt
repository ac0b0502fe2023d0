use Rattle.std.proofs.Common.{◌≡◌, ◌≤◌, ◌∙◌, arith, List, length, ap, sym, subst, take}
use Rattle.std.specs.Prelude.{Some, slice_get}
use Rattle.pd_model.specs.declared.effects.Effect.{Effect}
use Rattle.pd_model.specs.declared.sameness.Sameness.{Sameness}
use Rattle.pd_model.specs.Sameness.{IsSame, last_under, no_under, under_of}
use Rattle.pd_model.proofs.published.Marks.{marked_long, marked_at}
use Rattle.pd_model.proofs.effects.Effects.sameness.Goals as goal

pub index-requires : goal.index-requires
index-requires c =
    let within = marked_long no_under c.self.inside.items.items c.self.inside.marks.items c.self.invariant in
    omega (arith, within, ap length c.self.view_is, c.requires, c.self.inside.marks.ok)

pub returns : goal.returns
returns c = λ e at.
    let here = ap (λ (es : List Effect). slice_get es c.args.place) c.self.view_is ∙ at in
    let is = marked_at no_under c.self.inside.items.items c.self.inside.marks.items c.args.place c.index.result.now e c.self.invariant here in
    subst (λ (es : List Effect). IsSame (last_under no_under (take c.args.place es)) (under_of e) c.index.result.now) c.self.view_is
    (subst (λ (m : Sameness). IsSame (last_under no_under (take c.args.place c.self.inside.items.items)) (under_of e) m) (sym c.index.ensures) is)
