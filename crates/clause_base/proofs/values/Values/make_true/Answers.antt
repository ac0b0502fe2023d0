use Rattle.std.proofs.Common.{arith, ◌∙◌, ◌/◌, ◌%◌, ◌==◌, ℕ, true, Some, None, ap, sym, subst, length-set}
use Rattle.std.specs.List.{slice_set}
use Rattle.clause_base.specs.Choice.{Known}
use Rattle.clause_base.specs.ValueTruths.{values_of, AreTruths}
use Rattle.clause_base.proofs.ValueLemmas.{literal_got, values-set, truths_changed, elsewhere_set, value_true}
use Rattle.clause_base.proofs.values.Values.make_true.Goals as goal

pub index_mut-requires : goal.index_mut-requires
index_mut-requires c =
    let w = c.self.inside in
    let got = literal_got w.variables w.low c.args.lit w.on.items c.args.self.now None c.self.invariant c.self.view_is c.requires in
    omega (arith, got.2, c.lit.view_is, w.on.ok)

pub invariant_of-self : goal.invariant_of-self
invariant_of-self c =
    let w = c.self.inside in
    let got = literal_got w.variables w.low c.args.lit w.on.items c.args.self.now None c.self.invariant c.self.view_is c.requires in
    let now = value_true w.on.items c.args.lit got.2 got.1 in
    subst (λ (l : ℕ). AreTruths w.variables w.low (slice_set w.on.items l true)) (sym c.lit.view_is)
    (truths_changed w.variables w.low w.low (c.args.lit / 2) w.on.items (slice_set w.on.items c.args.lit true) c.self.invariant (length-set w.on.items c.args.lit true)
    (elsewhere_set w.on.items c.args.lit true) now.1 (omega arith) (λ z. absurd (let e : ⊥ = cc in e)))

pub returns : goal.returns
returns c =
    let w = c.self.inside in
    let got = literal_got w.variables w.low c.args.lit w.on.items c.args.self.now None c.self.invariant c.self.view_is c.requires in
    let now = value_true w.on.items c.args.lit got.2 got.1 in
    ap (λ (l : ℕ). values_of w.variables (slice_set w.on.items l true)) c.lit.view_is
    ∙ values-set w.variables (c.args.lit / 2) w.on.items (slice_set w.on.items c.args.lit true) (Some (c.args.lit % 2 == 0)) got.0 (elsewhere_set w.on.items c.args.lit true) now.0
    ∙ ap (λ (values : Known). slice_set values (c.args.lit / 2) (Some (c.args.lit % 2 == 0))) c.self.view_is
