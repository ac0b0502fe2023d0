use Rattle.std.proofs.Common.{arith, ◌∙◌, ◌/◌, ◌%◌, ◌==◌, ℕ, false, Some, None, ap}
use Rattle.std.specs.List.{slice_set}
use Rattle.clause_base.specs.Choice.{Known}
use Rattle.clause_base.specs.ValueTruths.{values_of}
use Rattle.clause_base.proofs.ValueLemmas.{literal_got, values-set, elsewhere_set, value_taken}
use Rattle.clause_base.proofs.values.Values.take_back.Goals as goal

pub index_mut-requires : goal.index_mut-requires
index_mut-requires c =
    let w = c.self.inside in
    let got = literal_got w.variables w.low c.args.lit w.on.items c.args.self.now (Some (c.args.lit % 2 == 0)) c.self.invariant c.self.view_is c.requires in
    omega (arith, got.2, c.lit.view_is, w.on.ok)

pub returns : goal.returns
returns c =
    let w = c.self.inside in
    let got = literal_got w.variables w.low c.args.lit w.on.items c.args.self.now (Some (c.args.lit % 2 == 0)) c.self.invariant c.self.view_is c.requires in
    let now = value_taken w.on.items c.args.lit got.2 (c.self.invariant.one (c.args.lit / 2)) got.1 in
    ap (λ (l : ℕ). values_of w.variables (slice_set w.on.items l false)) c.lit.view_is
    ∙ values-set w.variables (c.args.lit / 2) w.on.items (slice_set w.on.items c.args.lit false) None got.0 (elsewhere_set w.on.items c.args.lit false) now.0
    ∙ ap (λ (values : Known). slice_set values (c.args.lit / 2) None) c.self.view_is
