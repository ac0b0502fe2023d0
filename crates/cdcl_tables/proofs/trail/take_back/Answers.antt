use Rattle.std.proofs.Common.{arith, ◌≡◌, ◌-◌, ◌/◌, ℕ, suc, None, length, take, set, get_or, ap, ◌∙◌}
use Rattle.std.specs.List.{slice_get}
use Rattle.clause_base.specs.Choice.{Known}
use Rattle.cdcl_defs.specs.State.{values_of}
use Rattle.cdcl_tables.proofs.published.Mirrors.{IsLast, last_at}
use Rattle.cdcl_tables.proofs.trail.take_back.Goals as goal
use Rattle.cdcl_tables.proofs.trail.take_back.Goals.{After-index-entries-place}

-- the entry at the place is the last of those that are left
last : (c : After-index-entries-place) → IsLast (length c.args.values.now) (c.loop-place.place - 1) c.args.entries.now (get_or c.args.entries.now (c.loop-place.place - 1) c.index-entries-place.result).literal
last c =
    last_at (length c.args.values.now) (c.loop-place.place - 1) c.args.entries.now c.index-entries-place.result c.requires.below c.requires.once
    (omega (arith, c.loop-place-test.true, c.loop-place.invariant.within.1))

-- and the values are those of the ones before it and of it
values_are : (c : After-index-entries-place) → c.loop-place.values ≡ values_of (length c.args.values.now) (take (suc (c.loop-place.place - 1)) c.args.entries.now)
values_are c =
    let next : c.loop-place.place ≡ suc (c.loop-place.place - 1) = omega (arith, c.loop-place-test.true) in
    c.loop-place.invariant.values_are ∙ ap (λ (k : ℕ). values_of (length c.args.values.now) (take k c.args.entries.now)) next

pub take_back-requires : goal.take_back-requires
take_back-requires c =
    let here = (goal.at.take_back-requires c).After-index-entries-place in
    let l = (get_or c.args.entries.now (c.loop-place.place - 1) c.index-entries-place.result).literal in
    ap (λ (vs : Known). slice_get vs (l / 2)) (values_are here) ∙ (last here).given

pub loop-place-preserved : goal.loop-place-preserved
loop-place-preserved c =
    let here = (goal.at.loop-place-preserved c).After-index-entries-place in
    let l = (get_or c.args.entries.now (c.loop-place.place - 1) c.index-entries-place.result).literal in
    record {
      within = (omega (arith, c.loop-place-test.true), omega (arith, c.loop-place.invariant.within.1));
      values_are = c.take_back.ensures ∙ ap (λ (vs : Known). set vs (l / 2) None) (values_are here) ∙ (last here).taken;
    }
