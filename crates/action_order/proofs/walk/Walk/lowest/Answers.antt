use Rattle.std.proofs.Common.{arith, ◌&&◌, ◌<◌, ◌+◌, ℕ, List, [], length, sym, ap, ◌∙◌, subst}
use Rattle.std.proofs.lemmas.List.{get_or_read}
use Rattle.bit_sets.specs.Rows.{row_has, IsLeastFrom}
use Rattle.action_order.specs.own.Walk.{place_of, IsLowestBelow}
use Rattle.action_order.specs.declared.walk.Mark.TheVariants.{Unseen}
use Rattle.action_order.proofs.WalkLaw.{lowest_more, lowest_all, lowest_bottom, common_in, common_none, common_below}
use Rattle.action_order.proofs.walk.Walk.lowest.Goals as goal

pub look-preserved : goal.look-preserved
look-preserved c =
    let row = get_or_read c.args.targets.now c.args.v c.index-targets-v.result c.requires.vertex c.index-targets-v.is [] in
    let f = common_in _ _ _ c.in-Some.w (subst (λ (xs : List ℕ). IsLeastFrom (λ k. row_has xs k && row_has c.args.self.now.stacked k) c.look.from c.least_common.result) row c.least_common.ensures) c.in-Some.is in
    let below = c.requires.graph c.args.v c.in-Some.w (common_below _ _ f.1) in
    let lt : c.in-Some.w < length c.args.self.now.marks.items = let l = c.requires.walk.walk.marks_long in omega arith in
    let mark = get_or_read c.args.self.now.marks.items c.in-Some.w c.index.result.now lt c.index.ensures Unseen in
    subst (IsLowestBelow c.args.targets.now c.args.self.now.marks.items c.args.v (c.in-Some.w + 1)) (sym c.lower-lowest.ensures)
    (lowest_more c.args.targets.now c.args.self.now.marks.items c.args.v c.look.from c.in-Some.w c.place_of-place.result c.look.lowest c.args.self.now.stacked c.requires.walk.sets.stacked c.look.invariant f.2 f.1 (c.place_of-place.ensures ∙ ap place_of mark))

pub returns-in-None : goal.returns-in-None
returns-in-None c =
    let row = get_or_read c.args.targets.now c.args.v c.index-targets-v.result c.requires.vertex c.index-targets-v.is [] in
    lowest_all c.args.targets.now c.args.self.now.marks.items c.args.v c.look.from c.look.lowest c.args.self.now.stacked c.requires.walk.sets.stacked c.look.invariant
    (common_none _ _ _ (subst (λ (xs : List ℕ). IsLeastFrom (λ k. row_has xs k && row_has c.args.self.now.stacked k) c.look.from c.least_common.result) row c.least_common.ensures) c.in-None.is)

pub returns-then-place-eq0 : goal.returns-then-place-eq0
returns-then-place-eq0 c =
    let row = get_or_read c.args.targets.now c.args.v c.index-targets-v.result c.requires.vertex c.index-targets-v.is [] in
    let f = common_in _ _ _ c.in-Some.w (subst (λ (xs : List ℕ). IsLeastFrom (λ k. row_has xs k && row_has c.args.self.now.stacked k) c.look.from c.least_common.result) row c.least_common.ensures) c.in-Some.is in
    let below = c.requires.graph c.args.v c.in-Some.w (common_below _ _ f.1) in
    let lt : c.in-Some.w < length c.args.self.now.marks.items = let l = c.requires.walk.walk.marks_long in omega arith in
    let mark = get_or_read c.args.self.now.marks.items c.in-Some.w c.index.result.now lt c.index.ensures Unseen in
    lowest_bottom c.args.targets.now c.args.self.now.marks.items c.args.v c.in-Some.w c.place_of-place.result c.args.self.now.stacked c.requires.walk.sets.stacked f.1 (c.place_of-place.ensures ∙ ap place_of mark) c.if-place-eq0.true

pub look-smaller : goal.look-smaller
look-smaller c =
    let row = get_or_read c.args.targets.now c.args.v c.index-targets-v.result c.requires.vertex c.index-targets-v.is [] in
    let f = common_in _ _ _ c.in-Some.w (subst (λ (xs : List ℕ). IsLeastFrom (λ k. row_has xs k && row_has c.args.self.now.stacked k) c.look.from c.least_common.result) row c.least_common.ensures) c.in-Some.is in
    let below = c.requires.graph c.args.v c.in-Some.w (common_below _ _ f.1) in
    let from = f.0 in
    omega arith

pub index-requires : goal.index-requires
index-requires c =
    let row = get_or_read c.args.targets.now c.args.v c.index-targets-v.result c.requires.vertex c.index-targets-v.is [] in
    let f = common_in _ _ _ c.in-Some.w (subst (λ (xs : List ℕ). IsLeastFrom (λ k. row_has xs k && row_has c.args.self.now.stacked k) c.look.from c.least_common.result) row c.least_common.ensures) c.in-Some.is in
    let below = c.requires.graph c.args.v c.in-Some.w (common_below _ _ f.1) in
    let l = c.requires.walk.walk.marks_long in
    omega arith
