use Rattle.std.proofs.Common.{◌≡◌, slice_index, sym, arith, true≢false}
use Rattle.std.proofs.lemmas.Bool.{false≢true}
use Rattle.std.proofs.lemmas.List.{get_or_read}
use Rattle.pd_model.proofs.TypeWalk.{entered_child, entered_fewer, left_fewer, left_for_parent, tree_is, child_in}
use Rattle.pd_model.proofs.walk.Walk.step.Goals as goal

pub returns-then-child-gt0-clause-goes_on : goal.returns-then-child-gt0-clause-goes_on
returns-then-child-gt0-clause-goes_on c _ =
    let w = c.requires in
    let child = sym (get_or_read c.args.self.now.last.items c.args.self.now.at c.index-child.result.now (omega (arith, w.at_type, w.last_long)) c.index-child.ensures 0) in
    let inside = child_in _ _ _ _ _ _ _ _ w child (c.if-child-gt0.true) in
    let brother = get_or_read c.args.self.now.before.items c.index-child.result.now c.index.result.now (omega (arith, inside, w.before_long)) c.index.ensures 0 in
    rw brother (entered_child _ _ _ _ _ _ _ _ w child (c.if-child-gt0.true))

pub returns-then-child-gt0-clause-fewer : goal.returns-then-child-gt0-clause-fewer
returns-then-child-gt0-clause-fewer c =
    let w = c.requires in
    let child = sym (get_or_read c.args.self.now.last.items c.args.self.now.at c.index-child.result.now (omega (arith, w.at_type, w.last_long)) c.index-child.ensures 0) in
    omega (arith, entered_fewer _ _ _ _ _ _ _ _ w child (c.if-child-gt0.true))

pub returns-then-at-eq0-clause-done : goal.returns-then-at-eq0-clause-done
returns-then-at-eq0-clause-done c _ =
    let child : slice_index c.args.self.now.last.items c.args.self.now.at ≡ 0 = grind arith in
    tree_is _ _ _ _ _ _ _ (c.requires) child (c.if-at-eq0.true)

pub returns-clause-goes_on : goal.returns-clause-goes_on
returns-clause-goes_on c _ =
    let child : slice_index c.args.self.now.last.items c.args.self.now.at ≡ 0 = grind arith in
    rw c.parent_of-self.ensures (left_for_parent _ _ _ _ _ _ _ (c.requires) child (omega (arith, c.if-at-eq0.false)))

pub returns-then-child-gt0-clause-done : goal.returns-then-child-gt0-clause-done
returns-then-child-gt0-clause-done c e = absurd (true≢false e)

pub returns-then-at-eq0-clause-goes_on : goal.returns-then-at-eq0-clause-goes_on
returns-then-at-eq0-clause-goes_on c e = absurd (false≢true e)

pub index-requires : goal.index-requires
index-requires c =
    let w = c.requires in
    let child = sym (get_or_read c.args.self.now.last.items c.args.self.now.at c.index-child.result.now (omega (arith, w.at_type, w.last_long)) c.index-child.ensures 0) in
    omega (arith, child_in _ _ _ _ _ _ _ _ w child (c.if-child-gt0.true), w.before_long, c.args.self.now.before.ok.0)

pub index_mut-requires-then-child-gt0 : goal.index_mut-requires-then-child-gt0
index_mut-requires-then-child-gt0 c =
    let w = c.requires in
    let child = sym (get_or_read c.args.self.now.last.items c.args.self.now.at c.index-child.result.now (omega (arith, w.at_type, w.last_long)) c.index-child.ensures 0) in
    omega (arith, child_in _ _ _ _ _ _ _ _ w child (c.if-child-gt0.true), w.entries_long, c.args.self.now.entries.ok.0)

pub returns-then-at-eq0-clause-fewer : goal.returns-then-at-eq0-clause-fewer
returns-then-at-eq0-clause-fewer c = omega (arith, left_fewer _ _ _ _ _ _ _ (c.requires))

pub returns-clause-fewer : goal.returns-clause-fewer
returns-clause-fewer c = omega (arith, left_fewer _ _ _ _ _ _ _ (c.requires))
