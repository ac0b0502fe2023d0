use Rattle.std.proofs.Common.{refl, ◌∙◌, []}
use Rattle.std.proofs.Math.ListN.{length-set}
use Rattle.step_chains.proofs.IndexLaw.{same_item, marks_one, touched_more, touched_same, other_more, other_same, left_as}
use Rattle.step_chains.proofs.index.mark_in.Goals as goal

pub returns-in_err-insert-clause-touched : goal.returns-in_err-insert-clause-touched
returns-in_err-insert-clause-touched c = touched_same c.args.touched.now c.insert.new.self c.args.lists.now.items c.in_err-insert.ensures.kept c.requires.touched

pub returns-in_err-insert-clause-no_other : goal.returns-in_err-insert-clause-no_other
returns-in_err-insert-clause-no_other c = other_same c.args.touched.now c.insert.new.self c.args.lists.now.items c.in_err-insert.ensures.kept c.requires.no_other

pub returns-in-Ok-clause-touched : goal.returns-in-Ok-clause-touched
returns-in-Ok-clause-touched c = touched_more c.args.touched.now c.insert.new.self c.args.lists.now.items c.args.lit c.mark.new.links c.requires.lit c.in_ok-insert.ensures.has c.requires.touched

pub returns-in-Ok-clause-no_other : goal.returns-in-Ok-clause-no_other
returns-in-Ok-clause-no_other c = other_more c.args.touched.now c.insert.new.self c.args.lists.now.items c.args.lit c.mark.new.links c.requires.lit c.in_ok-insert.ensures.has c.in-Ok.ensures.some c.requires.no_other

pub returns-in-Err-clause-touched : goal.returns-in-Err-clause-touched
returns-in-Err-clause-touched c = (left_as c.args.touched.now c.insert.new.self c.take_out_if_empty.new.touched c.args.lists.now.items c.args.lit c.requires.lit c.in_ok-insert.ensures.has c.requires.touched c.requires.no_other c.mark.new.links c.take_out_if_empty.ensures.some c.take_out_if_empty.ensures.none).0

pub returns-in-Err-clause-no_other : goal.returns-in-Err-clause-no_other
returns-in-Err-clause-no_other c = (left_as c.args.touched.now c.insert.new.self c.take_out_if_empty.new.touched c.args.lists.now.items c.args.lit c.requires.lit c.in_ok-insert.ensures.has c.requires.touched c.requires.no_other c.mark.new.links c.take_out_if_empty.ensures.some c.take_out_if_empty.ensures.none).1

pub returns-in-Ok-clause-marks : goal.returns-in-Ok-clause-marks
returns-in-Ok-clause-marks c =
    marks_one c.args.link.action c.args.lit c.args.link.takes c.args.link.reads c.args.lists.now.items _ c.mark.new.links
    (λ base u v away is. c.in-Ok.ensures.marked base u v away (c.index_mut-links.ensures.value ∙ same_item c.args.lists.now.items c.args.lit c.index_mut-links.result.now [] c.requires.lit ∙ is))
    c.requires.lit refl (length-set c.args.lists.now.items c.args.lit c.mark.new.links)
