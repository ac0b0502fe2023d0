use Rattle.conflict_analysis.specs.own.Resolvent.{literals, seen}
use Rattle.conflict_analysis.proofs.Marked.{other_next}
use Rattle.std.proofs.Common.{◌∙◌, ◌+◌, drop}
use Rattle.conflict_analysis.proofs.resolvent.Resolvent.put_others.Goals as goal

pub loop-place-preserved : goal.loop-place-preserved
loop-place-preserved c =
    let w = c.args.trail.now in
    let place = c.loop-place.place in
    record {
      over = c.put_other.ensures.over;
      rest = c.loop-place.invariant.rest ∙ other_next (literals (seen w c.loop-place.self)) (literals (seen w c.put_other.new.self)) (drop place c.args.lits.now) (drop (place + 1) c.args.lits.now) c.get.result c.args.but c.get.ensures.rest c.put_other.ensures.put;
    }
