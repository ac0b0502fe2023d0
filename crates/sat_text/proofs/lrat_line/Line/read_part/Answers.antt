use Rattle.std.proofs.Common.{◌∷◌, [], ◌++◌}
use Rattle.sat_text.proofs.LineLaws.{passes_none, passes_more, reads_nothing, reads_then}
use Rattle.sat_text.proofs.lrat_line.Line.read_part.Goals as goal

pub loop-told-init : goal.loop-told-init
loop-told-init c = ([], passes_none c.args.words.now, reads_nothing c.args.part c.args.self.now)

pub loop-told-preserved : goal.loop-told-preserved
loop-told-preserved c =
    let inv = c.loop-told.invariant in (
      inv.0 ++ c.in-Some.told ∷ [],
      passes_more c.args.words.now c.loop-told.words _ inv.0 c.in-Some.told inv.1 c.in-Some.ensures.number c.if-told-eq0.false c.in-Some.ensures.passed,
      reads_then c.args.part c.args.self.now c.loop-told.self c.add.new.self inv.0 (c.in-Some.told ∷ []) inv.2 c.in_ok-add.ensures,
    )
