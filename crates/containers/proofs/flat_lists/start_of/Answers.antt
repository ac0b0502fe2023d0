use Rattle.std.proofs.Common.{arith, ◌≡◌, ◌∙◌, ◌-◌, ◌<◌, suc, length, sym, ap}
use Rattle.containers.specs.own.Pieces.{start_of}
use Rattle.containers.proofs.PieceLemmas.{start_of-first, start_of-next}
use Rattle.containers.proofs.flat_lists.start_of.Goals as goal

pub returns-then-number-eq0 : goal.returns-then-number-eq0
returns-then-number-eq0 c = sym (ap (start_of 0 c.args.ends.now) c.if-number-eq0.true ∙ start_of-first 0 c.args.ends.now)

pub returns-else-number-eq0 : goal.returns-else-number-eq0
returns-else-number-eq0 c =
    let before = c.args.number - 1 in
    let next : c.args.number ≡ suc before = omega (arith, c.if-number-eq0.false) in
    let within : suc before < length c.args.ends.now = omega (arith, next, c.requires) in
    sym (ap (start_of 0 c.args.ends.now) next ∙ start_of-next 0 c.args.ends.now before 0 within)
