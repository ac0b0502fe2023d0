use Rattle.std.proofs.Common.{arith, ◌∙◌, ap, length}
use Rattle.race.proofs.published.Advances.{length-horizons}
use Rattle.race.proofs.racing.Racing.used.Goals as goal

pub conflicts_of-requires : goal.conflicts_of-requires
conflicts_of-requires g c =
    let runs = c.args.self.now.runs.items in
    let live = ap length c.requires.live ∙ length-horizons runs in
    let w = c.count-count.ensures.window.within_width in
    let width = c.args.self.now.window.rates.width_in_range.1 in
    omega (arith, w, live, width, ap length c.as_slice.ensures.value)
