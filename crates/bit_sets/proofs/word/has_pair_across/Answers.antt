use Rattle.std.proofs.Common.{arith, refl, bit_and, ◌/◌}
use Rattle.std.proofs.lemmas.Nat.{and_le_l}
use Rattle.bit_sets.proofs.published.WordLaw.{pair_test}
use Rattle.bit_sets.proofs.word.has_pair_across.Goals as goal

pub returns : goal.returns
returns c =
    let w = c.args.word in
    let v = c.args.other in
    let fits = c.ranges.word.fits in
    let one = and_le_l w (v / 2) in
    let two = and_le_l (bit_and w (v / 2)) 6148914691236517205 in
    pair_test w v c.ranges.other.fits (omega (arith, one, two, fits)) _ refl
