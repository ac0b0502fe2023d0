use Rattle.std.proofs.Common.{◌==◌, ℕ, ap, w64}
use Rattle.std.proofs.lemmas.Nat.Bits.{bit_at-trailing_zeros}
use Rattle.bit_sets.proofs.word.least_bit.Goals as goal

pub returns-clause-small : goal.returns-clause-small
returns-clause-small c = (bit_at-trailing_zeros w64 c.args.word c.requires c.ranges.word.fits).0

pub returns-clause-least : goal.returns-clause-least
returns-clause-least c =
    let t = bit_at-trailing_zeros w64 c.args.word c.requires c.ranges.word.fits in
    (ap (λ (n : ℕ). n == 1) t.1, λ j l. ap (λ (n : ℕ). n == 1) (t.2 j l))
