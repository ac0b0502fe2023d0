use Rattle.std.proofs.Common.{◌<◌, ℕ, sym, subst}
use Rattle.sat_text.specs.own.Short.{eight_of}
use Rattle.sat_text.proofs.Eight.{values_more, part_fits, part_left, are_values, are_eight, eight_small}
use Rattle.sat_text.proofs.short.eight_digits.Goals as goal

pub overflow_sub-result : goal.overflow_sub-result
overflow_sub-result c = part_fits _ _ _ (values_more c.args.bytes c.args.count c.from_le_bytes.result c.from_le_bytes.ensures c.fits-bytes.0 c.fits-bytes.1 c.requires.some c.requires.few c.requires.digits)

pub returns-clause-value : goal.returns-clause-value
returns-clause-value c = part_left _ _ _ (values_more c.args.bytes c.args.count c.from_le_bytes.result c.from_le_bytes.ensures c.fits-bytes.0 c.fits-bytes.1 c.requires.some c.requires.few c.requires.digits)

pub returns-clause-small : goal.returns-clause-small
returns-clause-small c =
    let is = returns-clause-value c in
    subst (λ (n : ℕ). n < 1152921504606846976) (sym is) (eight_small (eight_of c.args.count c.args.bytes) (are_eight c.args.count c.args.bytes c.requires.few c.fits-bytes.0) (are_values c.args.count c.args.bytes c.requires.digits))
