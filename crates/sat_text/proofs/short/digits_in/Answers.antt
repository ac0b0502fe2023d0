use Rattle.std.proofs.Common.{arith}
use Rattle.std.specs.Char.{is_ascii_digit}
use Rattle.std.proofs.lemmas.List.Sums.{prefix_len-le-length}
use Rattle.sat_text.proofs.FewDigits.{none_other, first_other}
use Rattle.sat_text.proofs.short.digits_in.Goals as goal

pub returns-then-others-eq0-clause-count : goal.returns-then-others-eq0-clause-count
returns-then-others-eq0-clause-count c = none_other c.args.bytes c.others_in-others.result c.others_in-others.ensures c.if-others-eq0.true c.fits-bytes.0

pub returns-else-others-eq0-clause-count : goal.returns-else-others-eq0-clause-count
returns-else-others-eq0-clause-count c = first_other c.args.bytes c.others_in-others.result c.others_in-others.ensures c.if-others-eq0.false c.fits-bytes.0

pub returns-else-others-eq0-clause-most : goal.returns-else-others-eq0-clause-most
returns-else-others-eq0-clause-most c =
    let count = returns-else-others-eq0-clause-count c in
    let most = prefix_len-le-length is_ascii_digit c.args.bytes in omega (arith, count, most, c.fits-bytes.0)
