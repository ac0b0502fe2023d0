use Rattle.sat_text.proofs.FewDigits.{others}
use Rattle.sat_text.proofs.short.others_in.Goals as goal

pub returns : goal.returns
returns c = others c.args.bytes c.fits-bytes.0 c.fits-bytes.1
