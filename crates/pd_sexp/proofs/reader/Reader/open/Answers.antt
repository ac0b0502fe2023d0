use Rattle.std.proofs.Common.{refl, arith}
use Rattle.pd_sexp.proofs.Frames.{length-outer_of}
use Rattle.pd_sexp.proofs.reader.Reader.open.Goals as goal

pub returns-then-len-eq-MAX_LEVELS : goal.returns-then-len-eq-MAX_LEVELS
returns-then-len-eq-MAX_LEVELS c =
    (refl, (refl, refl, omega (arith, length-outer_of c.args.self.now.outer.items, c.len.ensures)), (_, refl))
