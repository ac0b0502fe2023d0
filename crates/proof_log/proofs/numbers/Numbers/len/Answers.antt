use Rattle.std.proofs.Common.{length, sym, ap, ◌∙◌}
use Rattle.proof_log.specs.own.Placed.{numbers_at}
use Rattle.proof_log.specs.declared.numbers.Place.{Place}
use Rattle.proof_log.proofs.NumbersLaws.{length-numbers_of}
use Rattle.proof_log.proofs.numbers.Numbers.len.Goals as goal

pub returns-in-Bytes : goal.returns-in-Bytes
returns-in-Bytes c =
    sym (length-numbers_of c.in-Bytes.left c.in-Bytes.last c.in-Bytes.bytes.now)
    ∙ ap (λ (p : Place). length (numbers_at p)) (sym c.in-Bytes.is)
    ∙ ap length c.self.view_is
