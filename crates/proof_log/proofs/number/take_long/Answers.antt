use Rattle.std.proofs.Common.{◌≡◌, ◌∙◌, ◌∷◌, ◌+◌, ◌-◌, ◌*◌, ◌%◌, ◌^◌, ℕ, ap, arith, rules, sym, refl}
use Rattle.proof_log.specs.own.Number.{number_of, after_number}
use Rattle.proof_log.proofs.NumberLaws.{number_fits, weighed, number_more, after_more}
use Rattle.proof_log.proofs.number.take_long.Goals as goal

pub loop-byte-init : goal.loop-byte-init
loop-byte-init c =
    let fits = number_fits c.args.bytes.now in
    record { number = omega (arith, fits); rest = refl }

pub loop-byte-preserved : goal.loop-byte-preserved
loop-byte-preserved c =
    let byte = c.in-Some.byte.now in
    let more = c.in-Some.more.now in
    let rest : c.loop-byte.rest.now ≡ byte ∷ more = search rules in
    let low : c.from-in-Some.result ≡ byte - 128 = search rules in
    let high = c.if-byte-lt128.false in
    record {
      number = ap (λ (d : ℕ). ((c.loop-byte.number + c.loop-byte.weight * d % 2 ^ 64) % 2 ^ 64 + c.loop-byte.weight * 128 % 2 ^ 64 * number_of more) % 2 ^ 64) low
          ∙ weighed c.loop-byte.number c.loop-byte.weight (number_of more) (byte - 128) (2 ^ 64)
          ∙ ap (λ (n : ℕ). (c.loop-byte.number + c.loop-byte.weight * n) % 2 ^ 64) (sym (ap number_of rest ∙ number_more byte more high))
          ∙ c.loop-byte.invariant.number;
      rest = sym (ap after_number rest ∙ after_more byte more high) ∙ c.loop-byte.invariant.rest;
    }
