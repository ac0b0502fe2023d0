use Rattle.std.proofs.Common.{◌≡◌, ◌∙◌, Some, arith, sym, refl}
use Rattle.std.specs.Str.Parse.{ParsesUnsigned, ExplainsUnsignedError, HasUnsignedDigitsIfOk}
use Rattle.clap.specs.Words.{found_of}
use Rattle.requests.proofs.ParsedNumbers.{read_number}
use Rattle.requests.proofs.parsed_values.number.Goals as goal

pub unwrap-requires : goal.unwrap-requires
unwrap-requires c =
    let got = read_number _ (λ bs r. ParsesUnsigned 32 10 bs r × ExplainsUnsignedError 10 bs r × HasUnsignedDigitsIfOk bs r) 32 (λ u x g. g.0) (found_of c.args.matches.now) c.args.name.now c.args.low c.args.high c.get_one.result (omega arith) c.requires c.get_one.ensures.value in
    rw got.1 refl

pub returns : goal.returns
returns c =
    let got = read_number _ (λ bs r. ParsesUnsigned 32 10 bs r × ExplainsUnsignedError 10 bs r × HasUnsignedDigitsIfOk bs r) 32 (λ u x g. g.0) (found_of c.args.matches.now) c.args.name.now c.args.low c.args.high c.get_one.result (omega arith) c.requires c.get_one.ensures.value in
    let same : Some c.unwrap.result ≡ Some got.0 = sym c.unwrap.ensures ∙ got.1 in
    let is : c.unwrap.result ≡ got.0 = cc in
    record { value = is ∙ got.4; low = omega arith; high = omega arith }
