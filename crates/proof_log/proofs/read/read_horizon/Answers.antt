use Rattle.std.proofs.Common.{◌≡◌, ◌≤◌, ◌++◌, codes, rules, arith, sym, ◌∙◌}
use Rattle.proof_log.specs.own.Reading.{one_then}
use Rattle.proof_log.proofs.Spelling.{one_cut}
use Rattle.proof_log.proofs.read.read_horizon.Goals as goal

pub returns-else-horizon-le-LAST_HORIZON-clause-none : goal.returns-else-horizon-le-LAST_HORIZON-clause-none
returns-else-horizon-le-LAST_HORIZON-clause-none c = λ none horizon rest small text.
    let own : c.args.bytes.now ≡ codes "horizon" ++ c.in_ok-told.told.now = search rules in
    let told : c.in_ok-told.told.now ≡ one_then horizon rest = cc (own, text) in
    let bound : c.in_ok-horizon.horizon ≤ 4294967295 = search rules in
    let cut = one_cut c.in_ok-horizon.horizon horizon c.in_ok-horizon.rest.now rest bound (omega (arith, small)) (sym c.in_ok-horizon.ensures.some ∙ told) in
    let same = cut.0 in
    omega (arith, same, small, c.if-horizon-le-LAST_HORIZON.false)
