use Rattle.std.proofs.Common.{refl, rules, sym, ◌∙◌, ◌∷◌, ◌++◌, ◌≤◌, decimal, ◌≡◌}
use Rattle.proof_log.proofs.Cuts.{feed_ends, number_begins, number_cut}
use Rattle.proof_log.proofs.decimals.read_one.Goals as goal

pub returns-in_err-digits-clause-none : goal.returns-in_err-digits-clause-none
returns-in_err-digits-clause-none c = λ none n rest small text.
    c.in_err-digits.ensures.none refl (decimal n ++ 10 ∷ rest, text, number_begins n (10 ∷ rest) small)

pub returns-in_err-after_feed-clause-none : goal.returns-in_err-after_feed-clause-none
returns-in_err-after_feed-clause-none c = λ none n rest small text.
    let digits : c.in_ok-digits.digits.now ≡ decimal n ++ 10 ∷ rest = cc (c.in_ok-digits.ensures.some.0, text) in
    let read = c.in_ok-number.ensures.some in
    let bound : c.in_ok-number.number ≤ 4294967295 = search rules in
    let cut = number_cut c.in_ok-number.number n c.in_ok-number.rest.now (10 ∷ rest) bound small read.1 (feed_ends rest).0 (sym read.0 ∙ digits) in
    c.in_err-after_feed.ensures.none refl rest cut.1
