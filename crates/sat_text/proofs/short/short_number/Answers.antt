use Rattle.std.proofs.Common.{◌≡◌, ◌∙◌, ◌<◌, ◌≤◌, ◌+◌, ◌-◌, ◌∷◌, ℕ, List, true, take, drop, length, get_or, sym, ap, subst, arith}
use Rattle.std.specs.Char.{is_ascii_digit}
use Rattle.std.specs.List.{prefix_len, list_all}
use Rattle.std.proofs.lemmas.List.{take_all, length-drop}
use Rattle.std.proofs.lemmas.Simd.{length-chunk}
use Rattle.sat_text.specs.own.Short.{eight_of}
use Rattle.sat_text.proofs.FewDigits.{all_digits, told, followed}
use Rattle.sat_text.proofs.Eight.{are_eight, are_values, told_value}
use Rattle.sat_text.proofs.short.short_number.Goals as goal

pub returns-clause-number : goal.returns-clause-number
returns-clause-number c =
    let text = c.args.text.now in
    let bytes = take 8 text in
    let count = c.digits_in-count.result in
    let long : 8 ≤ length text = omega arith in
    let size : length bytes ≡ 8 = length-chunk 0 8 text long in
    let is : count ≡ prefix_len is_ascii_digit bytes = c.digits_in-count.ensures.count in
    let digits : list_all is_ascii_digit (take count bytes) ≡ true = subst (λ (k : ℕ). list_all is_ascii_digit (take k bytes) ≡ true) (sym is) (all_digits bytes) in
    let few : count < 8 = omega (arith, c.digits_in-count.ensures.most) in
    let value = c.number_of_eight-number.ensures.value (eight_of count bytes) (are_eight count bytes few size) (are_values count bytes digits) c.eight_digits.ensures.value ∙ told_value count bytes in
    told text count c.number_of_eight-number.result is c.if-count-eq0.false few long c.if-text-eq48.false value c.number_of_eight-number.ensures.small

pub returns-clause-rest : goal.returns-clause-rest
returns-clause-rest c =
    let text = c.args.text.now in
    let count = c.digits_in-count.result in
    let long : 8 ≤ length text = omega arith in
    let few : count < 8 = omega (arith, c.digits_in-count.ensures.most) in
    let space : get_or text count 0 ≡ 32 = omega arith in
    let left = take_all (length text - (count + 1)) (drop (count + 1) text) (omega (arith, length-drop (count + 1) text)) in
    followed text count c.digits_in-count.ensures.count few long space ∙ ap (λ (more : List ℕ). 32 ∷ more) (sym left)
