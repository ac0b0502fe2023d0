-- Which bytes are of which kind.
use Rattle.std.proofs.Common.{◌≡◌, ◌==◌, ℕ, true, false, arith}
use Rattle.std.proofs.lemmas.Bool.Decides.{nat_tests}
use Rattle.pd_sexp.specs.Bytes.{open_paren, close_paren, semicolon, is_blank, is_letter}

pub letter-blank : (b : ℕ) → is_letter b ≡ true → is_blank b ≡ false
letter-blank b h = grind (arith, nat_tests)

pub letter-semicolon : (b : ℕ) → is_letter b ≡ true → (b == semicolon) ≡ false
letter-semicolon b h = grind (arith, nat_tests)

pub letter-open : (b : ℕ) → is_letter b ≡ true → (b == open_paren) ≡ false
letter-open b h = grind (arith, nat_tests)

pub letter-close : (b : ℕ) → is_letter b ≡ true → (b == close_paren) ≡ false
letter-close b h = grind (arith, nat_tests)

pub blank-semicolon : (b : ℕ) → is_blank b ≡ true → (b == semicolon) ≡ false
blank-semicolon b h = grind (arith, nat_tests)

pub semicolon-blank : (b : ℕ) → (b == semicolon) ≡ true → is_blank b ≡ false
semicolon-blank b h = grind (arith, nat_tests)

pub blank-open : (b : ℕ) → is_blank b ≡ true → (b == open_paren) ≡ false
blank-open b h = grind (arith, nat_tests)

pub blank-close : (b : ℕ) → is_blank b ≡ true → (b == close_paren) ≡ false
blank-close b h = grind (arith, nat_tests)
