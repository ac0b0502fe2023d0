-- What a byte comes to tells where the lexer stood.
use Rattle.std.proofs.Common.{◌≡◌, ◌==◌, ℕ, Bool, true, false, ◌||◌, not, if◌then◌else◌, List, refl, arith}
use Rattle.pd_sexp.specs.Bytes.{semicolon, is_blank, is_letter}
use Rattle.pd_sexp.specs.Lexer.{Standing, gap, comment, word, is_token, lexed}
use Rattle.pd_sexp.proofs.published.Bytes.{blank-semicolon}
use Rattle.pd_sexp.specs.declared.lexer.Lexed.TheVariants.{Nothing, Token, Ended}

-- a byte outside comments and words that is a token
pub by_token : {A : Type 0} (blank remark token : A) (b : ℕ) → is_token b ≡ true → (if is_blank b then blank else if b == semicolon then remark else token) ≡ token
by_token blank remark token b h = by_tests (is_blank b) (b == semicolon) h
  where
    by_tests : (p q : Bool) → not (p || q) ≡ true → (if p then blank else if q then remark else token) ≡ token
    by_tests true q e = absurd cc
    by_tests false true e = absurd cc
    by_tests false false e = refl

-- and one that is none
pub by_none : {A : Type 0} (blank remark token : A) (b : ℕ) → is_token b ≡ false → (if is_blank b then blank else if b == semicolon then remark else token) ≡ (if b == semicolon then remark else blank)
by_none blank remark token b h = by_tests (is_blank b) (b == semicolon) h (blank-semicolon b)
  where
    by_tests : (p q : Bool) → not (p || q) ≡ false → (p ≡ true → q ≡ false) → (if p then blank else if q then remark else token) ≡ (if q then remark else blank)
    by_tests true true e apart = let never = apart refl in absurd cc
    by_tests true false e apart = refl
    by_tests false true e apart = refl
    by_tests false false e apart = absurd cc

-- a word ended: it stood there, and this byte is no letter
pub ended : (s : Standing) (b start : ℕ) (text : List ℕ) (token : Bool) → Ended start text token ≡ lexed s b → (s ≡ word start text) × (is_letter b ≡ false) × (token ≡ is_token b)
ended gap b start text token h = absurd (by_test (is_token b) h)
  where
    by_test : (t : Bool) → Ended start text token ≡ (if t then Token else Nothing) → ⊥
    by_test true e = cc
    by_test false e = cc
ended comment b start text token h = absurd cc
ended (word first letters) b start text token h = by_test (is_letter b) refl h
  where
    by_test : (t : Bool) → is_letter b ≡ t → Ended start text token ≡ (if t then Nothing else Ended first letters (is_token b)) → (word first letters ≡ word start text) × (is_letter b ≡ false) × (token ≡ is_token b)
    by_test true is e = absurd cc
    by_test false is e = grind (arith, is, e)
