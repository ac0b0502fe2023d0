-- What holds of the bytes that a tape handed over holds of the bytes of the whole file.
use Rattle.std.proofs.Common.{arith, ◌≡◌, ◌<◌, ◌≤◌, ◌∙◌, ℕ, take, List, [], ◌∷◌, ◌++◌, length, refl, sym, ap, subst, append-nil}
use Rattle.std.proofs.lemmas.List.{length-take-le}
use Rattle.clause_base.specs.Formula.{Cnf}
use Rattle.pl_io.specs.Tape.{Given, IsFileOf, read_after, given_more}
use Rattle.pl_io.specs.declared.tape.Reading.{Reading}
use Rattle.pl_io.specs.declared.tape.Reading.TheVariants.{Goes, Ended, Lost}
use Rattle.lrat_judge.specs.Verdicts.{verdict_of}
use Rattle.lrat_judge.specs.declared.verdict.Verdict.{Verdict}
use Rattle.proof_verdict.specs.Verdict.{IsVerdictOn}

-- the bytes that were handed over may be the whole file
pub itself : (given : Given) → IsFileOf given given.bytes
itself given = record { rest = []; front = sym (append-nil given.bytes); all = λ e. refl }

goes_after : (reading : Reading) (piece : List ℕ) → reading ≡ Goes → 0 < length piece → read_after reading piece ≡ Goes
goes_after Goes [] is some = absurd (omega (arith, some))
goes_after Goes (b ∷ piece) is some = refl
goes_after Ended piece is some = absurd (let never : Ended ≡ Goes = is in cc)
goes_after Lost piece is some = absurd (let never : Lost ≡ Goes = is in cc)

ended_after : (reading : Reading) → reading ≡ Goes → read_after reading [] ≡ Ended
ended_after Goes is = refl
ended_after Ended is = refl
ended_after Lost is = absurd (let never : Lost ≡ Goes = is in cc)

goes_sound : (reading : Reading) → reading ≡ Goes → reading ≡ Lost → ⊥
goes_sound reading goes lost = let never : Goes ≡ Lost = sym goes ∙ lost in cc

-- a piece of some bytes
pub some_taken : (count : ℕ) (xs : List ℕ) → 0 < count → count ≤ length xs → 0 < length (take count xs)
some_taken count xs some fits = let l : length (take count xs) ≡ count = length-take-le count xs fits in omega (arith, l, some)

-- A file that was read from its front on, and what was given after a call more.
module _ (given next : Given) (goes : given.reading ≡ Goes) where
  -- a piece with bytes
  module _ (piece : List ℕ) (is : next ≡ given_more given piece) (some : 0 < length piece) where
    pub goes_on : next.reading ≡ Goes
    goes_on = ap (λ (g : Given). g.reading) is ∙ goes_after given.reading piece goes some

    pub on_all : (claim : List ℕ → Type 0) → ((more : List ℕ) → claim ((given.bytes ++ piece) ++ more)) → (file : List ℕ) → IsFileOf next file → claim file
    on_all claim holds file whole = let bytes : next.bytes ≡ given.bytes ++ piece = ap (λ (g : Given). g.bytes) is in subst claim (sym (whole.front ∙ ap (λ (t : List ℕ). t ++ whole.rest) bytes)) (holds whole.rest)

    pub sound_on : next.reading ≡ Lost → ⊥
    sound_on = goes_sound next.reading goes_on

    pub verdict_early : (formula : Cnf) (verdict : Verdict) → ((more : List ℕ) → verdict ≡ verdict_of formula ((given.bytes ++ piece) ++ more)) → IsVerdictOn formula next verdict
    verdict_early formula verdict said = record { sound = sound_on; is = on_all (λ file. verdict ≡ verdict_of formula file) said }

  -- its end
  module _ (is : next ≡ given_more given []) where
    ended : next.reading ≡ Ended
    ended = ap (λ (g : Given). g.reading) is ∙ ended_after given.reading goes

    pub ended_sound : next.reading ≡ Lost → ⊥
    ended_sound lost = let never : Ended ≡ Lost = sym ended ∙ lost in cc

    pub at_end : (claim : List ℕ → Type 0) → claim given.bytes → (file : List ℕ) → IsFileOf next file → claim file
    at_end claim holds file whole =
        let bytes : next.bytes ≡ given.bytes = ap (λ (g : Given). g.bytes) is ∙ append-nil given.bytes in
        subst claim (sym (whole.front ∙ (ap (λ (t : List ℕ). next.bytes ++ t) (whole.all ended) ∙ (append-nil next.bytes ∙ bytes)))) holds

    pub verdict_at_end : (formula : Cnf) (verdict : Verdict) → verdict ≡ verdict_of formula given.bytes → IsVerdictOn formula next verdict
    verdict_at_end formula verdict said = record { sound = ended_sound; is = at_end (λ file. verdict ≡ verdict_of formula file) said }
