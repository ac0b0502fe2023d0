-- What a whole text is, by what its lines come to.
use Rattle.std.proofs.Common.{arith, ◌≡◌, ◌∙◌, ◌+◌, ◌≤◌, ℕ, List, ◌∷◌, Ok, Err, Result, length, refl, ap, subst}
use Rattle.containers.specs.Limits.{certificate_bytes}
use Rattle.never_text.specs.declared.fault.Fault.{Fault}
use Rattle.never_text.specs.declared.read.Reading.{Reading}
use Rattle.never_text.specs.declared.read.Reading.TheVariants as reading
use Rattle.never_text.specs.Certificate.{Certificate, Nothing, Forward, Backward, Weights, lines_of, with_line, with_lines, ended, certificate_of}
use Rattle.never_text.specs.Reading.{IsReading, IsUsable}
use Rattle.never_text.proofs.Usable.{IsWithin, lines_within, lines_few}

-- a line at fault
pub at_fault : (facts : ℕ) (text rest line : List ℕ) (told : Certificate) (at : ℕ) (f : Fault) (more : List (List ℕ)) → lines_of rest ≡ line ∷ more
    → with_lines facts Nothing 0 (lines_of text) ≡ with_lines facts told at (lines_of rest) → with_line facts told line ≡ Err f → certificate_of facts text ≡ Err (at, f)
unfolding certificate_of
at_fault facts text rest line told at f more first left stops =
    let step : with_lines facts told at (line ∷ more) ≡ Err (at, f) = ap (λ (r : Result Certificate Fault). elim r as (λ _. Result Certificate (ℕ × Fault)) [ Ok next ↦ with_lines facts next (at + length line + 1) more | Err g ↦ Err (at, g) ]) stops in
    ap (ended (length text)) (left ∙ (ap (with_lines facts told at) first ∙ step))

-- the end of the text
pub at_end : (facts : ℕ) (text : List ℕ) (told : Certificate) → with_lines facts Nothing 0 (lines_of text) ≡ Ok told → certificate_of facts text ≡ ended (length text) (Ok told)
unfolding certificate_of
at_end facts text told all = ap (ended (length text)) all

-- a certificate that was read to its end
pub ended_ok : (facts : ℕ) (text : List ℕ) (out : Certificate) → certificate_of facts text ≡ Ok out → with_lines facts Nothing 0 (lines_of text) ≡ Ok out
unfolding certificate_of
ended_ok facts text out e = by (with_lines facts Nothing 0 (lines_of text)) refl
  where
    by : (r : Result Certificate (ℕ × Fault)) → with_lines facts Nothing 0 (lines_of text) ≡ r → r ≡ Ok out
    by (Err f) er = absurd (let never : Err f ≡ Ok out = rw er at e in cc)
    by (Ok Nothing) er = absurd (let never = rw er at e in cc)
    by (Ok (Forward clauses)) er = rw er at e
    by (Ok (Backward clauses)) er = rw er at e
    by (Ok (Weights weights)) er = rw er at e

-- what is read is what the checks ask for
module _ (facts : ℕ) (text : List ℕ) (small : length text ≤ certificate_bytes) where
  within : (out : Certificate) → certificate_of facts text ≡ Ok out → IsWithin facts (length (lines_of text)) out
  within out e = let z : 0 + length (lines_of text) ≡ length (lines_of text) = omega arith in subst (λ (n : ℕ). IsWithin facts n out) z (lines_within facts 0 Nothing out 0 (lines_of text) tt (ended_ok facts text out e))

  pub usable : (r : Reading) → IsReading r (certificate_of facts text) → IsUsable facts r
  usable (reading.Forward clauses) is = let w = within (Forward clauses) is in let few = lines_few text in record { few = omega (arith, w.0); over = w.1 }
  usable (reading.Backward clauses) is = let w = within (Backward clauses) is in let few = lines_few text in record { few = omega (arith, w.0); over = w.1 }
  usable (reading.Weights weights) is = within (Weights weights.items) is
  usable (reading.Faulty at fault) is = tt
