-- What the text of a certificate comes to where its formula is asked for.
use Rattle.std.proofs.Common.{◌≡◌, ℕ, List, [], ◌∷◌, Result, Ok, Err, refl, sym, subst}
use Rattle.std.specs.Prelude.{IfOk}
use Rattle.report_lines.specs.Lines.{joined}
use Rattle.plan_endings.specs.Ends.{OnlyMemory}
use Rattle.plan_endings.specs.declared.stop.Stop.{Stop}
use Rattle.plan_endings.specs.declared.stop.Stop.TheVariants.{Ends, Memory}
use Rattle.never_text.specs.Certificate.{Certificate, Forward, Backward, Weights}
use Rattle.never_text.specs.declared.fault.Fault.{Fault}
use Rattle.search_top.specs.Answers.{EndsWith}
use Rattle.search_top.specs.Never.{faulty_line}
use Rattle.search_top.specs.Refuted.{OfForward, ended_kind}
use Rattle.search_top.specs.declared.ended.Finding.TheVariants.{Refused}
use Rattle.search_top.specs.declared.ended.Ended.{Ended}
use Rattle.search_top.specs.declared.ended.Ended.TheVariants.{Shown}

-- an ending that was made, or want of memory
pub made : (claim : Ended → Type 0) (is : Ended) (r : Result Ended Stop) → IfOk r (λ end. end ≡ is) → OnlyMemory r → claim is → EndsWith claim r
made claim is (Ok end) same only holds = subst claim (sym same) holds
made claim is (Err (Ends end)) same only holds = absurd only
made claim is (Err Memory) same only holds = tt

-- A text, and what is claimed of clauses that are read forward.
module _ (claim : List (List ℕ) → Ended → Type 0) (text : Result Certificate (ℕ × Fault)) (r : Result Ended Stop) where
  pub of_forward : (clauses : List (List ℕ)) → text ≡ Ok (Forward clauses) → EndsWith (claim clauses) r → EndsWith (OfForward claim text) r
  of_forward clauses is h = subst (λ (t : Result Certificate (ℕ × Fault)). EndsWith (OfForward claim t) r) (sym is) h

  pub of_faulty : (at : ℕ) (fault : Fault) → text ≡ Err (at, fault) → IfOk r (λ end. end ≡ Shown Refused (joined (faulty_line at ∷ []))) → OnlyMemory r → EndsWith (OfForward claim text) r
  of_faulty at fault is told only =
      made (OfForward claim text) (Shown Refused (joined (faulty_line at ∷ []))) r told only (subst (λ (t : Result Certificate (ℕ × Fault)). OfForward claim t (Shown Refused (joined (faulty_line at ∷ [])))) (sym is) refl)

  pub of_backward : (clauses : List (List ℕ)) → text ≡ Ok (Backward clauses) → IfOk r (λ end. end ≡ ended_kind) → OnlyMemory r → EndsWith (OfForward claim text) r
  of_backward clauses is told only = made (OfForward claim text) ended_kind r told only (subst (λ (t : Result Certificate (ℕ × Fault)). OfForward claim t ended_kind) (sym is) refl)

  pub of_weights : (weights : List (ℕ × ℕ)) → text ≡ Ok (Weights weights) → IfOk r (λ end. end ≡ ended_kind) → OnlyMemory r → EndsWith (OfForward claim text) r
  of_weights weights is told only = made (OfForward claim text) ended_kind r told only (subst (λ (t : Result Certificate (ℕ × Fault)). OfForward claim t ended_kind) (sym is) refl)
