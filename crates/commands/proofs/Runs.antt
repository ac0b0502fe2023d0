-- What the run of a horizon comes to, by what is known of its states.
use Rattle.std.proofs.Common.{◌≡◌, ◌∙◌, ℕ, Bool, true, false, List, Result, Ok, IfOk, length, nat_le, if◌then◌else◌, sym, ap, subst}
use Rattle.std.proofs.lemmas.Result.{IfOk-at_ok}
use Rattle.clause_base.specs.Formula.{Cnf, IsModel}
use Rattle.clause_base.specs.Derivation.{IsRefutation}
use Rattle.clause_base.specs.declared.log.Entry.{Entry}
use Rattle.containers.specs.declared.memory.Memory.{Memory}
use Rattle.cdcl_defs.specs.State.{State}
use Rattle.cdcl_defs.specs.declared.standing.Standing.TheVariants.{Going, Found, Refuted}
use Rattle.horizon_run.specs.Run.{RunView, choice_in, truths_of, IsMoved, IsReached}
use Rattle.proof_log.specs.Text.{proof_text}
use Rattle.commands.specs.Certificate.{IsSpelled, IsCertificate}
use Rattle.containers.specs.Limits.{certificate_bytes}
use Rattle.commands.specs.Proved.{certificate_of}
use Rattle.commands.specs.declared.prove.Proved.{Proved}
use Rattle.commands.specs.declared.prove.Proved.TheVariants.{Certificate, TooLong}

-- the log of a run that is refuted refutes its formula
pub refutes : (run : RunView) → IsMoved run → IsReached (choice_in run) run.formula run.granted → run.state.standing ≡ Refuted
    → IsRefutation run.formula.variables run.formula.clauses run.state.log
refutes run moved is refuted =
    let there = ap (λ (r : RunView). r.state) moved in
    subst (λ (s : State). IsRefutation run.formula.variables run.formula.clauses s.log) (sym there)
    (is.refuted (ap (λ (s : State). s.standing) (sym there) ∙ refuted))

-- so the text of its log is a certificate
pub certifies : (run : RunView) (text : List ℕ) (horizon : ℕ) → IsMoved run → IsReached (choice_in run) run.formula run.granted
    → run.state.standing ≡ Refuted → (log : List Entry) → log ≡ run.state.log → IsSpelled text horizon log
    → IsCertificate (λ h. run.formula) text horizon
certifies run text horizon moved is refuted log same spelled = record {
  log = log;
  is_spelled = spelled;
  refutes = subst (λ (l : List Entry). IsRefutation run.formula.variables run.formula.clauses l) (sym same) (refutes run moved is refuted);
}

-- what is a certificate or too long is nothing else
certificate_or_none : (other : Proved) → ((text : List ℕ) → other ≡ Certificate text → ⊥) → (other ≡ TooLong → ⊥) → (short : Bool) (text : List ℕ) → other ≡ (if short then Certificate text else TooLong) → ⊥
certificate_or_none other not_one not_long true text e = not_one text e
certificate_or_none other not_one not_long false text e = not_long e

pub no_other : {A : Type 0} (other : Proved) → ((text : List ℕ) → other ≡ Certificate text → ⊥) → (other ≡ TooLong → ⊥) → (horizon : ℕ) (log : List Entry) (r : Result Proved Memory) → r ≡ Ok other
    → IfOk r (λ p. p ≡ certificate_of horizon log) → A
no_other other not_one not_long horizon log r e is =
    absurd (certificate_or_none other not_one not_long (nat_le (length (proof_text horizon log)) certificate_bytes) (proof_text horizon log) (IfOk-at_ok (λ p. p ≡ certificate_of horizon log) e is))

-- the values of a run that found a plan are a model of its formula
pub found_model : (run : RunView) → IsMoved run → IsReached (choice_in run) run.formula run.granted → run.state.standing ≡ Found → IsModel run.formula (truths_of run.formula run.state)
found_model run moved is found =
    let there = ap (λ (r : RunView). r.state) moved in
    subst (λ (s : State). IsModel run.formula (truths_of run.formula s)) (sym there) (is.found (ap (λ (s : State). s.standing) (sym there) ∙ found))

-- a run that is going has used up what it was granted
pub used_up : (run : RunView) → IsMoved run → IsReached (choice_in run) run.formula run.granted → run.state.standing ≡ Going
    → run.state.conflicts ≡ run.granted
used_up run moved is going =
    let there = ap (λ (r : RunView). r.state) moved in
    ap (λ (s : State). s.conflicts) there ∙ is.used_up (ap (λ (s : State). s.standing) (sym there) ∙ going)

-- a certificate is one over formulas that are the same at its horizon
pub certificate_over : (f g : ℕ → Cnf) (text : List ℕ) (horizon : ℕ) → f horizon ≡ g horizon → IsCertificate f text horizon → IsCertificate g text horizon
certificate_over f g text horizon same is = record {
  log = is.log;
  is_spelled = is.is_spelled;
  refutes = subst (λ (h : Cnf). IsRefutation h.variables h.clauses is.log) same is.refutes;
}

-- equal answers have equal values
pub value_of : {A E : Type 0} (x y : A) → ◌≡◌ {A = Result A E} (Ok x) (Ok y) → x ≡ y
value_of x y e = cc
