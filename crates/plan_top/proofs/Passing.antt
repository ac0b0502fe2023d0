-- What is written as a certificate is accepted.
use Rattle.std.proofs.Common.{◌≡◌, ◌≤◌, ℕ, nat_le, Bool, true, false, if◌then◌else◌, List, [], ◌∷◌, length, refl, sym, ap, subst, ◌∙◌, arith, inl, inr}
use Rattle.std.proofs.lemmas.Bool.Decides.{nat_tests}
use Rattle.pl_io.specs.Outside.{Heard}
use Rattle.clause_base.specs.declared.log.Entry.{Entry}
use Rattle.cdcl_defs.specs.State.{State}
use Rattle.cdcl_defs.specs.declared.standing.Standing.{Standing}
use Rattle.cdcl_defs.specs.declared.standing.Standing.TheVariants.{Going, Found, Refuted}
use Rattle.pd_model.specs.declared.parts.Parts.{Parts}
use Rattle.grounding_defs.specs.Grounded.{Grounded}
use Rattle.proof_log.specs.Text.{proof_text}
use Rattle.proof_log.specs.Place.{IsUnfitAt}
use Rattle.formula_defs.specs.Variables.{chain_places}
use Rattle.step_encoding.specs.Limits.{planner_literals}
use Rattle.step_encoding.specs.Numbers.{literals_of}
use Rattle.step_laws.specs.Form.{OrderedTask}
use Rattle.commands.specs.Known.{IsOrdered, form_of, formula_at}
use Rattle.commands.specs.Certificate.{IsCertificate}
use Rattle.commands.specs.Proved.{Proves, proved_as}
use Rattle.containers.specs.Limits.{certificate_bytes}
use Rattle.commands.specs.Judged.{IsJudged}
use Rattle.commands.specs.declared.prove.Proved.{Proved}
use Rattle.commands.specs.declared.prove.Proved.TheVariants as proved
use Rattle.commands.specs.declared.verify.Judged.{Judged}
use Rattle.commands.specs.declared.verify.Judged.TheVariants as judged
use Rattle.requests.specs.Seen.{proves, verifies}
use Rattle.requests.specs.declared.request.Stepping.TheVariants.{Exists}
use Rattle.plan_endings.specs.declared.ending.File.TheVariants.{Proof}
use Rattle.plan_endings.specs.declared.ending.Ending.{Ending}
use Rattle.plan_endings.specs.declared.ending.Ending.TheVariants.{Listing, TooLong, TooLarge, Found as FoundPlan, Open}
use Rattle.plan_endings.specs.Ending.{status_of}
use Rattle.commands.specs.Files.{file_at}
use Rattle.commands.specs.Tasks.{IsReady, OnceRead, not_read, read, OnceGrounded, not_grounded, grounded}
use Rattle.commands.specs.Answers.{AnswersProve, not_run, run, AnswersProof, not_checked, checked, AnswersVerify, unfit, beyond, spelled, ending_of_run, ending_of_check}
use Rattle.plan_top.specs.Laws.{Laws}
use Rattle.plan_top.specs.Causes.{HasRead, Comes}
use Rattle.plan_top.specs.OneReport.{AskToVerify}
use Rattle.plan_top.proofs.Told.{asked_comes}
use Rattle.plan_top.proofs.Reports.{is_stop}
use Rattle.plan_top.proofs.Reported.{task_stops}
use Rattle.plan_top.proofs.OneTask.{no_refusal, one_task, no_limit}
use Rattle.plan_top.proofs.OneReport.{IsCause, long_stops, not_long, cause_of, one_judgement, one_form, not_small}

-- what was written as a certificate, of a formula that is not too large, and no more bytes than it may have
pub record IsWritten (g : Grounded) (horizon : ℕ) (text : List ℕ) : Type 0 where
  pub clauses : List (ℕ × ℕ)
  pub components : List (List ℕ)
  pub ordered : IsOrdered g.task clauses components
  pub small : literals_of (formula_at chain_places (form_of g.task clauses components) horizon) ≤ planner_literals
  pub cert : IsCertificate (formula_at chain_places (form_of g.task clauses components)) text horizon
  pub short : length text ≤ certificate_bytes

short_text : (horizon : ℕ) (s : Standing) (state : State) (text : List ℕ) → proved.Certificate text ≡ proved_as horizon s state → length text ≤ certificate_bytes
short_text horizon Refuted state text e = step (nat_le (length (proof_text horizon state.log)) certificate_bytes) refl e
  where
    step : (b : Bool) → nat_le (length (proof_text horizon state.log)) certificate_bytes ≡ b → proved.Certificate text ≡ (if b then proved.Certificate (proof_text horizon state.log) else proved.TooLong) → length text ≤ certificate_bytes
    step true low e =
        let same : text ≡ proof_text horizon state.log = cc in
        let within : length (proof_text horizon state.log) ≤ certificate_bytes = grind (arith, nat_tests, low) in
        subst (λ (xs : List ℕ). length xs ≤ certificate_bytes) (sym same) within
    step false low e = absurd (let never : proved.Certificate text ≡ proved.TooLong = e in cc)
short_text horizon Found state text e = absurd (let never : proved.Certificate text ≡ proved.Plan state.conflicts = e in cc)
short_text horizon Going state text e = absurd (let never : proved.Certificate text ≡ proved.Open state.conflicts = e in cc)

written_as : (task : Parts) (g : Grounded) (horizon budget : ℕ) (text : List ℕ) → AnswersProve horizon budget task g (Listing text) → IsWritten g horizon text
written_as task g horizon budget text (not_run count many e) = absurd (let never : Listing text ≡ TooLarge horizon count = e in cc)
written_as task g horizon budget text (run p so e) = step p so e
  where
    step : (p : Proved) → Proves g.task horizon budget p → Listing text ≡ ending_of_run horizon p → IsWritten g horizon text
    step (proved.Certificate other) so e =
        let same : other ≡ text = cc in
        record {
          clauses = so.clauses;
          components = so.components;
          ordered = so.ordered;
          small = so.small;
          cert = subst (λ (xs : List ℕ). IsCertificate (formula_at chain_places (form_of g.task so.clauses so.components)) xs horizon) same (so.certified other refl);
          short = subst (λ (xs : List ℕ). length xs ≤ certificate_bytes) same (short_text horizon _ _ other so.is);
        }
    step proved.TooLong so e = absurd (let never : Listing text ≡ TooLong Proof = e in cc)
    step (proved.Plan conflicts) so e = absurd (let never : Listing text ≡ FoundPlan horizon conflicts = e in cc)
    step (proved.Open conflicts) so e = absurd (let never : Listing text ≡ Open horizon conflicts = e in cc)

-- a listing stops no run
on_listing : {A : Type 0} (text : List ℕ) → is_stop (Listing text) ≡ true → A
on_listing text stop = absurd (let never : false ≡ true = stop in cc)

module _ (laws : Laws) where
  -- the checker accepts it
  judged_so : (g : Grounded) (horizon : ℕ) (text : List ℕ) (w : IsWritten g horizon text) (end : Ending) → AnswersProof horizon w.cert.log g end → status_of end ≡ 0
  judged_so g horizon text w end (not_checked count many e) = not_small laws.invariants laws.unique g.task horizon count many w.clauses w.components w.ordered w.small
  judged_so g horizon text w end (checked j judges e) =
      let form = one_form laws.invariants laws.unique Exists g.task judges.clauses w.clauses judges.components w.components judges.ordered w.ordered in
      let formula = formula_at chain_places (form_of g.task w.clauses w.components) horizon in
      let is : IsJudged formula w.cert.log j = subst (λ (f : OrderedTask). IsJudged (formula_at chain_places f horizon) w.cert.log j) form judges.is in
      let accepted : j ≡ judged.Accepted (length w.cert.log) = one_judgement formula w.cert.log j (judged.Accepted (length w.cert.log)) is (refl, w.cert.refutes) in
      ap status_of e ∙ ap (λ (i : Judged). status_of (ending_of_check horizon i)) accepted

  verified_so : (task : Parts) (g : Grounded) (horizon : ℕ) (text : List ℕ) → IsReady task g → (w : IsWritten g horizon text) (end : Ending) → AnswersVerify task text end → status_of end ≡ 0
  verified_so task g horizon text ready w end (unfit (at, u, e)) =
      let is = w.cert.is_spelled in absurd (laws.no_fault horizon w.cert.log at is.within is.written (subst (λ (bs : List ℕ). IsUnfitAt bs at) is.spelled u))
  verified_so task g horizon text ready w end (beyond h log is over) = absurd (no_limit laws.one_result task over.0 over.1 g over.3 ready.grounded ready.fits)
  verified_so task g horizon text ready w end (spelled h log k is also a) =
      let mine = w.cert.is_spelled in
      let same = laws.one_spelling h horizon log w.cert.log is.within mine.within is.written mine.written (sym is.spelled ∙ mine.spelled) in
      let here = subst (λ (z : Grounded). AnswersProof h log z end) (laws.one_result task k g also.grounded ready.grounded) a in
      let there = subst (λ (n : ℕ). AnswersProof n log g end) same.0 here in
      judged_so g horizon text w end (subst (λ (es : List Entry). AnswersProof horizon es g end) same.1 there)

  -- two files that were answered with a certificate, and the same two with it
  both_so : (first second text : List ℕ) (horizon budget : ℕ) (end : Ending) → OnceGrounded first second (AnswersProve horizon budget) (Listing text)
      → OnceRead first second (λ task. AnswersVerify task text) end → status_of end ≡ 0
  both_so first second text horizon budget end (not_grounded s) v = on_listing text (task_stops first second (Listing text) s)
  both_so first second text horizon budget end (grounded task g are ready h) (not_read r) = absurd (no_refusal first second end task r are)
  both_so first second text horizon budget end (grounded task g are ready h) (read other too v) =
      verified_so task g horizon text ready (written_as task g horizon budget text h) end (subst (λ (t : Parts). AnswersVerify t text end) (one_task first second other task too are) v)

  its_length : (first second text : List ℕ) (horizon budget : ℕ) → OnceGrounded first second (AnswersProve horizon budget) (Listing text) → length text ≤ certificate_bytes
  its_length first second text horizon budget (not_grounded s) = on_listing text (task_stops first second (Listing text) s)
  its_length first second text horizon budget (grounded task g are ready h) = (written_as task g horizon budget text h).short

  pub passes : (took elsewhere : List Heard) (old new before after words others : List (List ℕ)) (text : List ℕ) (end : Ending) → AskToVerify took elsewhere words others text → Comes took old new words end
      → Comes elsewhere before after others (Listing text) → HasRead end → status_of end ≡ 0
  passes took elsewhere old new before after words others text end ask p q has =
      step
      (cause_of (proves ask.other_domain ask.other_problem ask.horizon ask.budget) elsewhere before after (ask.first ∷ ask.second ∷ []) (Listing text) ask.other_heard refl tt
      (asked_comes elsewhere before after others (proves ask.other_domain ask.other_problem ask.horizon ask.budget) tt ask.others_asked (Listing text) q))
      (cause_of (verifies ask.domain ask.problem ask.proof) took old new (ask.first ∷ ask.second ∷ text ∷ []) end ask.heard refl has
      (asked_comes took old new words (verifies ask.domain ask.problem ask.proof) tt ask.asked end p))
    where
      step : IsCause (proves ask.other_domain ask.other_problem ask.horizon ask.budget) (ask.first ∷ ask.second ∷ []) (Listing text) → IsCause (verifies ask.domain ask.problem ask.proof) (ask.first ∷ ask.second ∷ text ∷ []) end → status_of end ≡ 0
      step (inl long) v = on_listing text (long_stops (file_at (proves ask.other_domain ask.other_problem ask.horizon ask.budget)) 0 (ask.first ∷ ask.second ∷ []) (Listing text) long)
      step (inr (short, h)) (inl long) =
          absurd (not_long (file_at (verifies ask.domain ask.problem ask.proof)) 0 (ask.first ∷ ask.second ∷ text ∷ []) end long (short.0, (short.1.0, (its_length ask.first ask.second text ask.horizon ask.budget h, tt))))
      step (inr (short, h)) (inr (all, v)) = both_so ask.first ask.second text ask.horizon ask.budget end h v
