-- What `prove` comes to on a horizon that `plan` tells as refuted, or as found.
use Rattle.std.proofs.Common.{◌≡◌, ◌≤◌, ℕ, ◌+◌, ◌-◌, nat_le, Bool, true, false, if◌then◌else◌, List, [], ◌∷◌, length, Option, refl, sym, ap, subst, ◌∙◌, arith, inl, inr, codes, get_or}
use Rattle.std.specs.Prelude.{◌⊎◌, IsTrue}
use Rattle.pl_io.specs.Outside.{Heard}
use Rattle.report_lines.specs.Horizons.{Says, is_word}
use Rattle.clause_base.specs.Choice.{Known}
use Rattle.clause_base.specs.Formula.{Cnf}
use Rattle.cdcl_defs.specs.Run.{is_going}
use Rattle.cdcl_defs.specs.State.{State}
use Rattle.cdcl_defs.specs.declared.standing.Standing.{Standing}
use Rattle.cdcl_defs.specs.declared.standing.Standing.TheVariants.{Going, Found, Refuted}
use Rattle.horizon_rates.specs.declared.settings.Settings.{Settings}
use Rattle.pd_model.specs.declared.parts.Parts.{Parts}
use Rattle.grounding_defs.specs.Grounded.{Grounded, IsGrounded}
use Rattle.proof_log.specs.Text.{proof_text}
use Rattle.formula_defs.specs.Variables.{chain_places}
use Rattle.horizon_run.specs.Run.{reached, Stays}
use Rattle.race_outcome.specs.Ends.{Word, WordRefuted, WordDropped, WordOpen, WordPlan, end_view}
use Rattle.plan_report.specs.Report.{word_text}
use Rattle.step_encoding.specs.Limits.{planner_literals}
use Rattle.step_encoding.specs.Numbers.{literals_of}
use Rattle.commands.specs.Known.{IsOrdered, form_of, choice_at, formula_at}
use Rattle.commands.specs.Proved.{Proves, proved_as}
use Rattle.containers.specs.Limits.{certificate_bytes}
use Rattle.commands.specs.declared.prove.Proved.{Proved}
use Rattle.commands.specs.declared.prove.Proved.TheVariants as proved
use Rattle.requests.specs.Seen.{proves, plans}
use Rattle.requests.specs.declared.request.Stepping.TheVariants.{Exists}
use Rattle.plan_endings.specs.declared.ending.File.TheVariants.{Proof}
use Rattle.plan_endings.specs.declared.ending.Outcome.{Outcome}
use Rattle.plan_endings.specs.declared.ending.Ending.{Ending}
use Rattle.plan_endings.specs.Ending.{text_of}
use Rattle.plan_endings.specs.declared.ending.Ending.TheVariants.{Report, Listing, TooLong, Found as FoundPlan}
use Rattle.commands.specs.Files.{file_at}
use Rattle.commands.specs.Stepping.{places_by}
use Rattle.commands.specs.Tasks.{IsReady, OnceGrounded, not_grounded, grounded}
use Rattle.commands.specs.Raced.{input_of}
use Rattle.commands.specs.Answers.{AnswersProve, not_run, run, ending_of_run}
use Rattle.plan_top.specs.Headline.{OfGrounded, IsSo, LineIsSo, standing_of}
use Rattle.plan_top.specs.Laws.{Laws}
use Rattle.plan_top.proofs.published.Claims as claims
use Rattle.plan_top.specs.Causes.{HasRead, Comes}
use Rattle.plan_top.specs.OneReport.{AskToProve}
use Rattle.plan_top.proofs.Fits.{line_fits}
use Rattle.plan_top.proofs.OneTask.{one_task, no_stop}
use Rattle.plan_top.proofs.OneReport.{IsCause, cause_of, long_stops, not_long, not_small}
use Rattle.plan_top.proofs.Reported.{Raced, raced, said_of}
use Rattle.plan_top.proofs.Reports.{is_stop}
use Rattle.plan_top.proofs.Told.{asked_comes}

-- ---- words and standings

-- how a word and the standing that a solver has at it go together
word_refuted : (word : Word) → codes "refuted" ≡ word_text word → standing_of word ≡ Refuted
word_refuted WordRefuted told = refl
word_refuted WordDropped told = absurd (let never : 114 ≡ 100 = ap (λ (xs : List ℕ). get_or xs 0 0) told in omega (arith, never))
word_refuted WordOpen told = absurd (let never : 114 ≡ 111 = ap (λ (xs : List ℕ). get_or xs 0 0) told in omega (arith, never))
word_refuted WordPlan told = absurd (let never : 114 ≡ 112 = ap (λ (xs : List ℕ). get_or xs 0 0) told in omega (arith, never))

word_found : (word : Word) → codes "plan" ≡ word_text word → standing_of word ≡ Found
word_found WordRefuted told = absurd (let never : 112 ≡ 114 = ap (λ (xs : List ℕ). get_or xs 0 0) told in omega (arith, never))
word_found WordDropped told = absurd (let never : 112 ≡ 100 = ap (λ (xs : List ℕ). get_or xs 0 0) told in omega (arith, never))
word_found WordOpen told = absurd (let never : 112 ≡ 111 = ap (λ (xs : List ℕ). get_or xs 0 0) told in omega (arith, never))
word_found WordPlan told = refl

-- the ending of a run of a horizon that stands so
abbrev pub IsEndOf : ℕ → Standing → Ending → Type 0
IsEndOf horizon Refuted end = ((text : List ℕ) × (end ≡ Listing text)) ⊎ (end ≡ TooLong Proof)
IsEndOf horizon Found end = (conflicts : ℕ) × (end ≡ FoundPlan horizon conflicts)
IsEndOf horizon Going end = Unit {0}

end_of : (horizon : ℕ) (standing : Standing) (state : State) → IsEndOf horizon standing (ending_of_run horizon (proved_as horizon standing state))
end_of horizon Refuted state = step (nat_le (length (proof_text horizon state.log)) certificate_bytes)
  where
    step : (b : Bool) → IsEndOf horizon Refuted (ending_of_run horizon (if b then proved.Certificate (proof_text horizon state.log) else proved.TooLong))
    step true = inl (proof_text horizon state.log, refl)
    step false = inr refl
end_of horizon Found state = (state.conflicts, refl)
end_of horizon Going state = tt

-- ---- the run of the horizon

-- a state that is settled is that of each greater budget
settled : (choose : Known → Option ℕ) (formula : Cnf) (conflicts budget : ℕ) → Stays choose formula → conflicts ≤ budget → is_going (reached choose formula conflicts).standing ≡ false
    → reached choose formula budget ≡ reached choose formula conflicts
settled choose formula conflicts budget stays low off =
    let more : conflicts + (budget - conflicts) ≡ budget = omega (arith, low) in
    subst (λ (n : ℕ). reached choose formula n ≡ reached choose formula conflicts) more (stays conflicts (budget - conflicts) off)

-- what is claimed of what a task is grounded to holds of it
claimed : (task : Parts) (claim : Grounded → List (ℕ × ℕ) → List (List ℕ) → Type 0) → OfGrounded task claim → (g : Grounded) (clauses : List (ℕ × ℕ)) (components : List (List ℕ))
    → IsGrounded task g → IsOrdered g.task clauses components → claim g clauses components
claimed task claim of g clauses components is ordered =
    let o = of.only g clauses components is ordered in
    subst (λ (h : Grounded). claim h clauses components) (sym o.0)
    (subst (λ (cs : List (ℕ × ℕ)). claim of.g cs components) (sym o.1) (subst (λ (xs : List (List ℕ)). claim of.g of.clauses xs) (sym o.2) of.holds))

-- the formula of a horizon of a task is not too large
abbrev pub IsSmallAt : ℕ → Parts → Type 0
IsSmallAt horizon task = OfGrounded task (λ g clauses components. literals_of (formula_at chain_places (form_of g.task clauses components) horizon) ≤ planner_literals)

-- A horizon at which a line with this word stands so, after so many conflicts.
module _ (laws : Laws) (horizon conflicts : ℕ) (word : List ℕ) (one : IsTrue (is_word word)) (standing : Standing) (off : is_going standing ≡ false) (stands : (w : Word) → word ≡ word_text w → standing_of w ≡ standing) where
  run_so : (task : Parts) (g : Grounded) (budget : ℕ) → conflicts ≤ budget → IsReady task g → LineIsSo Exists horizon word conflicts task → (p : Proved) → Proves g.task horizon budget p
      → IsEndOf horizon standing (ending_of_run horizon p)
  run_so task g budget low ready line p so =
      let choose = choice_at chain_places (form_of g.task so.clauses so.components) horizon in
      let formula = formula_at chain_places (form_of g.task so.clauses so.components) horizon in
      let state = reached choose formula budget in
      let here = claimed task
      (λ h clauses components. IsSo (choice_at (places_by Exists) (form_of h.task clauses components) horizon) (formula_at (places_by Exists) (form_of h.task clauses components) horizon) word conflicts)
      line g so.clauses so.components ready.grounded so.ordered in
      let there : (reached choose formula conflicts).standing ≡ standing = here.stands ∙ stands here.word_is here.told in
      let same = settled choose formula conflicts budget so.stays low (ap is_going there ∙ off) in
      let at : state.standing ≡ standing = ap (λ (s : State). s.standing) same ∙ there in
      let is : p ≡ proved_as horizon standing state = so.is ∙ ap (λ (s : Standing). proved_as horizon s state) at in
      subst (λ (q : Proved). IsEndOf horizon standing (ending_of_run horizon q)) (sym is) (end_of horizon standing state)

  answer_so : (task : Parts) (g : Grounded) (budget : ℕ) → conflicts ≤ budget → IsReady task g → LineIsSo Exists horizon word conflicts task → IsSmallAt horizon task → (end : Ending) → AnswersProve horizon budget task g end
      → IsEndOf horizon standing end
  answer_so task g budget low ready line small end (not_run count many e) =
      not_small laws.invariants laws.unique g.task horizon count many many.clauses many.components many.ordered
      (claimed task (λ h clauses components. literals_of (formula_at chain_places (form_of h.task clauses components) horizon) ≤ planner_literals) small g many.clauses many.components ready.grounded many.ordered)
  answer_so task g budget low ready line small end (run p so e) = subst (IsEndOf horizon standing) (sym e) (run_so task g budget low ready line p so)

  -- two files on which a race told so, and what `prove` comes to on them
  two_files : (first second : List ℕ) (settings : Settings) (report : Ending) → Raced Exists settings first second report → Says (text_of report) horizon word conflicts → (budget : ℕ) → conflicts ≤ budget → (end : Ending)
      → OnceGrounded first second (AnswersProve horizon budget) end → IsEndOf horizon standing end
  two_files first second settings report r says budget low end (not_grounded s) = absurd (no_stop laws.one_result first second end r.task r.g s r.are r.ready)
  two_files first second settings report r says budget low end (grounded task g are ready h) =
      let tells = said_of laws Exists settings first second report r horizon word conflicts one says in
      let line = claims.line_is_so laws Exists settings r.task r.g r.ready r.race r.comes horizon word conflicts tells in
      let form = form_of r.g.task r.comes.clauses r.comes.components in
      let fits = line_fits (input_of chain_places form settings) (end_view r.race) r.comes.ended tells.0 tells.1 in
      let small = claims.of_grounded laws r.task r.g r.ready r.comes.clauses r.comes.components r.comes.ordered
      (λ k clauses components. literals_of (formula_at chain_places (form_of k.task clauses components) horizon) ≤ planner_literals)
      (subst (λ (n : ℕ). literals_of (formula_at chain_places form n) ≤ planner_literals) tells.2 fits) in
      let same = one_task first second r.task task r.are are in
      answer_so task g budget low ready (subst (LineIsSo Exists horizon word conflicts) same line) (subst (IsSmallAt horizon) same small) end h

  -- what `prove` comes to for the files on which `plan` told so, on whatever shelf
  proves_so : (took elsewhere : List Heard) (old new before after words others : List (List ℕ)) (outcome : Outcome) (text : List ℕ) (end : Ending) → AskToProve took elsewhere words others horizon conflicts
      → Comes took old new words end → Comes elsewhere before after others (Report outcome text) → Says text horizon word conflicts → HasRead end → IsEndOf horizon standing end
  proves_so took elsewhere old new before after words others outcome text end ask p q says has =
      step
      (cause_of (plans ask.other_domain ask.other_problem ask.numbers) elsewhere before after (ask.first ∷ ask.second ∷ []) (Report outcome text) ask.other_heard refl tt
      (asked_comes elsewhere before after others (plans ask.other_domain ask.other_problem ask.numbers) tt ask.others_asked (Report outcome text) q))
      (cause_of (proves ask.domain ask.problem horizon ask.budget) took old new (ask.first ∷ ask.second ∷ []) end ask.heard refl has
      (asked_comes took old new words (proves ask.domain ask.problem horizon ask.budget) tt ask.asked end p))
    where
      step : IsCause (plans ask.other_domain ask.other_problem ask.numbers) (ask.first ∷ ask.second ∷ []) (Report outcome text) → IsCause (proves ask.domain ask.problem horizon ask.budget) (ask.first ∷ ask.second ∷ []) end → IsEndOf horizon standing end
      step (inl long) mine = absurd (let never : false ≡ true = long_stops (file_at (plans ask.other_domain ask.other_problem ask.numbers)) 0 (ask.first ∷ ask.second ∷ []) (Report outcome text) long in cc)
      step (inr (short, h)) (inl long) = absurd (not_long (file_at (proves ask.domain ask.problem horizon ask.budget)) 0 (ask.first ∷ ask.second ∷ []) end long (short.0, (short.1.0, tt)))
      step (inr (short, h)) (inr (all, mine)) =
          let on : is_stop (Report outcome text) ≡ true → ⊥ = λ stop. (let never : false ≡ true = stop in cc) in
          two_files ask.first ask.second h.0 (Report outcome text) (raced Exists h.0 ask.first ask.second (Report outcome text) on h.2) says ask.budget ask.enough end mine

-- A horizon that `plan` tells as refuted: its certificate is written, or is too long.
pub proves_refuted : (laws : Laws) (horizon conflicts : ℕ) (took elsewhere : List Heard) (old new before after words others : List (List ℕ)) (outcome : Outcome) (text : List ℕ) (end : Ending) → AskToProve took elsewhere words others horizon conflicts
    → Comes took old new words end → Comes elsewhere before after others (Report outcome text) → Says text horizon (codes "refuted") conflicts → HasRead end → ((certificate : List ℕ) × (end ≡ Listing certificate)) ⊎ (end ≡ TooLong Proof)
proves_refuted laws horizon conflicts = proves_so laws horizon conflicts (codes "refuted") refl Refuted refl word_refuted

-- One that it tells as found is told so.
pub proves_found : (laws : Laws) (horizon conflicts : ℕ) (took elsewhere : List Heard) (old new before after words others : List (List ℕ)) (outcome : Outcome) (text : List ℕ) (end : Ending) → AskToProve took elsewhere words others horizon conflicts
    → Comes took old new words end → Comes elsewhere before after others (Report outcome text) → Says text horizon (codes "plan") conflicts → HasRead end → (so_many : ℕ) × (end ≡ FoundPlan horizon so_many)
proves_found laws horizon conflicts = proves_so laws horizon conflicts (codes "plan") refl Found refl word_found
