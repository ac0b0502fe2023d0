-- Runs on the same files by words that ask for the same have one ending.
use Rattle.std.proofs.Common.{◌≡◌, ◌≤◌, ◌<◌, inl, inr, ℕ, zero, suc, ◌+◌, ◌==◌, true, if◌then◌else◌, List, [], ◌∷◌, ◌++◌, length, Some, None, Ok, Err, refl, sym, ap, ap₂, subst, ◌∙◌, arith}
use Rattle.std.specs.Prelude.{◌⊎◌, slice_get}
use Rattle.pl_io.specs.Outside.{Heard, IsSo}
use Rattle.gt_core.specs.Task.{Task}
use Rattle.gt_core.specs.Laws.{PublishedIsUnique}
use Rattle.two_invariants.specs.Laws.{OneListOfInvariants}
use Rattle.step_laws.specs.Form.{OrderedTask}
use Rattle.formula_defs.specs.Variables.{chain_places}
use Rattle.step_encoding.specs.Limits.{planner_literals}
use Rattle.step_encoding.specs.Numbers.{literals_of}
use Rattle.clause_base.specs.Formula.{Cnf}
use Rattle.clause_base.specs.declared.log.Entry.{Entry}
use Rattle.horizon_rates.specs.declared.rates.Rates.{Rates}
use Rattle.horizon_rates.specs.declared.settings.Settings.{Settings}
use Rattle.horizon_run.specs.Run.{reached}
use Rattle.plan_endings.specs.declared.ending.File.{File}
use Rattle.plan_endings.specs.declared.ending.File.TheVariants.{Domain, Problem, Proof}
use Rattle.plan_endings.specs.declared.ending.Kind.TheVariants.{Syntax}
use Rattle.race_outcome.specs.Ends.{EndView, end_view}
use Rattle.race_outcome.specs.declared.end.RaceEnd.{RaceEnd}
use Rattle.race.specs.Race as stage
use Rattle.pd_model.specs.Plan.{verdict}
use Rattle.pd_model.specs.declared.calls.Call.{Call}
use Rattle.pd_model.specs.declared.parts.Parts.{Parts}
use Rattle.grounding_defs.specs.Grounded.{Grounded}
use Rattle.plan_report.specs.Listings.{order_text}
use Rattle.proof_log.specs.Place.{IsUnfitAt}
use Rattle.plan_gen.specs.declared.Kind.{Kind as Generated}
use Rattle.plan_gen.specs.Task.{domain_of, problem_of}
use Rattle.plan_report.specs.Report.{report_of, summary_of}
use Rattle.plan_report.specs.Laws.{IsSmall}
use Rattle.requests.specs.Seen.{Seen, Numbers, NumbersAreSettings, numbers, plans, generates, batches, files_of}
use Rattle.requests.specs.OneTask.{IsOfOne}
use Rattle.requests.specs.Requested.{requested}
use Rattle.requests.specs.declared.request.Turns.{Turns}
use Rattle.requests.specs.declared.request.Show.{Show}
use Rattle.requests.specs.declared.request.Show.TheVariants as shows
use Rattle.plan_endings.specs.declared.ending.Ending.{Ending}
use Rattle.plan_endings.specs.declared.ending.Ending.TheVariants.{Report, Listing, Refused, TooLong, TooLarge, ReadFault}
use Rattle.plan_tasks.specs.Limits.{AreShort, most_of, file_in}
use Rattle.commands.specs.Files.{third_of, file_at}
use Rattle.plan_tasks.specs.Files.{IsFront, AreOf, StopsFrom}
use Rattle.plan_tasks.proofs.published.Taking.{taken_short}
use Rattle.plan_tasks.proofs.published.Hearing.{front_long, whole_is, taken_are, of_front}
use Rattle.gt_core.specs.Published.{IsPublished}
use Rattle.commands.specs.Known.{IsOrdered, HasTooMany, form_of, choice_at, formula_at}
use Rattle.commands.specs.Proved.{proved_of}
use Rattle.commands.specs.Judged.{IsJudged}
use Rattle.commands.specs.declared.verify.Judged.{Judged}
use Rattle.commands.specs.declared.verify.Judged.TheVariants as judged
use Rattle.plan_top.specs.Laws.{Laws}
use Rattle.requests.specs.declared.request.Stepping.{Stepping}
use Rattle.requests.specs.declared.request.Stepping.TheVariants.{Exists}
use Rattle.commands.specs.Stepping.{places_by, is_plan_by}
use Rattle.commands.specs.Tasks.{OnceGrounded}
use Rattle.commands.specs.Raced.{input_of, IsTooLarge, ComesTo, OnceRaced, too_large, ended, outcome_of}
use Rattle.commands.specs.Generated.{RacesGenerated, generated_line, generated_report}
use Rattle.commands.specs.Answers.{OfSettings, Decides, AnswersPlan, AnswersGround, AnswersOrder, AnswersCheck, AnswersProve, not_run, run, AnswersProof, not_checked, checked, AnswersVerify, unfit, beyond, spelled, ending_of, refusal_of_plan, ending_of_run, ending_of_check}
use Rattle.plan_top.specs.Causes.{HasRead, ComesFor, stopped, decided, IsPartOf, ArePartsOf, IsBatchOf, Comes}
use Rattle.plan_endings.specs.Ending.{status_of, batch_of}
use Rattle.plan_top.specs.OneReport.{AreSameRace, AreSameAlone, plans_same, generates_same, checks_same, grounds_same, orders_same, proves_same, verifies_same, AreSame, alone, batches_same, AskForOnePart, OneEnding}
use Rattle.plan_top.proofs.Reports.{is_stop}
use Rattle.plan_top.proofs.Told.{asked_comes, asked_parts, one_request, same_parts}
use Rattle.plan_top.proofs.Complete.{of_two, of_three}
use Rattle.plan_top.proofs.OneTask.{no_limit, one_over, once_read, once_grounded}

-- ---- settings

-- settings whose numbers differ in slice and workers alone run one race
same_race : NumbersAreSettings → (s t : Settings) → AreSameRace (numbers s) (numbers t) → (s.rates ≡ t.rates) × (s.budget ≡ t.budget)
same_race law s t same =
    let moved : Settings = record s { slice = t.slice; workers = t.workers; slice_in_range = t.slice_in_range; workers_in_range = t.workers_in_range } in
    let is : moved ≡ t = law moved t same in
    (ap (λ (z : Settings). z.rates) is, ap (λ (z : Settings). z.budget) is)

-- ---- the race

module _ (invariants : OneListOfInvariants) (unique : PublishedIsUnique) (how : Stepping) (task : Task) where
  one_order : (cs ds : List (ℕ × ℕ)) (a b : List (List ℕ)) → IsOrdered task cs a → IsOrdered task ds b → (cs ≡ ds) × (a ≡ b)
  one_order cs ds a b p q =
      let clauses : ds ≡ cs = invariants task ds cs q.known p.known in
      (sym clauses, unique task cs a b p.published (subst (λ (zs : List (ℕ × ℕ)). IsPublished task zs b) clauses q.published))

  pub one_form : (cs ds : List (ℕ × ℕ)) (a b : List (List ℕ)) → IsOrdered task cs a → IsOrdered task ds b → form_of task cs a ≡ form_of task ds b
  one_form cs ds a b p q = let same = one_order cs ds a b p q in ap₂ (form_of task) same.0 same.1

  module _ (s t : Settings) (rates : s.rates ≡ t.rates) (budget : s.budget ≡ t.budget) where
    one_input : (f h : OrderedTask) → f ≡ h → input_of (places_by how) f s ≡ input_of (places_by how) h t
    one_input f h same =
        ap (λ (z : OrderedTask). input_of (places_by how) z s) same ∙ ap₂ (λ (r : Rates) (b : ℕ). record (input_of (places_by how) h s) { rates = r; budget = b }) rates budget

    one_stage : (f h : OrderedTask) → f ≡ h → stage.race_of (input_of (places_by how) f s) ≡ stage.race_of (input_of (places_by how) h t)
    one_stage f h same = ap stage.race_of (one_input f h same)

    one_horizon : (h k m n : ℕ) → IsTooLarge (places_by how) task s h m → IsTooLarge (places_by how) task t k n → TooLarge h m ≡ TooLarge k n
    one_horizon h k m n x y =
        let form = one_form x.clauses y.clauses x.components y.components x.ordered y.ordered in
        let both : stage.TooLarge h ≡ stage.TooLarge k =
        sym x.ended ∙ (one_stage (form_of task x.clauses x.components) (form_of task y.clauses y.components) form ∙ y.ended) in
        let horizons : h ≡ k = cc in
        let counts : m ≡ n =
        x.count_is ∙ (ap₂ (λ (f : OrderedTask) (z : ℕ). literals_of (formula_at (places_by how) f z)) form horizons ∙ sym y.count_is) in
        ap₂ TooLarge horizons counts

    one_end : (x y : RaceEnd) → ComesTo (places_by how) (is_plan_by how) task s x → ComesTo (places_by how) (is_plan_by how) task t y → end_view x ≡ end_view y
    one_end x y p q =
        let form = one_form p.clauses q.clauses p.components q.components p.ordered q.ordered in
        let both : stage.Ended (end_view x) ≡ stage.Ended (end_view y) =
        sym p.ended ∙ (one_stage (form_of task p.clauses p.components) (form_of task q.clauses q.components) form ∙ q.ended) in
        cc

    not_both : (h m : ℕ) (y : RaceEnd) → IsTooLarge (places_by how) task s h m → ComesTo (places_by how) (is_plan_by how) task t y → ⊥
    not_both h m y p q =
        let form = one_form p.clauses q.clauses p.components q.components p.ordered q.ordered in
        let both : stage.TooLarge h ≡ stage.Ended (end_view y) =
        sym p.ended ∙ (one_stage (form_of task p.clauses p.components) (form_of task q.clauses q.components) form ∙ q.ended) in
        cc

-- what a race comes to is one ending, where its end has one text
once_raced : OneListOfInvariants → PublishedIsUnique → (how : Stepping) (s t : Settings) → s.rates ≡ t.rates → s.budget ≡ t.budget → (task : Task) (P Q : EndView → Type 0) (f h : EndView → List ℕ)
    → ((race : EndView) → f race ≡ h race) → (x y : Ending) → OnceRaced (places_by how) (is_plan_by how) task s P f x → OnceRaced (places_by how) (is_plan_by how) task t Q h y → x ≡ y
once_raced invariants unique how s t rates budget task P Q f h same x y (too_large (k, m, e, a)) (too_large (l, n, d, b)) =
    e ∙ (one_horizon invariants unique how task s t rates budget k l m n a b ∙ sym d)
once_raced invariants unique how s t rates budget task P Q f h same x y (too_large (k, m, e, a)) (ended race comes so told) =
    absurd (not_both invariants unique how task s t rates budget k m race a comes)
once_raced invariants unique how s t rates budget task P Q f h same x y (ended race comes so told) (too_large (l, n, d, b)) =
    absurd (not_both invariants unique how task t s (sym rates) (sym budget) l n race b comes)
once_raced invariants unique how s t rates budget task P Q f h same x y (ended race comes so told) (ended other too also there) =
    let ends = one_end invariants unique how task s t rates budget race other comes too in
    told ∙ (ap (λ (v : EndView). Report (outcome_of v) (f v)) ends ∙ (ap (Report (outcome_of (end_view other))) (same (end_view other)) ∙ sym there))

-- ---- certificates

one_check : (task : Parts) (bytes : List ℕ) (x y : Ending) → AnswersCheck task bytes x → AnswersCheck task bytes y → x ≡ y
one_check task bytes x y (inl (calls, p, e)) (inl (others, q, d)) =
    let both : Ok calls ≡ Ok others = sym p ∙ q in
    let same : calls ≡ others = cc in
    e ∙ (ap (λ (cs : List Call). ending_of (verdict task cs)) same ∙ sym d)
one_check task bytes x y (inl (calls, p, e)) (inr (fault, q, d)) = absurd (let never : Ok calls ≡ Err fault = sym p ∙ q in cc)
one_check task bytes x y (inr (fault, p, e)) (inl (others, q, d)) = absurd (let never : Ok others ≡ Err fault = sym q ∙ p in cc)
one_check task bytes x y (inr (fault, p, e)) (inr (other, q, d)) =
    let both : Err fault ≡ Err other = sym p ∙ q in
    let same : fault ≡ other = cc in
    e ∙ (ap refusal_of_plan same ∙ sym d)

pub one_judgement : (f : Cnf) (log : List Entry) (i j : Judged) → IsJudged f log i → IsJudged f log j → i ≡ j
one_judgement f log (judged.Accepted a) (judged.Accepted b) p q = ap judged.Accepted (p.0 ∙ sym q.0)
one_judgement f log (judged.Accepted a) (judged.Rejected e) p q = absurd (q.here (p.1.derived e q.in_range))
one_judgement f log (judged.Accepted a) judged.NotEmpty p q = absurd (q.1 p.1.ends_empty)
one_judgement f log (judged.Rejected e) (judged.Accepted b) p q = absurd (p.here (q.1.derived e p.in_range))
one_judgement f log (judged.Rejected e) (judged.Rejected d) p q =
    let no_less : e < d → ⊥ = λ less. p.here (q.earlier e less) in
    let no_more : d < e → ⊥ = λ more. q.here (p.earlier d more) in
    ap judged.Rejected (omega (arith, no_less, no_more))
one_judgement f log (judged.Rejected e) judged.NotEmpty p q = absurd (p.here (q.0 e p.in_range))
one_judgement f log judged.NotEmpty (judged.Accepted b) p q = absurd (p.1 q.1.ends_empty)
one_judgement f log judged.NotEmpty (judged.Rejected d) p q = absurd (q.here (p.0 d q.in_range))
one_judgement f log judged.NotEmpty judged.NotEmpty p q = refl

module _ (invariants : OneListOfInvariants) (unique : PublishedIsUnique) where
  one_listing : (task : Parts) (g : Grounded) (x y : Ending) → AnswersOrder task g x → AnswersOrder task g y → x ≡ y
  one_listing task g x y (cs, a, p, e) (ds, b, q, d) =
      let same = one_order invariants unique Exists g.task cs ds a b p q in
      e ∙ (ap₂ (λ (zs : List (ℕ × ℕ)) (c : List (List ℕ)). Listing (order_text task g c (length zs))) same.0 same.1 ∙ sym d)

  -- the formula of a horizon has so many literals, and not so many
  one_size : (task : Task) (h k : ℕ) (m : HasTooMany task h k) (cs : List (ℕ × ℕ)) (a : List (List ℕ)) → IsOrdered task cs a → k ≡ literals_of (formula_at chain_places (form_of task cs a) h)
  one_size task h k m cs a is = m.count_is ∙ ap (λ (f : OrderedTask). literals_of (formula_at chain_places f h)) (one_form invariants unique Exists task m.clauses cs m.components a m.ordered is)

  one_count : (task : Task) (h k l : ℕ) → HasTooMany task h k → HasTooMany task h l → TooLarge h k ≡ TooLarge h l
  one_count task h k l m n = ap (TooLarge h) (one_size task h k m n.clauses n.components n.ordered ∙ sym n.count_is)

  pub not_small : {A : Type 0} (task : Task) (h k : ℕ) → HasTooMany task h k → (cs : List (ℕ × ℕ)) (a : List (List ℕ)) → IsOrdered task cs a → literals_of (formula_at chain_places (form_of task cs a) h) ≤ planner_literals → A
  not_small task h k m cs a is small = let size = one_size task h k m cs a is in let over = m.over in absurd (omega (arith, size, over, small))

  one_proof : (h b : ℕ) (task : Parts) (g : Grounded) (x y : Ending) → AnswersProve h b task g x → AnswersProve h b task g y → x ≡ y
  one_proof h b task g x y (not_run k m e) (not_run l n d) = e ∙ (one_count g.task h k l m n ∙ sym d)
  one_proof h b task g x y (not_run k m e) (run r so d) = not_small g.task h k m so.clauses so.components so.ordered so.small
  one_proof h b task g x y (run p so e) (not_run l n d) = not_small g.task h l n so.clauses so.components so.ordered so.small
  one_proof h b task g x y (run p so e) (run r too d) =
      let form = one_form invariants unique Exists g.task so.clauses too.clauses so.components too.components so.ordered too.ordered in
      let same : p ≡ r = so.is ∙ (ap (λ (f : OrderedTask). proved_of h (reached (choice_at chain_places f h) (formula_at chain_places f h) b)) form ∙ sym too.is) in
      e ∙ (ap (ending_of_run h) same ∙ sym d)

  one_verdict : (h : ℕ) (log : List Entry) (g : Grounded) (x y : Ending) → AnswersProof h log g x → AnswersProof h log g y → x ≡ y
  one_verdict h log g x y (not_checked k m e) (not_checked l n d) = e ∙ (one_count g.task h k l m n ∙ sym d)
  one_verdict h log g x y (not_checked k m e) (checked j so d) = not_small g.task h k m so.clauses so.components so.ordered so.small
  one_verdict h log g x y (checked i so e) (not_checked l n d) = not_small g.task h l n so.clauses so.components so.ordered so.small
  one_verdict h log g x y (checked i so e) (checked j too d) =
      let form = one_form invariants unique Exists g.task too.clauses so.clauses too.components so.components too.ordered so.ordered in
      let there = subst (λ (f : OrderedTask). IsJudged (formula_at chain_places f h) log j) form too.is in
      e ∙ (ap (ending_of_check h) (one_judgement (formula_at chain_places (form_of g.task so.clauses so.components) h) log i j so.is there) ∙ sym d)

-- ---- the files

-- one of the files from a place on has more bytes than it may have, and those before it have not
abbrev pub LongFrom : (ℕ → File) → ℕ → List (List ℕ) → Ending → Type 0
LongFrom file place [] end = ⊥
LongFrom file place (f ∷ fs) end = ((end ≡ TooLong (file place)) × (most_of (file place) < length f)) ⊎ ((length f ≤ most_of (file place)) × LongFrom file (place + 1) fs end)

one_long : (file : ℕ → File) (place : ℕ) (files : List (List ℕ)) (x y : Ending) → LongFrom file place files x → LongFrom file place files y → x ≡ y
one_long file place [] x y p q = absurd p
one_long file place (f ∷ fs) x y (inl p) (inl q) = p.0 ∙ sym q.0
one_long file place (f ∷ fs) x y (inl p) (inr q) = absurd (omega (arith, p.1, q.0))
one_long file place (f ∷ fs) x y (inr p) (inl q) = absurd (omega (arith, p.0, q.1))
one_long file place (f ∷ fs) x y (inr p) (inr q) = one_long file (place + 1) fs x y p.1 q.1

-- so the ending tells why there is no answer
pub long_stops : (file : ℕ → File) (place : ℕ) (files : List (List ℕ)) (end : Ending) → LongFrom file place files end → is_stop end ≡ true
long_stops file place [] end h = absurd h
long_stops file place (f ∷ fs) end (inl long) = ap is_stop long.0
long_stops file place (f ∷ fs) end (inr more) = long_stops file (place + 1) fs end more.1

pub not_long : (file : ℕ → File) (place : ℕ) (files : List (List ℕ)) (x : Ending) → LongFrom file place files x → AreShort file place files → ⊥
not_long file place [] x p short = p
not_long file place (f ∷ fs) x (inl p) short = let few = short.0 in omega (arith, p.1, few)
not_long file place (f ∷ fs) x (inr p) short = not_long file (place + 1) fs x p.1 short.1

long_of : (old new : List (List ℕ)) (file : ℕ → File) (place : ℕ) (names : List (List ℕ)) (took : List Heard) (files : List (List ℕ)) (end : Ending) → AreOf files took → length files ≡ length names → HasRead end
    → StopsFrom old new file place names took end → LongFrom file place files end
long_of old new file place [] took files end of count has h = absurd h
long_of old new file place (n ∷ ns) took [] end of count has h = absurd (omega (arith, count))
long_of old new file place (n ∷ ns) [] (f ∷ fs) end of count has (inl fault) = absurd (subst HasRead fault.0 has)
long_of old new file place (n ∷ ns) [] (f ∷ fs) end of count has (inr (told, (heard, one, front))) = absurd (let never : [] ≡ heard ∷ [] = one in cc)
long_of old new file place (n ∷ ns) (e ∷ es) (f ∷ fs) end of count has (inl (inl fault)) = absurd (subst HasRead fault.0 has)
long_of old new file place (n ∷ ns) (e ∷ es) (f ∷ fs) end of count has (inl (inr (told, (heard, one, front)))) =
    let same : heard ≡ e = cc in
    inl (told, front_long (file place) n e f (subst (IsFront (file place) n) same front) of.0)
long_of old new file place (n ∷ ns) (e ∷ es) (f ∷ fs) end of count has (inr (goes, more)) = inr (
  subst (λ (bytes : List ℕ). length bytes ≤ most_of (file place)) (whole_is (file place) n e goes.0 f goes.1 of.0) goes.1.1,
  long_of old new file (place + 1) ns es fs end of.1 (omega (arith, count)) has more,
)

-- the files stop a run, or decide its ending
abbrev pub IsCause : Seen → List (List ℕ) → Ending → Type 0
IsCause request files end = LongFrom (file_at request) 0 files end ⊎ (AreShort (file_at request) 0 files × Decides request files end)

pub cause_of : (request : Seen) (took : List Heard) (old new files : List (List ℕ)) (end : Ending) → AreOf files took → length files ≡ length (files_of request) → HasRead end → ComesFor took old new request end → IsCause request files end
cause_of request took old new files end of count has (stopped h) = inl (long_of old new (file_at request) 0 (files_of request) took files end of count has h)
cause_of request took old new files end of count has (decided taken are answer h) =
    let same = taken_are (file_at request) 0 (files_of request) took taken files are of count in
    inr (subst (AreShort (file_at request) 0) same (taken_short (file_at request) 0 (files_of request) took taken are), subst (λ (fs : List (List ℕ)). Decides request fs end) same h)

-- the same by what the files after the first two are
abbrev IsCauseBy : File → Seen → List (List ℕ) → Ending → Type 0
IsCauseBy third request files end = LongFrom (file_in third) 0 files end ⊎ (AreShort (file_in third) 0 files × Decides request files end)

one_cause : (r q : Seen) (files : List (List ℕ)) (x y : Ending) → third_of q ≡ third_of r → (Decides r files x → Decides q files y → x ≡ y) → IsCause r files x → IsCause q files y → x ≡ y
one_cause r q files x y third one mine other = step mine (subst (λ (t : File). IsCauseBy t q files y) third other)
  where
    step : IsCauseBy (third_of r) r files x → IsCauseBy (third_of r) q files y → x ≡ y
    step (inl a) (inl b) = one_long (file_in (third_of r)) 0 files x y a b
    step (inl a) (inr b) = absurd (not_long (file_in (third_of r)) 0 files x a b.0)
    step (inr a) (inl b) = absurd (not_long (file_in (third_of r)) 0 files y b a.0)
    step (inr a) (inr b) = one a.1 b.1

-- ---- requests of one task

-- as many files, and of the same kinds
same_files : (r q : Seen) → AreSameAlone r q → IsOfOne r × IsOfOne q × (third_of q ≡ third_of r) × (length (files_of q) ≡ length (files_of r))
same_files r q (plans_same how d p e k n m is too race) = rw (is, too) (tt, tt, refl, refl)
same_files r q (generates_same kind number show n m is too race) = rw (is, too) (tt, tt, refl, refl)
same_files r q (checks_same d p l e k j is too) = rw (is, too) (tt, tt, refl, refl)
same_files r q (grounds_same d p e k is too) = rw (is, too) (tt, tt, refl, refl)
same_files r q (orders_same d p e k is too) = rw (is, too) (tt, tt, refl, refl)
same_files r q (proves_same d p e k h b is too) = rw (is, too) (tt, tt, refl, refl)
same_files r q (verifies_same d p c e k j is too) = rw (is, too) (tt, tt, refl, refl)

module _ (laws : Laws) where
  -- what two files decide for a race
  one_decision : (how : Stepping) (first second : List ℕ) (n m : Numbers) → AreSameRace n m → (x y : Ending) → OfSettings n (λ s. OnceGrounded first second (AnswersPlan how s) x) → OfSettings m (λ t. OnceGrounded first second (AnswersPlan how t) y) → x ≡ y
  one_decision how first second n m same x y (s, is, p) (t, too, q) =
      let race = same_race laws.settings s t (subst (λ (z : Numbers). AreSameRace z (numbers t)) (sym is) (subst (λ (z : Numbers). AreSameRace n z) (sym too) same)) in
      once_grounded laws.one_result first second (AnswersPlan how s) (AnswersPlan how t) x y
      (λ task g. once_raced laws.invariants laws.unique how s t race.0 race.1 g.task (IsSmall s.budget) (IsSmall t.budget) (report_of task g s.budget) (report_of task g t.budget) (λ v. ap (λ (b : ℕ). report_of task g b v) race.1) x y) p q

  one_generation : (kind : Generated) (number : ℕ) (show : Show) (n m : Numbers) → AreSameRace n m → (files : List (List ℕ)) (x y : Ending) → Decides (generates kind number n show) files x → Decides (generates kind number m show) files y → x ≡ y
  one_generation kind number shows.Domain n m same files x y p q = p.1.2 ∙ sym q.1.2
  one_generation kind number shows.Problem n m same files x y p q = p.1.2 ∙ sym q.1.2
  one_generation kind number shows.None n m same files x y p q =
      let s = p.1.0 in
      let t = q.1.0 in
      let race = same_race laws.settings s t (subst (λ (z : Numbers). AreSameRace z (numbers t)) (sym p.1.1) (subst (λ (z : Numbers). AreSameRace n z) (sym q.1.1) same)) in
      once_grounded laws.one_result (domain_of kind) (problem_of kind number) (RacesGenerated kind number s) (RacesGenerated kind number t) x y
      (λ task g. once_raced laws.invariants laws.unique Exists s t race.0 race.1 g.task (λ v. Unit {0}) (λ v. Unit {0}) (generated_report kind number s) (generated_report kind number t) (λ v. ap (λ (b : ℕ). generated_line kind number ++ summary_of b v) race.1) x y) p.1.2 q.1.2

  -- a certificate's text is answered in one way
  one_verification : (task : Parts) (bytes : List ℕ) (x y : Ending) → AnswersVerify task bytes x → AnswersVerify task bytes y → x ≡ y
  one_verification task bytes x y (unfit (at, u, e)) (unfit (k, v, d)) = e ∙ (ap (λ (n : ℕ). Refused Syntax Proof n) (laws.one_place bytes at k u v) ∙ sym d)
  one_verification task bytes x y (unfit (at, u, e)) (beyond h log is over) = absurd (laws.no_fault h log at is.within is.written (subst (λ (bs : List ℕ). IsUnfitAt bs at) is.spelled u))
  one_verification task bytes x y (unfit (at, u, e)) (spelled h log g is ready a) = absurd (laws.no_fault h log at is.within is.written (subst (λ (bs : List ℕ). IsUnfitAt bs at) is.spelled u))
  one_verification task bytes x y (beyond h log is over) (unfit (at, u, e)) = absurd (laws.no_fault h log at is.within is.written (subst (λ (bs : List ℕ). IsUnfitAt bs at) is.spelled u))
  one_verification task bytes x y (spelled h log g is ready a) (unfit (at, u, e)) = absurd (laws.no_fault h log at is.within is.written (subst (λ (bs : List ℕ). IsUnfitAt bs at) is.spelled u))
  one_verification task bytes x y (beyond h log is over) (beyond l logs too also) = one_over laws.one_result task x y over also
  one_verification task bytes x y (beyond h log is over) (spelled l logs g too ready a) = absurd (no_limit laws.one_result task over.0 over.1 g over.3 ready.grounded ready.fits)
  one_verification task bytes x y (spelled h log g is ready a) (beyond l logs too over) = absurd (no_limit laws.one_result task over.0 over.1 g over.3 ready.grounded ready.fits)
  one_verification task bytes x y (spelled h log g is ready a) (spelled l logs k too also b) =
      let same = laws.one_spelling l h logs log too.within is.within too.written is.written (sym too.spelled ∙ is.spelled) in
      let here = subst (λ (z : Grounded). AnswersProof l logs z y) (laws.one_result task k g also.grounded ready.grounded) b in
      let there = subst (λ (n : ℕ). AnswersProof n logs g y) same.0 here in
      one_verdict laws.invariants laws.unique h log g x y a (subst (λ (es : List Entry). AnswersProof h es g y) same.1 there)

  decided_same : (r q : Seen) → AreSameAlone r q → (files : List (List ℕ)) (x y : Ending) → Decides r files x → Decides q files y → x ≡ y
  decided_same r q (plans_same how d p e k n m is too race) files x y a b =
      of_two _ _ files (λ first second u v. one_decision how first second n m race x y u v) (subst (λ (s : Seen). Decides s files x) is a) (subst (λ (s : Seen). Decides s files y) too b)
  decided_same r q (generates_same kind number show n m is too race) files x y a b =
      one_generation kind number show n m race files x y (subst (λ (s : Seen). Decides s files x) is a) (subst (λ (s : Seen). Decides s files y) too b)
  decided_same r q (checks_same d p l e k j is too) files x y a b =
      of_three _ _ files (λ first second third u v. once_read first second (λ task. AnswersCheck task third) (λ task. AnswersCheck task third) x y (λ task. one_check task third x y) u v)
      (subst (λ (s : Seen). Decides s files x) is a) (subst (λ (s : Seen). Decides s files y) too b)
  decided_same r q (grounds_same d p e k is too) files x y a b =
      of_two _ _ files (λ first second u v. once_grounded laws.one_result first second AnswersGround AnswersGround x y (λ task g s t. s ∙ sym t) u v)
      (subst (λ (s : Seen). Decides s files x) is a) (subst (λ (s : Seen). Decides s files y) too b)
  decided_same r q (orders_same d p e k is too) files x y a b =
      of_two _ _ files (λ first second u v. once_grounded laws.one_result first second AnswersOrder AnswersOrder x y (λ task g. one_listing laws.invariants laws.unique task g x y) u v)
      (subst (λ (s : Seen). Decides s files x) is a) (subst (λ (s : Seen). Decides s files y) too b)
  decided_same r q (proves_same d p e k h b is too) files x y a c =
      of_two _ _ files (λ first second u v. once_grounded laws.one_result first second (AnswersProve h b) (AnswersProve h b) x y (λ task g. one_proof laws.invariants laws.unique h b task g x y) u v)
      (subst (λ (s : Seen). Decides s files x) is a) (subst (λ (s : Seen). Decides s files y) too c)
  decided_same r q (verifies_same d p c e k j is too) files x y a b =
      of_three _ _ files (λ first second third u v. once_read first second (λ task. AnswersVerify task third) (λ task. AnswersVerify task third) x y (λ task. one_verification task third x y) u v)
      (subst (λ (s : Seen). Decides s files x) is a) (subst (λ (s : Seen). Decides s files y) too b)

  -- the same files come to one ending
  one_alone : (r q : Seen) → AreSameAlone r q → (took elsewhere : List Heard) (old new before after files : List (List ℕ)) (x y : Ending) → length files ≡ length (files_of r) → AreOf files took → AreOf files elsewhere → HasRead x → HasRead y
      → ComesFor took old new r x → ComesFor elsewhere before after q y → x ≡ y
  one_alone r q same took elsewhere old new before after files x y count of other_of hx hy p p_other =
      let so = same_files r q same in
      one_cause r q files x y so.2 (decided_same r q same files x y) (cause_of r took old new files x of count hx p) (cause_of q elsewhere before after files y other_of (count ∙ sym so.3) hy p_other)

  -- ---- batches

  -- two files of a batch, and the same two alone
  one_pair : (old new before after : List (List ℕ)) (d p e q : List ℕ) (n m : Numbers) → AreSameRace n m → (first second : List ℕ) (heard other : Heard) → IsSo first heard.1.0 heard.1.1 → IsSo second other.1.0 other.1.1
      → (x y : Ending) → IsPartOf old new heard other (plans d p n) x → (elsewhere : List Heard) → AreOf (first ∷ second ∷ []) elsewhere → ComesFor elsewhere before after (plans e q m) y → HasRead y → x ≡ y
  one_pair old new before after d p e q n m same first second heard other is also x y part elsewhere of comes has =
      one_alone (plans d p n) (plans e q m) (plans_same Exists d p e q n m refl refl same) part.took elsewhere old new before after (first ∷ second ∷ []) x y refl
      (part_of first second heard other is also old new (plans d p n) x part) of part.has_read has part.comes comes
    where
      part_of : (first second : List ℕ) (heard other : Heard) → IsSo first heard.1.0 heard.1.1 → IsSo second other.1.0 other.1.1 → (old new : List (List ℕ)) (r : Seen) (x : Ending) (part : IsPartOf old new heard other r x) → AreOf (first ∷ second ∷ []) part.took
      part_of first second heard other is also old new r x part = of_front (first ∷ second ∷ []) part.took part.rest (subst (AreOf (first ∷ second ∷ [])) part.split (is, (also, tt)))

  module _ (old new before after : List (List ℕ)) (domain other_domain first : List ℕ) (n m : Numbers) (same : AreSameRace n m) (heard other : Heard) (is : IsSo first heard.1.0 heard.1.1) (also : IsSo first other.1.0 other.1.1) where
    one_by_one : (ps qs : List (List ℕ)) (os us : List Heard) (ts : List (List ℕ)) (xs ys : List Ending) → length ps ≡ length qs → AreOf ts os → AreOf ts us → ArePartsOf old new domain n heard ps os xs
        → ArePartsOf before after other_domain m other qs us ys → xs ≡ ys
    one_by_one [] [] [] [] ts [] [] count s u a b = refl
    one_by_one [] [] [] [] ts [] (y ∷ ys) count s u a b = absurd b
    one_by_one [] [] [] [] ts (x ∷ xs) ys count s u a b = absurd a
    one_by_one [] [] [] (v ∷ us) ts xs ys count s u a b = absurd b
    one_by_one [] [] (o ∷ os) us ts xs ys count s u a b = absurd a
    one_by_one [] (q ∷ qs) os us ts xs ys count s u a b = absurd (omega (arith, count))
    one_by_one (p ∷ ps) [] os us ts xs ys count s u a b = absurd (omega (arith, count))
    one_by_one (p ∷ ps) (q ∷ qs) [] us ts xs ys count s u a b = absurd a
    one_by_one (p ∷ ps) (q ∷ qs) (o ∷ os) [] ts xs ys count s u a b = absurd b
    one_by_one (p ∷ ps) (q ∷ qs) (o ∷ os) (v ∷ us) [] xs ys count s u a b = absurd s
    one_by_one (p ∷ ps) (q ∷ qs) (o ∷ os) (v ∷ us) (t ∷ ts) [] ys count s u a b = absurd a
    one_by_one (p ∷ ps) (q ∷ qs) (o ∷ os) (v ∷ us) (t ∷ ts) (x ∷ xs) [] count s u a b = absurd b
    one_by_one (p ∷ ps) (q ∷ qs) (o ∷ os) (v ∷ us) (t ∷ ts) (x ∷ xs) (y ∷ ys) count s u a b =
        let there = b.0 in
        ap₂ (λ (e : Ending) (es : List Ending). e ∷ es)
        (one_pair old new before after domain p other_domain q n m same first t heard o is s.0 x y a.0 there.took
        (of_front (first ∷ t ∷ []) there.took there.rest (subst (AreOf (first ∷ t ∷ [])) there.split (also, (u.0, tt)))) there.comes there.has_read)
        (one_by_one ps qs os us ts xs ys (omega (arith, count)) s.1 u.1 a.1 b.1)

  -- batches of the same files
  one_batch : (took elsewhere : List Heard) (old new before after files : List (List ℕ)) (d e : List ℕ) (ps qs : List (List ℕ)) (n m : Numbers) → AreSameRace n m → length ps ≡ length qs → (xs ys : List Ending) → AreOf files took → AreOf files elsewhere
      → IsBatchOf took old new d n ps xs → IsBatchOf elsewhere before after e m qs ys → xs ≡ ys
  one_batch took elsewhere old new before after files d e ps qs n m same count xs ys of other_of mine other = step files (subst (AreOf files) mine.all of) (subst (AreOf files) other.all other_of)
    where
      step : (files : List (List ℕ)) → AreOf files (mine.first ∷ mine.others) → AreOf files (other.first ∷ other.others) → xs ≡ ys
      step [] of other_of = absurd of
      step (first ∷ texts) of other_of =
          one_by_one old new before after d e first n m same mine.first other.first of.0 other_of.0 ps qs mine.others other.others texts xs ys count of.1 other_of.1 mine.are other.are

  pub one_ending : OneEnding
  one_ending took elsewhere old new before after words others x y ask p q hx hy = step ask.same
    where
      step : AreSame ask.request ask.other → x ≡ y
      step (alone same) =
          let so = same_files ask.request ask.other same in
          one_alone ask.request ask.other same took elsewhere old new before after ask.files x y ask.count ask.heard ask.other_heard hx hy
          (asked_comes took old new words ask.request so.0 ask.asked x p) (asked_comes elsewhere before after others ask.other so.1 ask.others_asked y q)
      step (batches_same d e ps qs n m turns also is too count race) =
          let mine = asked_parts took old new words d ps n turns (subst (λ (r : Seen). requested words ≡ Some r) is ask.asked) x hx p in
          let other = asked_parts elsewhere before after others e qs m also (subst (λ (r : Seen). requested others ≡ Some r) too ask.others_asked) y hy q in
          let parts : mine.0 ≡ other.0 = one_batch took elsewhere old new before after ask.files d e ps qs n m race count mine.0 other.0 ask.heard ask.other_heard mine.1 other.1 in
          mine.2 ∙ (ap batch_of parts ∙ sym other.2)

  -- what stands at a place of a batch's files stands at that place of its parts
  part_there : (old new : List (List ℕ)) (domain : List ℕ) (n : Numbers) (heard : Heard) (place : ℕ) (ps : List (List ℕ)) (os : List Heard) (ts : List (List ℕ)) (xs : List Ending) (t : List ℕ) → ArePartsOf old new domain n heard ps os xs → AreOf ts os → length ts ≡ length ps
      → slice_get ts place ≡ Some t → (p : List ℕ) × (o : Heard) × (x : Ending) × (slice_get xs place ≡ Some x) × IsPartOf old new heard o (plans domain p n) x × IsSo t o.1.0 o.1.1
  part_there old new domain n heard place [] os [] xs t are of count at = absurd (let never : None ≡ Some t = at in cc)
  part_there old new domain n heard place [] os (u ∷ ts) xs t are of count at = absurd (omega (arith, count))
  part_there old new domain n heard place (p ∷ ps) os [] xs t are of count at = absurd (omega (arith, count))
  part_there old new domain n heard place (p ∷ ps) [] (u ∷ ts) xs t are of count at = absurd are
  part_there old new domain n heard place (p ∷ ps) (o ∷ os) (u ∷ ts) [] t are of count at = absurd are
  part_there old new domain n heard zero (p ∷ ps) (o ∷ os) (u ∷ ts) (x ∷ xs) t are of count at =
      (p, o, x, refl, are.0, subst (λ (bytes : List ℕ). IsSo bytes o.1.0 o.1.1) (let same : u ≡ t = cc in same) of.0)
  part_there old new domain n heard (suc place) (p ∷ ps) (o ∷ os) (u ∷ ts) (x ∷ xs) t are of count at = part_there old new domain n heard place ps os ts xs t are.1 of.1 (omega (arith, count)) at

  -- of the parts of a batch the one at a place is the ending of `plan` on its problem
  pub part_at : (took elsewhere : List Heard) (old new before after words others : List (List ℕ)) (domain : List ℕ) (problems : List (List ℕ)) (n : Numbers) (turns : Turns) (parts : List Ending)
      → requested words ≡ Some (batches domain problems n turns) → IsBatchOf took old new domain n problems parts → (place : ℕ) (y : Ending) → AskForOnePart took elsewhere words place others
      → Comes elsewhere before after others y → HasRead y → slice_get parts place ≡ Some y
  part_at took elsewhere old new before after words others domain problems n turns parts asked batch place y ask q hy =
      let same : batches domain problems n turns ≡ batches ask.domain ask.problems ask.numbers ask.turns = one_request words (batches domain problems n turns) (batches ask.domain ask.problems ask.numbers ask.turns) asked ask.asked in
      let mine = same_parts took old new domain ask.domain problems ask.problems n ask.numbers turns ask.turns parts same batch in
      let of = subst (AreOf (ask.first ∷ ask.texts)) mine.all ask.heard in
      let here = part_there old new ask.domain ask.numbers mine.first place ask.problems mine.others ask.texts parts ask.second mine.are of.1 ask.count ask.at_place in
      let one : here.2 ≡ y = one_pair old new before after ask.domain here.0 ask.other_domain ask.other_problem ask.numbers ask.other_numbers ask.same ask.first ask.second mine.first here.1 of.0 here.5 here.2 y here.4 elsewhere ask.other_heard
      (asked_comes elsewhere before after others (plans ask.other_domain ask.other_problem ask.other_numbers) tt ask.others_asked y q) hy in
      here.3 ∙ ap (λ (e : Ending). Some e) one

pub has_read : (end : Ending) → (status_of end ≡ 5 → ⊥) → HasRead end
has_read (ReadFault file) off = off refl
has_read end off = tt
