-- What a race that ended on a task means for the task and for its report.
use Rattle.std.proofs.Common.{◌≡◌, ◌<◌, ℕ, zero, suc, ◌+◌, ◌^◌, Bool, List, [], ◌∷◌, ◌++◌, map, length, get_or, codes, refl, sym, ap, ap₂, subst, ◌∙◌, arith}
use Rattle.std.specs.Prelude.{Contains, decimal, slice_index_or}
use Rattle.std.specs.List.{AllByRecursion}
use Rattle.std.proofs.lemmas.List.Elements.{All-contains, All-map, All-from_recursion, All-contains_itself, Contains-append_left, Contains-append_right}
use Rattle.std.proofs.lemmas.Fmt.{decimal_is_IsNumeral}
use Rattle.report_lines.specs.Lines.{lines_of}
use Rattle.report_lines.specs.Horizons.{Entry, entry_line, report}
use Rattle.clause_base.specs.Derivation.{IsRefutation}
use Rattle.clause_base.specs.Formula.{IsModel, assignment_of}
use Rattle.cdcl_defs.specs.State.{State}
use Rattle.gt_core.specs.Published.{order_of}
use Rattle.horizon_rates.specs.declared.settings.Settings.{Settings}
use Rattle.pd_model.specs.Plan.{IsPlan}
use Rattle.pd_model.specs.declared.calls.Call.{Call}
use Rattle.pd_model.specs.declared.parts.Parts.{Parts}
use Rattle.grounding_defs.specs.Grounded.{Grounded}
use Rattle.grounding_defs.specs.Laws.{AreNumbers}
use Rattle.step_laws.specs.Form.{OrderedTask, AreSets, steps_at}
use Rattle.horizon_run.specs.Run.{truths_of}
use Rattle.race_outcome.specs.declared.line.LineEnd.{LineEnd}
use Rattle.race_outcome.specs.declared.line.LineEnd.TheVariants as ends
use Rattle.race_outcome.specs.declared.line.Line.{Line}
use Rattle.race_outcome.specs.declared.end.RaceEnd.{RaceEnd}
use Rattle.race_outcome.specs.declared.end.RaceEnd.TheVariants as races
use Rattle.race_outcome.specs.Ends.{Word, WordRefuted, WordDropped, WordOpen, WordPlan, LineView, EndView, Exhausted, Unfinished, word_of, line_view, end_view, lines_in, lines_of as lines_of_end, conflicts_in}
use Rattle.race.specs.Input.{RaceInput}
use Rattle.race.proofs.published.Exhausted.{last_is_refuted}
use Rattle.race.specs.Lines.{IsLine, IsMarked, WhereRefuted, state_of_line, standing_of as standing_at}
use Rattle.step_plans.specs.Plans.{AreListed, actions_in}
use Rattle.plan_report.specs.Report.{word_text, entry_of, plan_line, exhausted_line, conflicts_line, last_lines, report_of}
use Rattle.plan_report.specs.Laws.{IsSmall, IsSmallLine, HasCalls, Tells}
use Rattle.commands.specs.Known.{IsOrdered, form_of, choice_at, formula_at}
use Rattle.plan_top.specs.Laws.{Laws}
use Rattle.plan_tasks.proofs.published.Claims as low
use Rattle.plan_tasks.proofs.published.TellingPlans as runs
use Rattle.plan_tasks.proofs.published.Claims.{as_barred}
use Rattle.requests.specs.Seen.{numbers}
use Rattle.requests.specs.declared.request.Stepping.{Stepping}
use Rattle.commands.specs.Stepping.{places_by, is_plan_by}
use Rattle.commands.specs.Tasks.{IsReady}
use Rattle.commands.specs.Raced.{input_of, ComesTo}
use Rattle.plan_top.specs.Headline.{OfGrounded, PlanRuns, HasAtLeast, HasPlanOf, TellsExhausted, NoStepPlan, NoPlan, IsSo, LineIsSo, standing_of, conflicts_of, line_words, SpendsAll}

-- ---- lines and the words in them

-- what holds of each element holds of one that the list contains
at_one : {X : Type 0} (P : X → Type 0) (xs : List X) (x : X) → AllByRecursion P xs → Contains xs x → P x
at_one P xs x all one = All-contains P xs x (All-from_recursion P xs all) one

-- what a list contains, its image contains
contains_map : {X Y : Type 0} (f : X → Y) (xs : List X) (x : X) → Contains xs x → Contains (map f xs) (f x)
contains_map f [] x (place, within, is) = absurd (omega (arith, within))
contains_map f (y ∷ ys) x (zero, within, is) = (0, omega arith, ap f is)
contains_map f (y ∷ ys) x (suc place, within, is) = let rest = contains_map f ys x (place, omega (arith, within), is) in (suc rest.0, omega (arith, rest.1), rest.2)

-- a line of which this is the view
abbrev Viewed : List Line → LineView → Type 0
Viewed lines view = (line : Line) × Contains lines line × (line_view line ≡ view)

viewed : (lines : List Line) (view : LineView) → Contains (map line_view lines) view → Viewed lines view
viewed lines view one =
    All-contains (Viewed lines) (map line_view lines) view (All-map (Viewed lines) line_view lines (λ i d lt. (slice_index_or lines i d, All-contains_itself lines i d lt, refl))) one

lines_viewed : (race : RaceEnd) → lines_in (end_view race) ≡ map line_view (lines_of_end race)
lines_viewed (races.Plan horizon steps lines) = refl
lines_viewed (races.Exhausted horizon lines) = refl
lines_viewed (races.Unfinished lines) = refl

-- a line that is told as refuted has a fact of refuted horizons
where_refuted : (end : LineEnd) (P : Type 0) → word_text (word_of end) ≡ codes "refuted" → WhereRefuted end P → P
where_refuted (ends.Refuted stamp) P told h = h
where_refuted ends.Dropped P told h = absurd (let never : 100 ≡ 114 = ap (λ (xs : List ℕ). get_or xs 0 0) told in omega (arith, never))
where_refuted ends.Going P told h = absurd (let never : 111 ≡ 114 = ap (λ (xs : List ℕ). get_or xs 0 0) told in omega (arith, never))
where_refuted ends.Found P told h = absurd (let never : 112 ≡ 114 = ap (λ (xs : List ℕ). get_or xs 0 0) told in omega (arith, never))

standing_same : (end : LineEnd) → standing_at end ≡ standing_of (word_of end)
standing_same (ends.Refuted stamp) = refl
standing_same ends.Dropped = refl
standing_same ends.Going = refl
standing_same ends.Found = refl

derived_of : (input : RaceInput) (h : ℕ) (state : State) (end : LineEnd) → word_of end ≡ WordRefuted → IsMarked input h state end → IsRefutation (input.formula h).variables (input.formula h).clauses state.log
derived_of input h state (ends.Refuted stamp) is marked = marked.refutation
derived_of input h state ends.Dropped is marked = cc
derived_of input h state ends.Going is marked = cc
derived_of input h state ends.Found is marked = cc

-- the values of a horizon that is told as found are a model of its formula
found_model : (input : RaceInput) (h : ℕ) (state : State) (end : LineEnd) → word_text (word_of end) ≡ codes "plan" → IsMarked input h state end → IsModel (input.formula h) (truths_of (input.formula h) state)
found_model input h state (ends.Refuted stamp) told marked = absurd (let never : 114 ≡ 112 = ap (λ (xs : List ℕ). get_or xs 0 0) told in omega (arith, never))
found_model input h state ends.Dropped told marked = absurd (let never : 100 ≡ 112 = ap (λ (xs : List ℕ). get_or xs 0 0) told in omega (arith, never))
found_model input h state ends.Going told marked = absurd (let never : 111 ≡ 112 = ap (λ (xs : List ℕ). get_or xs 0 0) told in omega (arith, never))
found_model input h state ends.Found told marked = marked

line_so : (input : RaceInput) (line : Line) → IsLine input line → IsSo (input.choose line.horizon) (input.formula line.horizon) (word_text (word_of line.end)) line.conflicts
line_so input line is = record {
  word_is = word_of line.end;
  told = refl;
  exactly = is.conflicts;
  stands = is.standing ∙ standing_same line.end;
  derived = λ refuted. derived_of input line.horizon (state_of_line input line) line.end refuted is.marked;
}

-- ---- plans

-- the conflicts of entries are those of the lines
conflicts_same : (lines : List LineView) → conflicts_of (map entry_of lines) ≡ conflicts_in lines
conflicts_same [] = refl
conflicts_same (line ∷ lines) = ap (λ (n : ℕ). line.conflicts + n) (conflicts_same lines)

-- the word of a line is one of the four
words_in : (lines : List LineView) → AllByRecursion (λ e. Contains line_words e.word) (map entry_of lines)
words_in [] = tt
words_in (line ∷ lines) = (one line.word, words_in lines)
  where
    one : (word : Word) → Contains line_words (word_text word)
    one WordRefuted = (0, omega arith, refl)
    one WordDropped = (1, omega arith, refl)
    one WordOpen = (2, omega arith, refl)
    one WordPlan = (3, omega arith, refl)

-- what is known of a ground task, and its order
module _ (laws : Laws) (task : Parts) (g : Grounded) (ready : IsReady task g) (clauses : List (ℕ × ℕ)) (components : List (List ℕ)) (ordered : IsOrdered g.task clauses components) where
  pub of_grounded : (claim : Grounded → List (ℕ × ℕ) → List (List ℕ) → Type 0) → claim g clauses components → OfGrounded task claim
  of_grounded = low.of_grounded laws.of_tasks task g ready clauses components ordered

  -- ---- found horizons

  -- the values that are a model of the formula of a horizon stand for a plan of so many steps
  pub has_plan : (how : Stepping) (horizon : ℕ) (values : List Bool) → IsModel (formula_at (places_by how) (form_of g.task clauses components) horizon) values → HasPlanOf how horizon task
  has_plan how horizon values model =
      let form = form_of g.task clauses components in
      of_grounded (λ h clauses components. (steps : List (List ℕ)) × AreSets (is_plan_by how) h.task (order_of components) steps horizon)
      (steps_at form (places_by how g.task components) horizon (assignment_of values), runs.model_is_plan laws.of_plans task g ready clauses components ordered how horizon values model)

  -- ---- refuted horizons

  module _ (how : Stepping) (horizon : ℕ) (none : (steps : List (List ℕ)) → AreSets (is_plan_by how) g.task (order_of components) steps horizon → ⊥) where
    pub no_step_plan : NoStepPlan how horizon task
    no_step_plan = low.no_step_plan laws.of_tasks task g ready clauses components ordered how horizon none

    pub at_least : HasAtLeast how (horizon + 1) task
    at_least = low.at_least laws.of_tasks task g ready clauses components ordered how horizon none

    pub no_plan : NoPlan horizon task
    no_plan = low.no_plan laws.of_tasks task g ready clauses components ordered how horizon none

module _ (laws : Laws) (how : Stepping) (settings : Settings) (task : Parts) (g : Grounded) (ready : IsReady task g) where
  module _ (race : RaceEnd) (comes : ComesTo (places_by how) (is_plan_by how) g.task settings race) where
    abbrev form : OrderedTask
    form = form_of g.task comes.clauses comes.components

    -- no lists of actions are a plan of so many steps
    abbrev pub IsRefuted : ℕ → Type 0
    IsRefuted horizon = (steps : List (List ℕ)) → AreSets (is_plan_by how) g.task (order_of comes.components) steps horizon → ⊥

    -- a line that the end tells of a horizon
    told_line : (horizon : ℕ) (word : List ℕ) (conflicts : ℕ) → Tells (lines_in (end_view race)) horizon word conflicts
        → (line : Line) × Contains (lines_of_end race) line × (line.horizon ≡ horizon) × (word_text (word_of line.end) ≡ word) × (line.conflicts ≡ conflicts)
    told_line horizon word conflicts tells =
        let v = viewed (lines_of_end race) tells.0 (subst (λ (lines : List LineView). Contains lines tells.0) (lines_viewed race) tells.1) in
        (v.0, v.1, ap (λ (x : LineView). x.horizon) v.2 ∙ tells.2, ap (λ (x : LineView). word_text x.word) v.2 ∙ tells.3, ap (λ (x : LineView). x.conflicts) v.2 ∙ tells.4)

    pub refuted_line : (horizon conflicts : ℕ) → Tells (lines_in (end_view race)) horizon (codes "refuted") conflicts → IsRefuted horizon
    refuted_line horizon conflicts tells =
        let t = told_line horizon (codes "refuted") conflicts tells in
        let at = at_one (λ (l : Line). WhereRefuted l.end (IsRefuted l.horizon)) (lines_of_end race) t.0 comes.refuted t.1 in
        subst IsRefuted t.2 (where_refuted t.0.end (IsRefuted t.0.horizon) t.3 at)

    pub found_line : (horizon conflicts : ℕ) → Tells (lines_in (end_view race)) horizon (codes "plan") conflicts → HasPlanOf how horizon task
    found_line horizon conflicts tells =
        let t = told_line horizon (codes "plan") conflicts tells in
        let input = input_of (places_by how) form settings in
        let line = at_one (IsLine input) (lines_of_end race) t.0 comes.lines t.1 in
        let state = state_of_line input t.0 in
        subst (λ (h : ℕ). HasPlanOf how h task) t.2
        (has_plan laws task g ready comes.clauses comes.components comes.ordered how t.0.horizon (truths_of (input.formula t.0.horizon) state) (found_model input t.0.horizon state t.0.end t.3 line.marked))

    pub line_is_so : (horizon : ℕ) (word : List ℕ) (conflicts : ℕ) → Tells (lines_in (end_view race)) horizon word conflicts → LineIsSo how horizon word conflicts task
    line_is_so horizon word conflicts tells =
        let t = told_line horizon word conflicts tells in
        let input = input_of (places_by how) form settings in
        let choose = choice_at (places_by how) form in
        let formula = formula_at (places_by how) form in
        let so = line_so input t.0 (at_one (IsLine input) (lines_of_end race) t.0 comes.lines t.1) in
        let one = subst (λ (h : ℕ). IsSo (choose h) (formula h) (word_text (word_of t.0.end)) t.0.conflicts) t.2 so in
        let two = subst (λ (w : List ℕ). IsSo (choose horizon) (formula horizon) w t.0.conflicts) t.3 one in
        of_grounded laws task g ready comes.clauses comes.components comes.ordered (λ h clauses components. IsSo (choice_at (places_by how) (form_of h.task clauses components) horizon) (formula_at (places_by how) (form_of h.task clauses components) horizon) word conflicts)
        (subst (λ (k : ℕ). IsSo (choose horizon) (formula horizon) word k) t.4 two)

  -- ---- plans

  -- a race that ended with a plan
  module _ (horizon : ℕ) (steps : List (List ℕ)) (lines : List Line) (comes : ComesTo (places_by how) (is_plan_by how) g.task settings (races.Plan horizon steps lines)) where
    abbrev planned : EndView
    planned = end_view (races.Plan horizon steps lines)

    is_listed : AreListed (order_of comes.components) steps
    is_listed =
        let s = comes.steps in
        subst (AreListed (order_of comes.components)) (sym s.2) (laws.listed (form_of g.task comes.clauses comes.components) (places_by how g.task comes.components) horizon (assignment_of s.0))

    its_calls : (calls : List Call) × AreNumbers g calls (actions_in steps) × IsPlan task calls
    its_calls = runs.its_calls laws.of_plans task g ready comes.clauses comes.components comes.ordered how horizon steps comes.plan is_listed

    pub has_calls : HasCalls task g planned
    has_calls = let c = its_calls in (c.0, c.1, runs.calls_fit task task.init c.0 c.2)

    pub plan_runs : IsSmall settings.budget planned → PlanRuns how (report_of task g settings.budget planned) task
    plan_runs small =
        let c = its_calls in
        let text : List ℕ = report_of task g settings.budget planned in
        let read = laws.plans task g settings.budget horizon steps (map line_view lines) c.0 ready.well small c.1 (runs.calls_fit task task.init c.0 c.2) in
        let back = laws.lines task g settings.budget planned ready.well small has_calls in
        let entries : List (List ℕ) = map entry_line (map entry_of (map line_view lines)) in
        let last : Contains (last_lines task g settings.budget planned) (plan_line horizon (length (actions_in steps))) = (1, omega arith, refl) in
        let line : Contains (lines_of text) (plan_line horizon (length (actions_in steps))) =
        subst (λ (ls : List (List ℕ)). Contains ls (plan_line horizon (length (actions_in steps)))) (sym back) (Contains-append_right entries (last_lines task g settings.budget planned) _ last) in
        let told = laws.steps task g settings.budget horizon steps (map line_view lines) ready.well small has_calls in
        (horizon, runs.runs_in laws.of_plans task g ready comes.clauses comes.components comes.ordered how horizon steps comes.plan is_listed text c.0 c.1 c.2 read line told)

  -- ---- the last horizon

  pub tells_exhausted : (horizon : ℕ) (lines : List Line) → ComesTo (places_by how) (is_plan_by how) g.task settings (races.Exhausted horizon lines) → IsSmall settings.budget (end_view (races.Exhausted horizon lines))
      → TellsExhausted (report_of task g settings.budget (end_view (races.Exhausted horizon lines))) (numbers settings)
  tells_exhausted horizon lines comes small =
      let views = map line_view lines in
      let text : List ℕ = report_of task g settings.budget (Exhausted horizon views) in
      let last = last_is_refuted (input_of (places_by how) (form_of g.task comes.clauses comes.components) settings) horizon views comes.ended in
      let back = laws.lines task g settings.budget (Exhausted horizon views) ready.well small tt in
      let few : last.line.conflicts < 2 ^ 64 = (All-contains IsSmallLine views last.line small.lines last.told).1 in
      let entries : List (List ℕ) = map entry_line (map entry_of views) in
      let others = last_lines task g settings.budget (Exhausted horizon views) in
      let of_all : (line : List ℕ) → Contains (entries ++ others) line → Contains (lines_of text) line = λ line there. subst (λ (ls : List (List ℕ)). Contains ls line) (sym back) there in
      let entry : Entry = record { horizon = horizon; word = codes "refuted"; conflicts = last.line.conflicts } in
      let is : entry_of last.line ≡ entry = ap₂ (λ (h : ℕ) (w : Word). record { horizon = h; word = word_text w; conflicts = last.line.conflicts }) last.horizon_is last.refuted in
      let here : Contains entries (entry_line entry) = subst (λ (e : Entry). Contains entries (entry_line e)) is (contains_map entry_line (map entry_of views) (entry_of last.line) (contains_map entry_of views last.line last.told)) in
      record {
        horizon = horizon;
        conflicts = last.line.conflicts;
        told = of_all (exhausted_line horizon) (Contains-append_right entries others (exhausted_line horizon) (1, omega arith, refl));
        refuted = (decimal horizon, decimal last.line.conflicts, decimal_is_IsNumeral horizon small.end, decimal_is_IsNumeral last.line.conflicts few, of_all (entry_line entry) (Contains-append_left entries others (entry_line entry) here));
        listed_last = (settings, refl, last.listed_last);
      }

  -- ---- the budget

  pub spends_all : (lines : List Line) → ComesTo (places_by how) (is_plan_by how) g.task settings (races.Unfinished lines) → IsSmall settings.budget (end_view (races.Unfinished lines))
      → SpendsAll (report_of task g settings.budget (end_view (races.Unfinished lines))) settings.budget
  spends_all lines comes small =
      let back = laws.lines task g settings.budget (Unfinished (map line_view lines)) ready.well small tt in
      let sum : conflicts_in (map line_view lines) ≡ settings.budget = comes.sums in
      let entries : List Entry = map entry_of (map line_view lines) in
      record {
        entries = entries;
        words = words_in (map line_view lines);
        whole = ap (λ (n : ℕ). report entries (conflicts_line n settings.budget ∷ (codes "; unfinished" ∷ []))) sum;
        lines = back ∙ ap (λ (n : ℕ). map entry_line entries ++ (conflicts_line n settings.budget ∷ (codes "; unfinished" ∷ []))) sum;
        sum = conflicts_same (map line_view lines) ∙ sum;
      }
