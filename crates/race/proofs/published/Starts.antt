use Rattle.std.proofs.Common.{arith, ◌≡◌, ℕ, zero, suc, ◌+◌, ◌-◌, ◌≤◌, ◌<◌, ◌↔◌, ◌⊎◌, inl, inr, List, [], ◌∷◌, ◌++◌, Bool, true, false, map, length, nat_lt, if◌then◌else◌, Option, Some, None, IsNone, IfSome, refl, sym, ap, ◌∙◌, subst, length-append}
use Rattle.std.specs.List.{AllByRecursion}
use Rattle.std.proofs.lemmas.List.{map-append}
use Rattle.std.proofs.lemmas.Bool.Decides.{nat_tests}
use Rattle.clause_base.specs.Choice.{Known}
use Rattle.clause_base.specs.Formula.{Cnf}
use Rattle.step_encoding.specs.Limits.{planner_literals}
use Rattle.step_encoding.specs.Numbers.{literals_of}
use Rattle.horizon_rates.specs.Horizons.{listed, horizon_at}
use Rattle.horizon_rates.specs.Window.{WindowState}
use Rattle.horizon_rates.specs.Ledger.{Account}
use Rattle.horizon_rates.proofs.published.HorizonLaws.{up_to-Some}
use Rattle.cdcl_defs.specs.declared.standing.Standing.TheVariants.{Refuted}
use Rattle.horizon_run.specs.Run.{RunView, choice_in, moved_to, reached, IsNew, IsReached}
use Rattle.clause_base.specs.Derivation.{EndsEmpty}
use Rattle.clause_base.specs.declared.log.Entry.{Entry as LogEntry}
use Rattle.horizon_rates.specs.declared.rates.Rates.{Rates}
use Rattle.race.specs.Input.{RaceInput}
use Rattle.race.specs.Lines.{IsLine}
use Rattle.race.specs.Runs.{live_run_of, horizon_of, IsRunOf, IsLow, AreLow}
use Rattle.race.specs.Starts.{fitting, fill, filled, started, too_large}
use Rattle.race.specs.State.{RaceState, LiveRun, live_at, conflicts_used}
use Rattle.race.specs.Tied.{race_state, IsTied}
use Rattle.race_outcome.specs.Ends.{line_view, LineView, conflicts_in}
use Rattle.race.specs.declared.racing.Racing.{Racing}
use Rattle.race_outcome.specs.declared.line.Line.{Line}
use Rattle.horizon_rates.specs.Limits.{last_horizon}

pub all-push : {X : Type 0} (P : X → Type 0) (xs : List X) (x : X) → AllByRecursion P xs → P x → AllByRecursion P (xs ++ x ∷ [])
all-push P [] x a p = (p, tt)
all-push P (y ∷ xs) x a p = (a.0, all-push P xs x a.1 p)

used-push : (rs : List LiveRun) (r : LiveRun) → conflicts_used (rs ++ r ∷ []) ≡ conflicts_used rs + r.state.conflicts
used-push [] r = omega arith
used-push (x ∷ rs) r = let h = used-push rs r in omega (arith, h)

-- what the window is once it took a horizon
pub taken : (w w' : WindowState) (o : Option ℕ) (h : ℕ) → (IsNone o ↔ ((w.rates.width ≤ length w.live) ⊎ IsNone (listed w.rates w.next)))
    → IfSome o (λ x. listed w.rates w.next ≡ Some x) → IfSome o (λ x. w' ≡ record w { live = w.live ++ x ∷ []; next = w.next + 1 })
    → listed w.rates w.next ≡ Some h → length w.live < w.rates.width → w' ≡ record w { live = w.live ++ h ∷ []; next = w.next + 1 }
taken w w' (Some x) h none is took at narrow = let same : x ≡ h = cc in subst (λ (y : ℕ). w' ≡ record w { live = w.live ++ y ∷ []; next = w.next + 1 }) same took
taken w w' None h none is took at narrow = absurd (elim (none.0 refl) [ inl wide ↦ omega arith | inr nothing ↦ cc ])

-- a new run is one of the input
pub is_run : (input : RaceInput) (h : ℕ) (run : RunView) → input.choose h ≡ choice_in run → run.formula ≡ input.formula h → (input.formula h).name ≡ h
    → h ≤ last_horizon → literals_of (input.formula h) ≤ planner_literals → IsNew run → ((k : ℕ) → IsReached (choice_in run) run.formula k) → IsRunOf input run
is_run input h run chosen formula name low small new reached =
    let named : run.formula.name ≡ h = ap (λ (f : Cnf). f.name) formula ∙ name in
    record {
      chosen = rw named chosen;
      formula = ap (λ (n : ℕ). input.formula n) named ∙ sym formula;
      low = rw named low;
      small = rw formula small;
      moved = subst (λ (k : ℕ). run ≡ moved_to run k) (sym (ap (λ (r : RunView). r.granted) new)) new;
      reached = reached;
    }

no_last : (log : List LogEntry) → length log ≡ 0 → EndsEmpty log → ⊥
no_last [] e h = h
no_last (x ∷ log) e h = absurd (omega arith)

no_entry : (choose : Known → Option ℕ) (f : Cnf) → IsReached choose f 0 → (reached choose f 0).standing ≡ Refuted → ⊥
no_entry choose f r refuted = no_last (reached choose f 0).log (let w = r.within in let c = r.short_log in omega (arith, w, c)) (r.refuted refuted).ends_empty

pub new_low : (run : RunView) → IsNew run → IsReached (choice_in run) run.formula 0 → IsLow run
new_low run new r =
    let granted = ap (λ (x : RunView). x.granted) new in
    record { granted = omega (arith, granted); unrefuted = λ refuted. no_entry (choice_in run) run.formula r (sym (ap (λ (x : RunView). x.state.standing) new) ∙ refuted) }

step-some : (input : RaceInput) (race : RaceState) (n h : ℕ) → fitting input (listed input.rates race.next) ≡ Some h
    → fill input (suc n) race ≡ fill input n (started input h race)
step-some input race n h e = ap (λ (o : Option ℕ). elim o [ Some x ↦ fill input n (started input x race) | None ↦ race ]) e

step-none : (input : RaceInput) (race : RaceState) (n : ℕ) → fitting input (listed input.rates race.next) ≡ None → fill input (suc n) race ≡ race
step-none input race n e = ap (λ (o : Option ℕ). elim o [ Some x ↦ fill input n (started input x race) | None ↦ race ]) e

is_below : (b : Bool) (m n : ℕ) → nat_lt m n ≡ b → b ≡ true → m < n
is_below b m n e t = grind (arith, nat_tests)

fits-some : (b : Bool) (o : Option ℕ) (h : ℕ) → Some h ≡ (if b then o else None) → (b ≡ true) × (o ≡ Some h)
fits-some true o h e = (refl, sym e)
fits-some false o h e = cc

pub fill-on : (input : RaceInput) (race : RaceState) (len h : ℕ) → len ≡ length race.live
    → Some h ≡ (if nat_lt len input.rates.width then fitting input (listed input.rates race.next) else None)
    → filled input race ≡ filled input (started input h race)
unfolding filled
fill-on input race len h same at =
    let t = fits-some (nat_lt len input.rates.width) (fitting input (listed input.rates race.next)) h at in
    let narrow : len < input.rates.width = is_below (nat_lt len input.rates.width) len input.rates.width refl t.0 in
    let l = length-append race.live (live_at input h 0 ∷ []) in
    let m : input.rates.width - length race.live ≡ suc (input.rates.width - length (race.live ++ live_at input h 0 ∷ [])) = omega (arith, l) in
    ap (λ (k : ℕ). fill input k race) m ∙ step-some input race (input.rates.width - length (race.live ++ live_at input h 0 ∷ [])) h t.1

not-below : (m n : ℕ) → nat_lt m n ≡ false → n ≤ m
not-below m n e = grind (arith, nat_tests)

off : (input : RaceInput) (race : RaceState) (len m : ℕ) (b : Bool) → input.rates.width - len ≡ m → nat_lt len input.rates.width ≡ b
    → None ≡ (if b then fitting input (listed input.rates race.next) else None) → fill input m race ≡ race
off input race len zero b free below fits = refl
off input race len (suc m) true free below fits = step-none input race m (sym fits)
off input race len (suc m) false free below fits = let n = not-below len input.rates.width below in absurd (omega arith)

pub fill-off : (input : RaceInput) (race : RaceState) (len : ℕ) → len ≡ length race.live
    → None ≡ (if nat_lt len input.rates.width then fitting input (listed input.rates race.next) else None) → filled input race ≡ race
unfolding filled
fill-off input race len same at =
    ap (λ (n : ℕ). fill input (input.rates.width - n) race) (sym same) ∙ off input race len (input.rates.width - len) (nat_lt len input.rates.width) refl refl at

pub same-race : {live live' : List LiveRun} {next next' : ℕ} {closed closed' : List LineView} → live ≡ live' → next ≡ next' → closed ≡ closed'
    → ◌≡◌ {A = RaceState} (record { live = live; next = next; closed = closed }) (record { live = live'; next = next'; closed = closed' })
same-race a b c = rw (a, b, c) refl

-- what a start changes of a race in code
pub record IsStart (racing racing' : Racing) (run : RunView) (h : ℕ) : Type 0 where
  pub window : racing'.window ≡ record racing.window { live = racing.window.live ++ h ∷ []; next = racing.window.next + 1 }
  pub runs : racing'.runs.items ≡ racing.runs.items ++ run ∷ []
  pub last : racing'.last ≡ h
  pub ledger : racing'.ledger ≡ racing.ledger
  pub lines : racing'.lines.items ≡ racing.lines.items

-- the parts still fit together once one more horizon was started
pub tied-start : (input : RaceInput) (racing racing' : Racing) (run : RunView) (h : ℕ) → IsTied input racing → IsStart racing racing' run h
    → run.formula.name ≡ h → IsRunOf input run → run.granted ≡ 0 → listed racing.window.rates racing.window.next ≡ Some h → IsTied input racing'
tied-start input racing racing' run h t s name is granted at =
    let rates : racing'.window.rates ≡ input.rates = ap (λ (x : WindowState). x.rates) s.window ∙ t.rates in
    let next : racing'.window.next ≡ racing.window.next + 1 = ap (λ (x : WindowState). x.next) s.window in
    let none : run.state.conflicts ≡ 0 = let m = ap (λ (r : RunView). r.state.conflicts) is.moved in let r = (is.reached run.granted).within in omega (arith, m, r, granted) in
    let used : conflicts_used (map live_run_of racing'.runs.items) ≡ conflicts_used (map live_run_of racing.runs.items) =
    ap (λ (rs : List RunView). conflicts_used (map live_run_of rs)) s.runs
    ∙ (ap conflicts_used (map-append live_run_of racing.runs.items (run ∷ []))
    ∙ (used-push (map live_run_of racing.runs.items) (live_run_of run) ∙ omega (arith, none))) in
    let closed = ap (λ (ls : List Line). conflicts_in (map line_view ls)) s.lines in
    let spent = ap (λ (a : Account). a.spent) s.ledger in
    let budget = ap (λ (a : Account). a.budget) s.ledger in
    let aside = ap (λ (a : Account). a.set_aside) s.ledger in
    record {
      rates = rates;
      live = ap (λ (x : WindowState). x.live) s.window ∙ (ap (λ (xs : List ℕ). xs ++ h ∷ []) t.live ∙ (ap (λ (n : ℕ). map horizon_of racing.runs.items ++ n ∷ []) (sym name) ∙ (sym (map-append horizon_of racing.runs.items (run ∷ [])) ∙ ap (map horizon_of) (sym s.runs))));
      last =
          let e : horizon_at racing.window.rates racing.window.next ≡ h = (up_to-Some racing.window.rates.max (horizon_at racing.window.rates racing.window.next) h at).0 in
          let n : racing'.window.next - 1 ≡ racing.window.next = omega (arith, next) in
          s.last ∙ (sym e ∙ (ap (λ (rs : Rates). horizon_at rs racing.window.next) t.rates ∙ ap (horizon_at input.rates) (sym n)));
      budget = budget ∙ t.budget;
      aside = aside ∙ t.aside;
      spent = omega (arith, spent, t.spent, used, closed);
      within = omega (arith, spent, t.within);
      small = t.small;
      runs = subst (AllByRecursion (IsRunOf input)) (sym s.runs) (all-push (IsRunOf input) racing.runs.items run t.runs is);
      lines = subst (AllByRecursion (IsLine input)) (sym s.lines) t.lines;
    }

pub low-start : (runs runs' : List RunView) (run : RunView) → runs' ≡ runs ++ run ∷ [] → AreLow runs → IsLow run → AreLow runs'
low-start runs runs' run pushed low one = subst AreLow (sym pushed) (all-push IsLow runs run low one)

-- the race that started one more horizon
pub race-start : (input : RaceInput) (racing racing' : Racing) (run : RunView) (h : ℕ) → IsStart racing racing' run h → input.choose h ≡ choice_in run
    → run.formula ≡ input.formula h → run.formula.name ≡ h → IsNew run → race_state racing' ≡ started input h (race_state racing)
race-start input racing racing' run h s chosen formula named new =
    let next : racing'.window.next ≡ racing.window.next + 1 = ap (λ (x : WindowState). x.next) s.window in
    let closed = ap (map line_view) s.lines in
    let begun : live_run_of (moved_to run 0) ≡ live_at input h 0 =
    λ i. record { horizon = named i; target = 0; state = reached (sym chosen i) (formula i) 0 } in
    let runner : live_run_of run ≡ live_at input h 0 = ap live_run_of new ∙ begun in
    let live : map live_run_of racing'.runs.items ≡ map live_run_of racing.runs.items ++ live_at input h 0 ∷ [] =
    ap (map live_run_of) s.runs ∙ (map-append live_run_of racing.runs.items (run ∷ []) ∙ ap (λ (r : LiveRun). map live_run_of racing.runs.items ++ r ∷ []) runner) in
    same-race live next closed

fill-grows-by : (input : RaceInput) (n : ℕ) (race : RaceState) (o : Option ℕ) → fitting input (listed input.rates race.next) ≡ o
    → ((x : ℕ) → length (started input x race).live ≤ length (fill input n (started input x race)).live)
    → length race.live ≤ length (fill input (suc n) race).live
fill-grows-by input n race (Some x) e grows =
    let more = grows x in
    let one = length-append race.live (live_at input x 0 ∷ []) in
    subst (λ (r : RaceState). length race.live ≤ length r.live) (sym (step-some input race n x e)) (omega (arith, more, one))
fill-grows-by input n race None e grows = subst (λ (r : RaceState). length race.live ≤ length r.live) (sym (step-none input race n e)) (omega arith)

-- to fill the free places takes no horizon away
fill-grows : (input : RaceInput) (n : ℕ) (race : RaceState) → length race.live ≤ length (fill input n race).live
fill-grows input zero race = omega arith
fill-grows input (suc n) race = fill-grows-by input n race (fitting input (listed input.rates race.next)) refl (λ x. fill-grows input n (started input x race))

is_large : (input : RaceInput) (o : Option ℕ) (h : ℕ) → o ≡ Some h → fitting input o ≡ None → planner_literals < literals_of (input.formula h)
is_large input (Some x) h e none = let same : x ≡ h = cc in subst (λ (y : ℕ). planner_literals < literals_of (input.formula y)) same (grind (arith, nat_tests, none))
is_large input None h e none = cc

-- what too_large finds: no horizon is live, and h is listed next
pub record IsStopped (input : RaceInput) (race : RaceState) (h : ℕ) : Type 0 where
  pub empty : length race.live ≡ 0
  pub next : listed input.rates race.next ≡ Some h

stopped : (input : RaceInput) (live : List LiveRun) (next : ℕ) (closed : List LineView) (h : ℕ)
    → too_large input (record { live = live; next = next; closed = closed }) ≡ Some h → IsStopped input (record { live = live; next = next; closed = closed }) h
stopped input [] next closed h e = record { empty = refl; next = e }
stopped input (r ∷ rs) next closed h e = cc

large-next : (input : RaceInput) (race : RaceState) (h n : ℕ) (o : Option ℕ) → fitting input (listed input.rates race.next) ≡ o
    → IsStopped input (fill input (suc n) race) h → planner_literals < literals_of (input.formula h)
large-next input race h n (Some x) e s =
    let there : IsStopped input (fill input n (started input x race)) h = subst (λ (r : RaceState). IsStopped input r h) (step-some input race n x e) s in
    let more = fill-grows input n (started input x race) in
    let one = length-append race.live (live_at input x 0 ∷ []) in
    absurd (omega (arith, more, one, there.empty))
large-next input race h n None e s =
    let here : IsStopped input race h = subst (λ (r : RaceState). IsStopped input r h) (step-none input race n e) s in
    is_large input (listed input.rates race.next) h here.next e

large-at : (input : RaceInput) (race : RaceState) (h n : ℕ) → input.rates.width - length race.live ≡ n → IsStopped input (fill input n race) h
    → planner_literals < literals_of (input.formula h)
large-at input race h zero free s = let wide = input.rates.width_in_range.0 in absurd (omega (arith, free, s.empty, wide))
large-at input race h (suc n) free s = large-next input race h n (fitting input (listed input.rates race.next)) refl s

-- a horizon that could not be started has a formula that is too large
pub large : (input : RaceInput) (race : RaceState) (h : ℕ) → too_large input (filled input race) ≡ Some h → planner_literals < literals_of (input.formula h)
unfolding filled
large input race h e =
    let end = fill input (input.rates.width - length race.live) race in
    large-at input race h (input.rates.width - length race.live) refl (stopped input end.live end.next end.closed h e)
