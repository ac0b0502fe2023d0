use Rattle.std.proofs.Common.{arith, ◌≡◌, ℕ, zero, suc, ◌+◌, ◌-◌, ◌≤◌, ◌<◌, ◌==◌, min, List, [], ◌∷◌, ◌++◌, not, is_some, if◌then◌else◌, Bool, true, false, map, length, Option, Some, None, inl, inr, refl, sym, ap, ◌∙◌, subst}
use Rattle.std.specs.List.{AllByRecursion}
use Rattle.std.proofs.lemmas.Bool.{cases_lt}
use Rattle.cdcl_defs.specs.State.{State}
use Rattle.cdcl_defs.specs.declared.standing.Standing.{Standing}
use Rattle.cdcl_defs.specs.declared.standing.Standing.TheVariants.{Going, Found, Refuted}
use Rattle.horizon_rates.specs.declared.rates.Algorithm.{Algorithm}
use Rattle.horizon_rates.specs.declared.rates.Algorithm.TheVariants.{A, B, C}
use Rattle.horizon_rates.specs.declared.rates.Rates.{Rates}
use Rattle.horizon_rates.specs.Quotas.{quota_at, quota_by}
use Rattle.horizon_rates.specs.Ledger.{left_of}
use Rattle.horizon_run.specs.Run.{RunView, choice_in, moved_to, reached, IsMoved, IsReached}
use Rattle.race.specs.Clears.{cleared, passed, passed_line, staying, any_refuted}
use Rattle.race.specs.Found.{first_found, is_found}
use Rattle.race.specs.Grants.{grants, advanced}
use Rattle.race.specs.Input.{RaceInput}
use Rattle.race.specs.Race.{On, judged, settled, is_exhausted}
use Rattle.race.specs.Runs.{live_run_of, conflicts_of, total, moved_all, IsRunOf, IsLow, AreLow}
use Rattle.race.specs.Starts.{too_large}
use Rattle.race.specs.State.{RaceState, LiveRun, conflicts_used, spent}
use Rattle.race.specs.Tied.{race_state, IsTied, Stands, SpendsMore}
use Rattle.race_outcome.specs.Ends.{LineView, conflicts_in}
use Rattle.race.specs.declared.racing.Racing.{Racing}
use Rattle.race.specs.declared.racing.Step.{Step}
use Rattle.race.specs.declared.racing.Step.TheVariants.{On as OnStep, End as EndStep}
use Rattle.horizon_rates.specs.Horizons.{listed}
use Rattle.race.proofs.Grants.{nil}
use Rattle.race.proofs.published.Advances.{used-runs}
use Rattle.race.proofs.Clears.{clear-off}
use Rattle.race.proofs.published.Ends.{judged-plan, judged-none, settled-exhausted, settled-else, equal-true}

-- a live run that is granted more handles a conflict, unless it is found
one-more : (run : RunView) (g : ℕ) (standing : Standing) → IsMoved run → ((k : ℕ) → IsReached (choice_in run) run.formula k) → IsLow run → 1 ≤ g
    → (moved_to run (run.granted + g)).state.standing ≡ standing → is_found standing ≡ false
    → run.state.conflicts < (moved_to run (run.granted + g)).state.conflicts
one-more run g Going m r low l e f =
    let full = (r (run.granted + g)).used_up e in
    let within = (r run.granted).within in
    let same = ap (λ (x : RunView). x.state.conflicts) m in
    omega (arith, full, within, same)
one-more run g Found m r low l e f = cc
one-more run g Refuted m r low l e f =
    let now = moved_to run run.granted in
    let more = moved_to run (run.granted + g) in
    elim (cases_lt run.state.conflicts more.state.conflicts) [
      | inl less ↦ less
      | inr past ↦ absurd (
          let same : run.state ≡ now.state = ap (λ (x : RunView). x.state) m in
          let count = ap (λ (x : State). x.conflicts) same in
          let rises = (r run.granted).rises g in
          let equal : now.state.conflicts ≡ more.state.conflicts = omega (arith, past, count, rises) in
          let state : now.state ≡ more.state =
          sym (r run.granted).again ∙ (ap (reached (choice_in run) run.formula) equal ∙ (r (run.granted + g)).again) in
          low.unrefuted (ap (λ (x : State). x.standing) (same ∙ state) ∙ e))
    ]

-- the conflicts of runs do not fall, and no more are handled than were granted
pub by_grants : (input : RaceInput) (rs : List RunView) (gs : List ℕ) → AllByRecursion (IsRunOf input) rs
    → (conflicts_of rs ≤ conflicts_of (moved_all rs gs)) × (conflicts_of (moved_all rs gs) ≤ conflicts_of rs + total gs)
by_grants input [] gs a = (omega arith, omega arith)
by_grants input (r ∷ rs) [] a = (omega arith, omega arith)
by_grants input (r ∷ rs) (g ∷ gs) a =
    let h = by_grants input rs gs a.1 in
    let low = h.0 in
    let high = h.1 in
    let same = ap (λ (x : RunView). x.state.conflicts) a.0.moved in
    let rises = (a.0.reached r.granted).rises g in
    let adds = (a.0.reached r.granted).adds g in
    (omega (arith, low, same, rises), omega (arith, high, same, adds))

quota-first : (algorithm : Algorithm) (quota percent : ℕ) → quota_by algorithm quota percent 0 ≡ quota
quota-first A quota percent = refl
quota-first B quota percent = refl
quota-first C quota percent = refl

not-found : (b : Bool) (r : LiveRun) (o : Option LiveRun) → (if b then Some r else o) ≡ None → b ≡ false
not-found true r o e = cc
not-found false r o e = refl

first-more : (input : RaceInput) (rates : Rates) (rs : List RunView) (left n : ℕ) → AllByRecursion (IsRunOf input) rs → AreLow rs → 1 ≤ left
    → 0 < length rs → n ≡ length rs → first_found (map live_run_of (moved_all rs (grants rates 0 left n))) ≡ None
    → conflicts_of rs < conflicts_of (moved_all rs (grants rates 0 left n))
first-more input rates [] left n a low l some same none = absurd (omega arith)
first-more input rates (r ∷ rs) left zero a low l some same none = absurd (omega arith)
first-more input rates (r ∷ rs) left (suc n) a low l some same none =
    let g = min (quota_at rates 0) left in
    let first : quota_at rates 0 ≡ rates.quota = quota-first rates.algorithm rates.quota rates.percent in
    let least : 1 ≤ rates.quota = rates.quota_in_range.0 in
    let one : 1 ≤ g = omega (arith, first, least, l) in
    let more = moved_to r (r.granted + g) in
    let unfound = not-found (is_found more.state.standing) (live_run_of more) (first_found (map live_run_of (moved_all rs (grants rates 1 (left - g) n)))) none in
    let here = one-more r g more.state.standing a.0.moved a.0.reached low.0 one refl unfound in
    let rest = (by_grants input rs (grants rates 1 (left - g) n) a.1).0 in
    omega (arith, here, rest)

judged-cases : (input : RaceInput) (race r : RaceState) (o : Option LiveRun) → first_found race.live ≡ o → judged input race ≡ On r
    → (first_found race.live ≡ None) × (settled input (cleared race) ≡ On r)
judged-cases input race r (Some x) e on = let p = judged-plan input race x e in cc
judged-cases input race r None e on = (e, sym (judged-none input race e) ∙ on)

pub record IsSettledOn (input : RaceInput) (race r : RaceState) : Type 0 where
  pub open_end : is_exhausted input race ≡ false
  pub same : race ≡ r
  pub rest : spent race ≡ input.budget → ⊥

settled-cases : (input : RaceInput) (race r : RaceState) (b d : Bool) → is_exhausted input race ≡ b → (spent race == input.budget) ≡ d
    → settled input race ≡ On r → IsSettledOn input race r
settled-cases input race r true d e f on = let p = settled-exhausted input race e in cc
settled-cases input race r false true e f on = let p = settled-else input race true e f in cc
settled-cases input race r false false e f on =
    let p : settled input race ≡ On race = settled-else input race false e f in
    record { open_end = e; same = cc; rest = λ full. let q = equal-true (spent race) input.budget full in cc }

told-append : (es fs : List LineView) → conflicts_in (es ++ fs) ≡ conflicts_in es + conflicts_in fs
told-append [] fs = omega arith
told-append (e ∷ es) fs = let h = told-append es fs in omega (arith, h)

kept-used : (live : List LiveRun) → conflicts_in (passed live) + conflicts_used (staying live) ≡ conflicts_used live
kept-used [] = refl
kept-used (r ∷ rs) = by (any_refuted (r ∷ rs)) (kept-used rs)
  where
    by : (b : Bool) → conflicts_in (passed rs) + conflicts_used (staying rs) ≡ conflicts_used rs
        → conflicts_in (if b then passed_line r ∷ passed rs else []) + conflicts_used (if b then staying rs else r ∷ rs) ≡ conflicts_used (r ∷ rs)
    by true h = omega (arith, h)
    by false h = omega arith

spent-cleared : (race : RaceState) → spent (cleared race) ≡ spent race
unfolding cleared
spent-cleared race =
    let h = kept-used race.live in
    let t = told-append race.closed (passed race.live) in
    omega (arith, h, t)

advanced-next : (input : RaceInput) (race : RaceState) → (advanced input race).next ≡ race.next
unfolding advanced
advanced-next input race = refl

advanced-closed : (input : RaceInput) (race : RaceState) → (advanced input race).closed ≡ race.closed
unfolding advanced
advanced-closed input race = refl

at-empty : (input : RaceInput) (next : ℕ) (closed : List LineView) → listed input.rates next ≡ None
    → is_exhausted input (cleared (record { live = []; next = next; closed = closed })) ≡ true
at-empty input next closed e =
    ap (is_exhausted input) (clear-off [] next closed refl) ∙ ap (λ (o : Option ℕ). not (is_some o)) e

-- a race that goes on after a round has spent at least one conflict in it
pub spends-on : (input : RaceInput) (racing racing' : Racing) (race : RaceState) → IsTied input racing → AreLow racing.runs.items
    → IsTied input racing' → too_large input (race_state racing) ≡ None → race_state racing' ≡ advanced input (race_state racing)
    → racing'.runs.items ≡ moved_all racing.runs.items (grants input.rates 0 (left_of racing.ledger) (length racing.runs.items))
    → judged input (race_state racing') ≡ On race → racing.ledger.spent < spent race
spends-on input racing racing' race t low t' none advanced moved on =
    let rs = racing.runs.items in
    let gs = grants input.rates 0 (left_of racing.ledger) (length rs) in
    let j = judged-cases input (race_state racing') race (first_found (race_state racing').live) refl on in
    let s : IsSettledOn input (cleared (race_state racing')) race = settled-cases input (cleared (race_state racing')) race (is_exhausted input (cleared (race_state racing'))) (spent (cleared (race_state racing')) == input.budget) refl refl j.1 in
    let kept = spent-cleared (race_state racing') in
    let end = ap spent s.same in
    let next : (race_state racing').next ≡ racing.window.next = ap (λ (r : RaceState). r.next) advanced ∙ advanced-next input (race_state racing) in
    let closed = ap conflicts_in (ap (λ (r : RaceState). r.closed) advanced ∙ advanced-closed input (race_state racing)) in
    let used = used-runs rs in
    let used' = used-runs racing'.runs.items in
    let runs' = ap conflicts_of moved in
    let mono = (by_grants input rs gs t.runs).0 in
    let unfull : racing'.ledger.spent ≡ input.budget → ⊥ = λ full. s.rest (kept ∙ (sym t'.spent ∙ full)) in
    let some : 0 < length rs = elim (cases_lt 0 (length rs)) [
      | inl more ↦ more
      | inr few ↦ absurd (
          let empty : rs ≡ [] = nil rs (omega (arith, few)) in
          let last : listed input.rates racing.window.next ≡ None = subst (λ (xs : List RunView). too_large input (record { live = map live_run_of xs; next = racing.window.next; closed = (race_state racing).closed }) ≡ None) empty none in
          let empty' : racing'.runs.items ≡ [] = moved ∙ ap (λ (xs : List RunView). moved_all xs gs) empty in
          let x = at-empty input racing'.window.next (race_state racing').closed (ap (listed input.rates) next ∙ last) in
          let y : is_exhausted input (cleared (race_state racing')) ≡ true = ap (λ (xs : List RunView). is_exhausted input (cleared (record { live = map live_run_of xs; next = racing'.window.next; closed = (race_state racing').closed }))) empty' ∙ x in
          let z = s.open_end in cc)
    ] in
    let left : 1 ≤ left_of racing.ledger = elim (cases_lt 0 (left_of racing.ledger)) [
      | inl more ↦ omega (arith, more)
      | inr few ↦ absurd (unfull (omega (arith, few, t.budget, t.aside, t.spent, t'.spent, t'.within, closed, used, used', runs', mono)))
    ] in
    let unfound = subst (λ (xs : List RunView). first_found (map live_run_of xs) ≡ None) moved j.0 in
    let more = first-more input input.rates rs (left_of racing.ledger) (length rs) t.runs low left some refl unfound in
    omega (arith, more, t.spent, t'.spent, closed, used, used', runs', kept, end)

pub spends-step : (input : RaceInput) (n : ℕ) (racing racing' : Racing) (step : Step) → n ≡ racing.ledger.spent → IsTied input racing
    → AreLow racing.runs.items → IsTied input racing' → too_large input (race_state racing) ≡ None
    → race_state racing' ≡ advanced input (race_state racing)
    → racing'.runs.items ≡ moved_all racing.runs.items (grants input.rates 0 (left_of racing.ledger) (length racing.runs.items))
    → Stands input step (judged input (race_state racing')) → SpendsMore n step
spends-step input n racing racing' (OnStep next) same t low t' none advanced moved s =
    let more = spends-on input racing racing' (race_state next) t low t' none advanced moved s.on in
    let is = s.tied.spent in
    omega (arith, more, same, is)
spends-step input n racing racing' (EndStep end) same t low t' none advanced moved s = tt
