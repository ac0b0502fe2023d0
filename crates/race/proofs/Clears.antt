use Rattle.std.proofs.Common.{arith, ◌≡◌, ℕ, suc, ◌+◌, ◌-◌, ◌≤◌, ◌<◌, drop, Contains, List, [], ◌∷◌, ◌++◌, Bool, true, false, map, length, filter, nat_lt, get_or, ◌||◌, refl, sym, ap, ◌∙◌, subst, append_assoc, append-nil}
use Rattle.std.specs.List.{AllByRecursion}
use Rattle.std.specs.List.Sorted.{IsStrictlyIncreasing}
use Rattle.std.proofs.lemmas.List.Kept.{AllPairs-from_increasing}
use Rattle.std.proofs.lemmas.Bool.Decides.{nat_tests}
use Rattle.cdcl_defs.specs.declared.standing.Standing.{Standing}
use Rattle.cdcl_defs.specs.declared.standing.Standing.TheVariants.{Going, Found, Refuted}
use Rattle.cdcl_defs.specs.State.{State}
use Rattle.horizon_run.specs.Run.{RunView, choice_in, reached, IsMoved, IsReached}
use Rattle.std.proofs.lemmas.List.{map-append}
use Rattle.horizon_rates.specs.Horizons.{horizon_at}
use Rattle.horizon_rates.specs.Window.{WindowState}
use Rattle.horizon_rates.specs.Ledger.{Account}
use Rattle.race.specs.Clears.{any_refuted, passed, passed_line, cleared, is_refuted}
use Rattle.race.specs.Input.{RaceInput}
use Rattle.race.specs.Lines.{IsLine}
use Rattle.race.specs.Runs.{live_run_of, horizon_of, IsRunOf, IsLow, AreLow, AreUnfound, conflicts_of}
use Rattle.race.specs.State.{LiveRun, conflicts_used}
use Rattle.race.specs.Tied.{race_state, IsTied}
use Rattle.race_outcome.specs.Ends.{LineView, conflicts_in, line_view}
use Rattle.race.specs.declared.racing.Racing.{Racing}
use Rattle.race_outcome.specs.declared.line.Line.{Line}
use Rattle.race.proofs.published.Starts.{all-push, same-race}
use Rattle.race.proofs.published.Advances.{used-runs}

from_index : (h : ℕ) (xs : List ℕ) → ((k : ℕ) → k < length xs → h < get_or xs k 0) → AllByRecursion (λ x. h < x) xs
from_index h [] f = tt
from_index h (x ∷ xs) f = (f 0 (omega arith), from_index h xs (λ k l. f (suc k) (omega arith)))

-- in a rising list all others are above the first
above : (h : ℕ) (xs : List ℕ) → IsStrictlyIncreasing (h ∷ xs) → AllByRecursion (λ x. h < x) xs
above h xs up = from_index h xs (λ k l. AllPairs-from_increasing (h ∷ xs) up 0 (suc k) 0 (omega arith) (omega arith))

kept : (h : ℕ) (xs : List ℕ) → AllByRecursion (λ x. h < x) xs → filter (λ x. nat_lt h x) xs ≡ xs
kept h [] a = refl
kept h (x ∷ xs) a = let t : nat_lt h x ≡ true = grind (arith, nat_tests, a.0) in rw (t, kept h xs a.1) refl

-- to refute the first horizon leaves the others
pub first-gone : (h : ℕ) (xs : List ℕ) → IsStrictlyIncreasing (h ∷ xs) → filter (λ x. nat_lt h x) (h ∷ xs) ≡ xs
first-gone h xs up = let f : nat_lt h h ≡ false = grind (arith, nat_tests) in rw f (kept h xs (above h xs up))

pub clear-on : (r : LiveRun) (rs : List LiveRun) (next : ℕ) (closed : List LineView) → any_refuted (r ∷ rs) ≡ true
    → cleared (record { live = rs; next = next; closed = closed ++ passed_line r ∷ [] }) ≡ cleared (record { live = r ∷ rs; next = next; closed = closed })
unfolding cleared
clear-on r rs next closed any = rw (any, append_assoc closed (passed_line r ∷ []) (passed rs)) refl

pub clear-off : (rs : List LiveRun) (next : ℕ) (closed : List LineView) → any_refuted rs ≡ false
    → cleared (record { live = rs; next = next; closed = closed }) ≡ record { live = rs; next = next; closed = closed }
unfolding cleared
clear-off [] next closed any = rw append-nil refl
clear-off (r ∷ rs) next closed any = rw (any, append-nil) refl

pub told-push : (es : List LineView) (e : LineView) → conflicts_in (es ++ e ∷ []) ≡ conflicts_in es + e.conflicts
told-push [] e = omega arith
told-push (x ∷ es) e = let h = told-push es e in omega (arith, h)

parts : (a b : Bool) → (a || b) ≡ false → (a ≡ false) × (b ≡ false)
parts true b e = cc
parts false b e = (refl, e)

-- a run that is not found and not refuted is going, and has used what it was granted
low-run : (run : RunView) (standing : Standing) → run.state.standing ≡ standing → (run.state.standing ≡ Found → ⊥) → is_refuted standing ≡ false
    → IsMoved run
    → IsReached (choice_in run) run.formula run.granted → run.state.conflicts ≤ 1000000 → IsLow run
low-run run Going e u n m r l =
    let same : run.state ≡ reached (choice_in run) run.formula run.granted = ap (λ (x : RunView). x.state) m in
    let going : (reached (choice_in run) run.formula run.granted).standing ≡ Going = sym (ap (λ (s : State). s.standing) same) ∙ e in
    let full = r.used_up going in
    let conflicts = ap (λ (s : State). s.conflicts) same in
    record { granted = omega (arith, full, conflicts, l); unrefuted = λ f. cc }
low-run run Found e u n m r l = absurd (u e)
low-run run Refuted e u n m r l = cc

-- where no run is found or refuted, each is going, and was granted what it used
pub going-low : (input : RaceInput) (rs : List RunView) → AllByRecursion (IsRunOf input) rs → AreUnfound rs → any_refuted (map live_run_of rs) ≡ false
    → conflicts_of rs ≤ 1000000 → AreLow rs
going-low input [] a u none few = tt
going-low input (r ∷ rs) a u none few =
    let p = parts (is_refuted r.state.standing) (any_refuted (map live_run_of rs)) none in
    (low-run r r.state.standing refl u.0 p.0 a.0.moved (a.0.reached r.granted) (omega arith), going-low input rs a.1 u.1 p.1 (omega arith))

pub uncons : (xs : List RunView) (x : RunView) → 0 < length xs → x ≡ get_or xs 0 x → xs ≡ x ∷ drop 1 xs
uncons [] x l e = absurd (omega arith)
uncons (y ∷ xs) x l e = ap (λ (z : RunView). z ∷ xs) (sym e)

pub some-refuted : (xs : List RunView) → any_refuted (map live_run_of xs) ≡ true → 0 < length xs
some-refuted [] e = cc
some-refuted (x ∷ xs) e = omega arith

pub contains-first : (h : ℕ) (xs : List ℕ) → Contains (h ∷ xs) h
contains-first h xs = (0, omega arith, refl)

-- what the closing of the first run changes of a race in code
pub record IsClose (racing racing' : Racing) (run : RunView) (rest : List RunView) (line : Line) : Type 0 where
  pub runs : racing.runs.items ≡ run ∷ rest
  pub runs' : racing'.runs.items ≡ rest
  pub window : racing'.window ≡ record racing.window { live = filter (λ x. nat_lt run.formula.name x) racing.window.live }
  pub last : racing'.last ≡ racing.last
  pub ledger : racing'.ledger ≡ racing.ledger
  pub lines : racing'.lines.items ≡ racing.lines.items ++ line ∷ []
  pub told : line_view line ≡ passed_line (live_run_of run)

pub live-close : (input : RaceInput) (racing : Racing) (run : RunView) (rest : List RunView) → IsTied input racing → racing.runs.items ≡ run ∷ rest
    → racing.window.live ≡ run.formula.name ∷ map horizon_of rest
live-close input racing run rest t e = t.live ∙ ap (map horizon_of) e

pub tied-close : (input : RaceInput) (racing racing' : Racing) (run : RunView) (rest : List RunView) (line : Line) → IsTied input racing
    → IsStrictlyIncreasing racing.window.live → IsClose racing racing' run rest line → IsLine input line → IsTied input racing'
tied-close input racing racing' run rest line t up s one =
    let live = live-close input racing run rest t s.runs in
    let gone = first-gone run.formula.name (map horizon_of rest) (subst IsStrictlyIncreasing live up) in
    let next = ap (λ (w : WindowState). w.next) s.window in
    let told_all : map line_view racing'.lines.items ≡ map line_view racing.lines.items ++ passed_line (live_run_of run) ∷ [] =
    ap (map line_view) s.lines ∙ (map-append line_view racing.lines.items (line ∷ []) ∙ ap (λ (e : LineView). map line_view racing.lines.items ++ e ∷ []) s.told) in
    let closed : conflicts_in (map line_view racing'.lines.items) ≡ conflicts_in (map line_view racing.lines.items) + run.state.conflicts = ap conflicts_in told_all ∙ told-push (map line_view racing.lines.items) (passed_line (live_run_of run)) in
    let used = ap (λ (rs : List RunView). conflicts_used (map live_run_of rs)) s.runs in
    let used' = ap (λ (rs : List RunView). conflicts_used (map live_run_of rs)) s.runs' in
    let spent = ap (λ (a : Account). a.spent) s.ledger in
    let tail : AllByRecursion (IsRunOf input) (run ∷ rest) = subst (AllByRecursion (IsRunOf input)) s.runs t.runs in
    record {
      rates = ap (λ (w : WindowState). w.rates) s.window ∙ t.rates;
      live = ap (λ (w : WindowState). w.live) s.window ∙ (ap (filter (λ x. nat_lt run.formula.name x)) live ∙ (gone ∙ ap (map horizon_of) (sym s.runs')));
      last = s.last ∙ (t.last ∙ ap (λ (n : ℕ). horizon_at input.rates (n - 1)) (sym next));
      budget = ap (λ (a : Account). a.budget) s.ledger ∙ t.budget;
      aside = ap (λ (a : Account). a.set_aside) s.ledger ∙ t.aside;
      spent = omega (arith, spent, t.spent, closed, used, used');
      within = omega (arith, spent, t.within);
      small = t.small;
      runs = subst (AllByRecursion (IsRunOf input)) (sym s.runs') tail.1;
      lines = subst (AllByRecursion (IsLine input)) (sym s.lines) (all-push (IsLine input) racing.lines.items line t.lines one);
    }

pub race-close : (racing racing' : Racing) (run : RunView) (rest : List RunView) (line : Line) → IsClose racing racing' run rest line
    → any_refuted (map live_run_of racing.runs.items) ≡ true → cleared (race_state racing') ≡ cleared (race_state racing)
race-close racing racing' run rest line s any =
    let told_all : map line_view racing'.lines.items ≡ map line_view racing.lines.items ++ passed_line (live_run_of run) ∷ [] =
    ap (map line_view) s.lines ∙ (map-append line_view racing.lines.items (line ∷ []) ∙ ap (λ (e : LineView). map line_view racing.lines.items ++ e ∷ []) s.told) in
    let next = ap (λ (w : WindowState). w.next) s.window in
    let any' : any_refuted (live_run_of run ∷ map live_run_of rest) ≡ true = subst (λ (rs : List RunView). any_refuted (map live_run_of rs) ≡ true) s.runs any in
    ap cleared (same-race (ap (map live_run_of) s.runs') next told_all)
    ∙ (clear-on (live_run_of run) (map live_run_of rest) racing.window.next (map line_view racing.lines.items) any'
    ∙ ap (λ (rs : List RunView). cleared (record { live = map live_run_of rs; next = racing.window.next; closed = map line_view racing.lines.items })) (sym s.runs))

pub unfound-tail : (xs rest : List RunView) (run : RunView) → xs ≡ run ∷ rest → AreUnfound xs → (run.state.standing ≡ Found → ⊥) × AreUnfound rest
unfound-tail xs rest run e u = let h : AreUnfound (run ∷ rest) = subst AreUnfound e u in (h.0, h.1)

pub end-low : (input : RaceInput) (racing : Racing) → IsTied input racing → AreUnfound racing.runs.items
    → any_refuted (map live_run_of racing.runs.items) ≡ false → AreLow racing.runs.items
end-low input racing t u none =
    let used = used-runs racing.runs.items in
    going-low input racing.runs.items t.runs u none (omega (arith, used, t.spent, t.within, t.small))

pub end-cleared : (racing : Racing) → any_refuted (map live_run_of racing.runs.items) ≡ false → cleared (race_state racing) ≡ race_state racing
end-cleared racing none = clear-off (map live_run_of racing.runs.items) racing.window.next (map line_view racing.lines.items) none
