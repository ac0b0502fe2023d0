use Rattle.std.proofs.Common.{arith, ◌≡◌, ℕ, zero, suc, ◌+◌, List, [], ◌∷◌, ◌++◌, true, map, drop, Some, slice_get, refl, sym, ap, ◌∙◌, subst, append_assoc, append-nil}
use Rattle.std.specs.List.{AllByRecursion}
use Rattle.std.proofs.lemmas.List.{map-append}
use Rattle.cdcl_defs.specs.declared.standing.Standing.{Standing}
use Rattle.cdcl_defs.specs.declared.standing.Standing.TheVariants.{Going, Found, Refuted}
use Rattle.cdcl_defs.specs.State.{State}
use Rattle.clause_base.specs.Formula.{Cnf}
use Rattle.rup_check.specs.Certificate.{Stamp, Certifies}
use Rattle.horizon_run.specs.Run.{RunView, choice_in, reached}
use Rattle.race.specs.Found.{first_found, is_found, open_line, lines}
use Rattle.race.specs.Input.{RaceInput}
use Rattle.race.specs.Lines.{IsLine}
use Rattle.race.specs.Runs.{live_run_of, IsRunOf}
use Rattle.race.specs.State.{RaceState, LiveRun, conflicts_used, spent}
use Rattle.race_outcome.specs.Ends.{LineView, conflicts_in, line_view}
use Rattle.race_outcome.specs.declared.line.Line.{Line}
use Rattle.race_outcome.specs.declared.line.LineEnd.TheVariants as ends
use Rattle.race.proofs.published.Starts.{all-push}

pub found-is : (s : Standing) → is_found s ≡ true → s ≡ Found
found-is Going e = cc
found-is Found e = refl
found-is Refuted e = cc

-- the first found run is at the place come to
pub found-here : (rs : List RunView) (i : ℕ) (r : RunView) → slice_get rs i ≡ Some r → is_found r.state.standing ≡ true
    → first_found (map live_run_of (drop i rs)) ≡ slice_get (map live_run_of rs) i
found-here [] i r at f = cc
found-here (x ∷ rs) zero r at f = let same : x ≡ r = cc in let g : is_found x.state.standing ≡ true = rw same f in rw g refl
found-here (x ∷ rs) (suc i) r at f = found-here rs i r at f

told-open : (rs : List LiveRun) → conflicts_in (map open_line rs) ≡ conflicts_used rs
told-open [] = refl
told-open (r ∷ rs) = ap (λ (n : ℕ). r.state.conflicts + n) (told-open rs)

told-append : (es fs : List LineView) → conflicts_in (es ++ fs) ≡ conflicts_in es + conflicts_in fs
told-append [] fs = omega arith
told-append (e ∷ es) fs = let h = told-append es fs in omega (arith, h)

-- one more line, of the first of the runs that are left
pub line-next : (ls ls' : List Line) (line : Line) (old rest : List RunView) (r : RunView) → old ≡ r ∷ rest → ls' ≡ ls ++ line ∷ []
    → line_view line ≡ open_line (live_run_of r)
    → map line_view ls' ++ map open_line (map live_run_of rest) ≡ map line_view ls ++ map open_line (map live_run_of old)
line-next ls ls' line old rest r at pushed is =
    ap (λ (xs : List Line). map line_view xs ++ map open_line (map live_run_of rest)) pushed
    ∙ (ap (λ (xs : List LineView). xs ++ map open_line (map live_run_of rest)) (map-append line_view ls (line ∷ []))
    ∙ (append_assoc (map line_view ls) (line_view line ∷ []) (map open_line (map live_run_of rest))
    ∙ (ap (λ (e : LineView). map line_view ls ++ e ∷ map open_line (map live_run_of rest)) is
    ∙ ap (λ (rs : List RunView). map line_view ls ++ map open_line (map live_run_of rs)) (sym at))))

pub lines-next : (input : RaceInput) (ls ls' : List Line) (line : Line) → ls' ≡ ls ++ line ∷ [] → AllByRecursion (IsLine input) ls → IsLine input line
    → AllByRecursion (IsLine input) ls'
lines-next input ls ls' line pushed a one = subst (AllByRecursion (IsLine input)) (sym pushed) (all-push (IsLine input) ls line a one)

pub lines-end : (ls : List Line) (rs : List RunView) → rs ≡ [] → map line_view ls ++ map open_line (map live_run_of rs) ≡ map line_view ls
lines-end ls rs none = ap (λ (xs : List RunView). map line_view ls ++ map open_line (map live_run_of xs)) none ∙ append-nil _

-- the lines of a race have as many conflicts as the race
pub told-lines : (race : RaceState) → conflicts_in (lines race) ≡ spent race
told-lines race = let h = told-append race.closed (map open_line race.live) in let k = told-open race.live in omega (arith, h, k)

-- the line of a refuted run, with the mark of its log
pub refuted-line : (input : RaceInput) (r : RunView) (h c : ℕ) (m : Stamp) → IsRunOf input r → h ≡ r.formula.name → c ≡ r.state.conflicts → r.state.standing ≡ Refuted
    → Certifies m r.formula r.state.log → IsLine input (record { horizon = h; conflicts = c; end = ends.Refuted m })
refuted-line input r h c m is horizon conflicts refuted certified =
    let there : r.state ≡ reached (choice_in r) r.formula r.granted = ap (λ (v : RunView). v.state) is.moved in
    let choose : input.choose h ≡ choice_in r = ap (λ (n : ℕ). input.choose n) horizon ∙ is.chosen in
    let formula : input.formula h ≡ r.formula = ap (λ (n : ℕ). input.formula n) horizon ∙ is.formula in
    let used : c ≡ (reached (choice_in r) r.formula r.granted).conflicts = conflicts ∙ ap (λ (s : State). s.conflicts) there in
    let leads : reached (input.choose h) (input.formula h) c ≡ reached (choice_in r) r.formula (reached (choice_in r) r.formula r.granted).conflicts =
    λ i. reached (choose i) (formula i) (used i) in
    let state : reached (input.choose h) (input.formula h) c ≡ r.state = leads ∙ ((is.reached r.granted).again ∙ sym there) in
    record {
      conflicts = ap (λ (s : State). s.conflicts) state ∙ sym conflicts;
      standing = ap (λ (s : State). s.standing) state ∙ refuted;
      marked = subst (λ (y : Cnf × State). Certifies m y.0 y.1.log) (λ i. (sym formula i, sym state i)) certified;
    }
