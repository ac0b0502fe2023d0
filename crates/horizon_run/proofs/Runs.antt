-- What the laws of a solver's states say of the run of a horizon.
use Rattle.std.proofs.Common.{arith, ◌≡◌, ℕ, suc, ◌+◌, ◌-◌, ◌<◌, ◌≤◌, Bool, false, refl, sym, ap, ◌∙◌, subst, List, [], ◌∷◌, sum, Option, Result, Ok, Err, OnOk}
use Rattle.clause_base.specs.Choice.{Known}
use Rattle.goal_choice.specs.Means.{Means}
use Rattle.goal_choice.specs.Choice.{choice_by}
use Rattle.goal_choice.specs.ChoiceLaw.{choice-open}
use Rattle.clause_base.specs.Formula.{Cnf}
use Rattle.cdcl_defs.specs.declared.trail.Assigned.{Assigned}
use Rattle.cdcl_defs.specs.Run.{start_of, after, is_going}
use Rattle.cdcl_defs.specs.Open.{Opens}
use Rattle.cdcl_defs.specs.State.{State}
use Rattle.cdcl_defs.specs.Sound.{IsSound, made_true, truths_from}
use Rattle.cdcl_defs.specs.Laws.{AfterIsSound, AfterAddsUp, AfterSettled, AfterIsWithin, AfterGrants, LogIsShort}
use Rattle.horizon_run.specs.Run.{RunView, choice_in, moved_to, reached, IsMoved, IsReached, IsRun, AddsUp, Stays}
use Rattle.horizon_run.specs.own.Resume.{origin, moved_by, still, goes}

-- the choices backwards from the goals are open
pub means_open : (m : Means) (n : ℕ) → Opens n (choice_by m)
means_open m n values e = choice-open m values

pub truths-push : (trail : List Assigned) (v n : ℕ) → v < n
    → truths_from trail v (n - v) ≡ made_true trail v ∷ truths_from trail (v + 1) (n - (v + 1))
truths-push trail v n l = let e : n - v ≡ suc (n - (v + 1)) = omega arith in rw e refl

-- to go on from a state that was reached
pub adds_up : AfterAddsUp → (choose : Known → Option ℕ) (f : Cnf) → Opens f.variables choose → IsSound f (start_of f) → AddsUp choose f
adds_up law choose f o s j k =
    let e : sum (j ∷ k ∷ []) ≡ j + k = omega arith in
    let P : ℕ → Type 0 = λ n. after choose (reached choose f j) k ≡ reached choose f n in
    subst P e (law f choose (start_of f) o s j (k ∷ []))

-- a settled state stays
pub stays : AfterSettled → (choose : Known → Option ℕ) (f : Cnf) → AddsUp choose f → Stays choose f
stays law choose f add k n off = sym (add k n) ∙ law choose (reached choose f k) off n

-- what is known of a state that a sound start leads to
pub is_reached : AfterIsSound → AfterIsWithin → AfterGrants → LogIsShort → (choose : Known → Option ℕ) (f : Cnf) (k : ℕ)
    → Opens f.variables choose → IsSound f (start_of f) → AddsUp choose f → IsReached choose f k
is_reached is_sound is_within granted is_short choose f k o s add =
    let x = start_of f in
    let y = after choose x k in
    let grants = granted f choose x o s in
    let w : y.conflicts ≤ k = let h = is_within choose x k in omega (arith, h) in
    let sound : IsSound f y = is_sound f choose x k o s in
    record {
      within = w;
      used_up = λ g. let u = grants.used_up k (ap is_going g) in omega (arith, u);
      adds = λ j. subst (λ (z : State). z.conflicts ≤ y.conflicts + j) (add k j) (is_within choose y j);
      rises = λ j. grants.rises k j;
      again = grants.again y.conflicts k w (omega arith);
      counted = sound.counted;
      short_log = is_short f y sound;
      refuted = λ r. record { derived = sound.logged.derived; ends_empty = sound.refuted r };
      found = λ r. (sound.solved r).model;
    }

-- a run goes on from its start
pub goes_on : (choose : Known → Option ℕ) (f : Cnf) (s t : State) (g k : ℕ) → AddsUp choose f → s ≡ reached choose f g → t ≡ after choose s k
    → t ≡ reached choose f (g + k)
goes_on choose f s t g k add m e = e ∙ ap (λ (x : State). after choose x k) m ∙ add g k

-- where a run is that goes on, it is seen so
pub seen : (old new : RunView) (k : ℕ) → AddsUp (choice_in old) old.formula → IsMoved old → new.state ≡ after (choice_in old) old.state k
    → new.formula ≡ old.formula → new.means ≡ old.means → new.granted ≡ old.granted + k → new.spoilt ≡ false → new ≡ moved_to old (old.granted + k)
seen old new k add m e formula means granted sane =
    let there = goes_on (choice_in old) old.formula old.state new.state old.granted k add (ap (λ (r : RunView). r.state) m) e in
    λ i. record { formula = formula i; means = means i; state = there i; granted = granted i; spoilt = sane i }

-- a run that goes on from where its origin has it
pub resumes : (old new : RunView) (k n : ℕ) → AddsUp (choice_in old) old.formula → new ≡ moved_to old (old.granted + n)
    → new.state ≡ after (choice_in old) old.state n → still old ≡ still (moved_by (origin old) k)
    → still new ≡ still (moved_by (origin old) (k + n))
resumes old new k n add is went was =
    let state : new.state ≡ reached (choice_in old) old.formula (k + n) =
    went ∙ ap (λ (r : RunView). after (choice_in old) r.state n) was ∙ add k n in
    let formula = ap (λ (r : RunView). r.formula) is in
    let means = ap (λ (r : RunView). r.means) is in
    let spoilt = ap (λ (r : RunView). r.spoilt) is in
    λ i. record { formula = formula i; means = means i; state = state i; granted = 0; spoilt = spoilt i }

-- the same where there was memory
pub resumes_on : {T E : Type 0} (old new : RunView) (n : ℕ) (r : Result T E) → AddsUp (choice_in old) old.formula → OnOk r (new ≡ moved_to old (old.granted + n))
    → OnOk r (new.state ≡ after (choice_in old) old.state n) → OnOk r ((k : ℕ) → still old ≡ still (moved_by (origin old) k) → still new ≡ still (moved_by (origin old) (k + n)))
resumes_on old new n (Ok t) add is went = λ k. resumes old new k n add is went
resumes_on old new n (Err e) add is went = is

-- a settled run stays, apart from what it was granted
pub rests : (r : RunView) → Stays (choice_in r) r.formula → (k n : ℕ) → goes (moved_by (origin r) k) ≡ false
    → still (moved_by (origin r) (k + n)) ≡ still (moved_by (origin r) k)
rests r settled k n off = λ i. record { formula = r.formula; means = r.means; state = settled k n off i; granted = 0; spoilt = false }

-- a run begins at a sound start
pub begins : (f f' : Cnf) (m m' : Means) (s t : State) (b : Bool) → IsSound f s → s ≡ start_of f → t ≡ after (choice_by m) s 0 → f' ≡ f → m' ≡ m
    → IsRun (choice_by m') f' t 0 b
begins f f' m m' s t b sound first e formula means =
    let kept : IsRun (choice_by m) f t 0 b = record {
      opens = means_open m f.variables;
      start = subst (IsSound f) first sound;
      moved = λ _. e ∙ ap (λ (x : State). after (choice_by m) x 0) first;
    } in
    let over : IsRun (choice_by m) f' t 0 b = subst (λ (h : Cnf). IsRun (choice_by m) h t 0 b) (sym formula) kept in
    subst (λ (x : Means). IsRun (choice_by x) f' t 0 b) (sym means) over
