-- What the state of a solver tells of the state that the granted conflicts lead to.
use Rattle.std.proofs.Common.{arith, ◌≡◌, ℕ, ◌+◌, ◌-◌, ◌<◌, ◌≤◌, Bool, true, false, true≢false, refl, sym, ap, ◌∙◌, subst, Option, if◌then◌else◌}
use Rattle.clause_base.specs.Choice.{Known}
use Rattle.clause_base.specs.Formula.{Cnf}
use Rattle.cdcl_defs.specs.declared.standing.Standing.{Standing}
use Rattle.cdcl_defs.specs.declared.standing.Standing.TheVariants.{Going, Found, Refuted}
use Rattle.cdcl_defs.specs.Run.{start_of, after, is_going}
use Rattle.cdcl_defs.specs.State.{State}
use Rattle.goal_choice.specs.Means.{Means}
use Rattle.goal_choice.specs.Choice.{choice_by}
use Rattle.horizon_run.specs.Run.{RunView, choice_in, moved_to, reached, AddsUp, IsMoved, IsReached, Stays}
use Rattle.horizon_run.specs.own.Resume.{origin}
use Rattle.horizon_run.specs.own.Seen.{seen_of}

going-of : (s : Standing) → is_going s ≡ true → s ≡ Going
going-of Going e = refl
going-of Found e = cc
going-of Refuted e = cc

module _ (choose : Known → Option ℕ) (f : Cnf) (laws : (k : ℕ) → IsReached choose f k) (settled : Stays choose f) where
  same-by : (g a : ℕ) (b : Bool) → is_going (reached choose f g).standing ≡ b → (reached choose f (g + a)).conflicts ≤ g
      → reached choose f g ≡ reached choose f (g + a)
  same-by g a false e le = sym (settled g a e)
  same-by g a true e le =
      let used = (laws g).used_up (going-of (reached choose f g).standing e) in
      let up = (laws g).rises a in
      let all : g ≡ (reached choose f (g + a)).conflicts = omega (arith, used, up, le) in
      ap (λ (k : ℕ). reached choose f k) all ∙ (laws (g + a)).again

  -- a solver that handled no more than was granted is where the grants lead
  same : (g a : ℕ) → (reached choose f (g + a)).conflicts ≤ g → reached choose f g ≡ reached choose f (g + a)
  same g a le = same-by g a (is_going (reached choose f g).standing) refl le

  past-by : (g a : ℕ) (b : Bool) → is_going (reached choose f g).standing ≡ b → g < (reached choose f (g + a)).conflicts
      → ((reached choose f g).standing ≡ Going) × ((reached choose f g).conflicts ≡ g)
  past-by g a false e lt =
      let here = ap (λ (s : State). s.conflicts) (settled g a e) in
      let w = (laws g).within in
      absurd (omega (arith, here, w, lt))
  past-by g a true e lt =
      let going = going-of (reached choose f g).standing e in
      (going, (laws g).used_up going)

  -- where a solver handled more than was granted, the grants lead to a state that goes on
  past : (g a : ℕ) → g < (reached choose f (g + a)).conflicts → ((reached choose f g).standing ≡ Going) × ((reached choose f g).conflicts ≡ g)
  past g a lt = past-by g a (is_going (reached choose f g).standing) refl lt

-- what a run's solver is known by
pub record IsLawful (r : RunView) : Type 0 where
  pub moved : r.spoilt ≡ false → IsMoved r
  pub reached_by : (k : ℕ) → IsReached (choice_in r) r.formula k
  pub settled : Stays (choice_in r) r.formula

-- a run as it is seen, by whether it is spoilt
abbrev seen_by : Bool → RunView → ℕ → RunView
seen_by b r g = if b then record r { granted = g } else moved_to r g

formula-by : (b : Bool) (r : RunView) (g : ℕ) → (seen_by b r g).formula ≡ r.formula
formula-by true r g = refl
formula-by false r g = refl

means-by : (b : Bool) (r : RunView) (g : ℕ) → (seen_by b r g).means ≡ r.means
means-by true r g = refl
means-by false r g = refl

granted-by : (b : Bool) (r : RunView) (g : ℕ) → (seen_by b r g).granted ≡ g
granted-by true r g = refl
granted-by false r g = refl

spoilt-by : (b : Bool) (r : RunView) (g : ℕ) → r.spoilt ≡ b → (seen_by b r g).spoilt ≡ b
spoilt-by true r g e = e
spoilt-by false r g e = refl

pub seen-formula : (r : RunView) (g : ℕ) → (seen_of r g).formula ≡ r.formula
seen-formula r g = formula-by r.spoilt r g

pub seen-means : (r : RunView) (g : ℕ) → (seen_of r g).means ≡ r.means
seen-means r g = means-by r.spoilt r g

pub seen-granted : (r : RunView) (g : ℕ) → (seen_of r g).granted ≡ g
seen-granted r g = granted-by r.spoilt r g

pub seen-spoilt : (r : RunView) (g : ℕ) → (seen_of r g).spoilt ≡ r.spoilt
seen-spoilt r g = spoilt-by r.spoilt r g refl

pub sound-seen : (r : RunView) (g : ℕ) → r.spoilt ≡ false → seen_of r g ≡ moved_to r g
sound-seen r g e = ap (λ (b : Bool). seen_by b r g) e

-- a run that is not spoilt is seen where its grants lead
pub seen-moved : (r : RunView) (g : ℕ) → r.spoilt ≡ false → IsMoved (seen_of r g)
seen-moved r g e = subst IsMoved (sym (sound-seen r g e)) refl

now-by : (b : Bool) (r : RunView) → r.spoilt ≡ b → (b ≡ false → IsMoved r) → seen_by b r r.granted ≡ r
now-by true r e moved = refl
now-by false r e moved = sym (moved refl)

-- a run that is not ahead is seen as it is
pub seen-now : (r : RunView) → (r.spoilt ≡ false → IsMoved r) → seen_of r r.granted ≡ r
seen-now r moved = now-by r.spoilt r refl moved

at-grant : (r : RunView) (g : ℕ) → IsLawful r → g ≤ r.granted → r.spoilt ≡ false → r.state ≡ reached (choice_in r) r.formula (g + (r.granted - g))
at-grant r g laws le sane =
    let all : r.granted ≡ g + (r.granted - g) = omega (arith, le) in
    ap (λ (v : RunView). v.state) (laws.moved sane) ∙ ap (λ (k : ℕ). reached (choice_in r) r.formula k) all

caught-by : (b : Bool) (r : RunView) (g : ℕ) → r.spoilt ≡ b → IsLawful r → g ≤ r.granted → (b ≡ false → r.state.conflicts ≤ g)
    → (seen_by b r g).state ≡ r.state
caught-by true r g e laws le few = refl
caught-by false r g e laws le few =
    let there = at-grant r g laws le e in
    let handled = few refl in
    let at = ap (λ (s : State). s.conflicts) there in
    same (choice_in r) r.formula laws.reached_by laws.settled g (r.granted - g) (omega (arith, handled, at)) ∙ sym there

-- a run whose solver handled no more than was granted is seen where it is
pub caught_up : (r : RunView) (g : ℕ) → IsLawful r → g ≤ r.granted → (r.spoilt ≡ false → r.state.conflicts ≤ g) → (seen_of r g).state ≡ r.state
caught_up r g laws le few = caught-by r.spoilt r g refl laws le few

-- a run whose solver handled more is seen going, with all that was granted used
pub behind : (r : RunView) (g : ℕ) → IsLawful r → g ≤ r.granted → r.spoilt ≡ false → g < r.state.conflicts
    → ((seen_of r g).state.standing ≡ Going) × ((seen_of r g).state.conflicts ≡ g)
behind r g laws le sane lt =
    let at = ap (λ (s : State). s.conflicts) (at-grant r g laws le sane) in
    let is = past (choice_in r) r.formula laws.reached_by laws.settled g (r.granted - g) (omega (arith, lt, at)) in
    let seen = ap (λ (v : RunView). v.state) (sound-seen r g sane) in
    (ap (λ (s : State). s.standing) seen ∙ is.0, ap (λ (s : State). s.conflicts) seen ∙ is.1)

-- what grants lead to is told by formula, means and grants
pub moved-same : (r s : RunView) (g h : ℕ) → r.formula ≡ s.formula → r.means ≡ s.means → g ≡ h → moved_to r g ≡ moved_to s h
moved-same r s g h formula means grants i =
    record { formula = formula i; means = means i; state = reached (choice_by (means i)) (formula i) (grants i); granted = grants i; spoilt = false }

-- a run is seen with the formula of its solver, its means, its grants, and whether it is spoilt
pub now-formula : (r now : RunView) (g : ℕ) → seen_of r g ≡ now → r.formula ≡ now.formula
now-formula r now g view = sym (seen-formula r g) ∙ ap (λ (v : RunView). v.formula) view

pub now-means : (r now : RunView) (g : ℕ) → seen_of r g ≡ now → r.means ≡ now.means
now-means r now g view = sym (seen-means r g) ∙ ap (λ (v : RunView). v.means) view

pub now-granted : (r now : RunView) (g : ℕ) → seen_of r g ≡ now → g ≡ now.granted
now-granted r now g view = sym (seen-granted r g) ∙ ap (λ (v : RunView). v.granted) view

pub now-spoilt : (r now : RunView) (g : ℕ) → seen_of r g ≡ now → r.spoilt ≡ now.spoilt
now-spoilt r now g view = sym (seen-spoilt r g) ∙ ap (λ (v : RunView). v.spoilt) view

-- what holds of the formula and the means of a solver holds of those that are seen
pub laws-seen : (P : Means → Cnf → Type 0) (r now : RunView) (g : ℕ) → seen_of r g ≡ now → P r.means r.formula → P now.means now.formula
laws-seen P r now g view p = subst (λ (y : Means × Cnf). P y.0 y.1) (λ i. (now-means r now g view i, now-formula r now g view i)) p

-- a run that was granted more is seen where its grants lead
pub goes_to : (r n now : RunView) (g h k : ℕ) → seen_of r g ≡ now → n.formula ≡ r.formula → n.means ≡ r.means → n.spoilt ≡ false → h ≡ g + k
    → seen_of n h ≡ moved_to now (now.granted + k)
goes_to r n now g h k view formula means sound is =
    sound-seen n h sound ∙ moved-same n now h (now.granted + k) (formula ∙ now-formula r now g view) (means ∙ now-means r now g view)
    (is ∙ ap (λ (a : ℕ). a + k) (now-granted r now g view))

-- a run whose solver went further is seen where it was
pub stays_seen : (r n now : RunView) (g : ℕ) → seen_of r g ≡ now → n.formula ≡ r.formula → n.means ≡ r.means → r.spoilt ≡ false → n.spoilt ≡ false
    → seen_of n g ≡ now
stays_seen r n now g view formula means sane sound = sound-seen n g sound ∙ moved-same n r g g formula means refl ∙ sym (sound-seen r g sane) ∙ view

-- the state of a run that goes on
pub went : (now new : RunView) (k : ℕ) → AddsUp (choice_in now) now.formula → IsMoved now → new ≡ moved_to now (now.granted + k)
    → new.state ≡ after (choice_in now) now.state k
went now new k add moved is =
    ap (λ (v : RunView). v.state) is ∙ sym (add now.granted k) ∙ ap (λ (s : State). after (choice_in now) s k) (sym (ap (λ (v : RunView). v.state) moved))

-- a solver that is not spoilt was not
pub sane_before : (r n : RunView) (b : Bool) → r.spoilt ≡ b → (r.spoilt ≡ true → n ≡ r) → n.spoilt ≡ false → r.spoilt ≡ false
sane_before r n true e stays sound = absurd (true≢false (sym (ap (λ (v : RunView). v.spoilt) (stays e) ∙ e) ∙ sound))
sane_before r n false e stays sound = e

-- runs with one formula and the same means have one origin
pub same-origin : (r n : RunView) → n.formula ≡ r.formula → n.means ≡ r.means → origin n ≡ origin r
same-origin r n formula means i =
    record { formula = formula i; means = means i; state = start_of (formula i); granted = 0; spoilt = false }
