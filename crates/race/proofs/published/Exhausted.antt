-- A race that is exhausted has refuted the last listed horizon.
use Rattle.std.proofs.Common.{arith, ◌≡◌, ℕ, zero, suc, ◌+◌, ◌-◌, ◌==◌, nat_le, ◌||◌, Bool, true, false, not, List, [], ◌∷◌, ◌++◌, map, length, Option, Some, None, if◌then◌else◌, refl, sym, ap, ◌∙◌, subst, inl, inr}
use Rattle.std.specs.Prelude.{◌⊎◌, Contains, is_some}
use Rattle.std.proofs.lemmas.List.Elements.{Contains-append_right, Contains-append_left}
use Rattle.horizon_rates.specs.Horizons.{horizon_at, listed}
use Rattle.horizon_rates.proofs.published.HorizonLaws.{up_to-Some, listed-first}
use Rattle.cdcl_defs.specs.declared.standing.Standing.{Standing}
use Rattle.step_encoding.specs.Limits.{planner_literals}
use Rattle.step_encoding.specs.Numbers.{literals_of}
use Rattle.race_outcome.specs.Ends.{WordRefuted, WordDropped, LineView, EndView, Planned, Exhausted, Unfinished}
use Rattle.race.specs.Input.{RaceInput}
use Rattle.race.specs.State.{LiveRun, RaceState, live_at, spent}
use Rattle.race.specs.Starts.{fitting, started, fill, filled, too_large}
use Rattle.race.specs.Grants.{grants, raised, advanced}
use Rattle.race.specs.Found.{first_found, open_line, lines}
use Rattle.race.specs.Clears.{is_refuted, any_refuted, passed_word, passed_line, passed, staying, cleared}
use Rattle.race.specs.Race.{Stage, On, Ended, TooLarge, is_exhausted, last_started, settled, judged, round, next_stage, after_rounds, race_of}
use Rattle.race.specs.own.Exhausted.{LastRefuted}
use Rattle.race.proofs.published.Ends.{settled-exhausted, settled-else, judged-plan, judged-none}

-- ---- the last live horizon

-- the last of these horizons was listed just before this place
pub record HasLast (input : RaceInput) (rs : List LiveRun) (next : ℕ) : Type 0 where
  pub front : List LiveRun
  pub last : LiveRun
  pub is : rs ≡ front ++ last ∷ []
  pub place : ℕ
  pub before : next ≡ place + 1
  pub listed_at : listed input.rates place ≡ Some last.horizon

abbrev EndsListed : RaceInput → RaceState → Type 0
EndsListed input race = (race.live ≡ []) ⊎ HasLast input race.live race.next

fitting_is : (input : RaceInput) (o : Option ℕ) (k : ℕ) → fitting input o ≡ Some k → o ≡ Some k
fitting_is input None k e = absurd (let never : None ≡ Some k = e in cc)
fitting_is input (Some x) k e = step (nat_le (literals_of (input.formula x)) planner_literals) e
  where
    step : (b : Bool) → (if b then Some x else None) ≡ Some k → Some x ≡ Some k
    step true e = e
    step false e = absurd (let never : None ≡ Some k = e in cc)

fill_ends : (input : RaceInput) (n : ℕ) (race : RaceState) → EndsListed input race → EndsListed input (fill input n race)
fill_ends input zero race h = h
fill_ends input (suc n) race h = step (λ k. fill_ends input n (started input k race)) (fitting input (listed input.rates race.next)) refl
  where
    step : ((k : ℕ) → EndsListed input (started input k race) → EndsListed input (fill input n (started input k race))) → (q : Option ℕ) → fitting input (listed input.rates race.next) ≡ q → EndsListed input (elim q [ Some k ↦ fill input n (started input k race) | None ↦ race ])
    step more None e = h
    step more (Some k) e =
        more k (inr (record { front = race.live; last = live_at input k 0; is = refl; place = race.next; before = refl; listed_at = fitting_is input (listed input.rates race.next) k e }))

no_pushed : {A : Type 0} (xs : List LiveRun) (x : LiveRun) → xs ++ x ∷ [] ≡ [] → A
no_pushed [] x e = absurd (let never : x ∷ [] ≡ [] = e in cc)
no_pushed (y ∷ ys) x e = absurd (let never : y ∷ (ys ++ x ∷ []) ≡ [] = e in cc)

-- where none is live afterwards none was started
fill_none : (input : RaceInput) (n : ℕ) (race : RaceState) → (fill input n race).live ≡ [] → fill input n race ≡ race
fill_none input zero race none = refl
fill_none input (suc n) race none = step (λ k. fill_none input n (started input k race)) (fitting input (listed input.rates race.next)) none
  where
    step : ((k : ℕ) → (fill input n (started input k race)).live ≡ [] → fill input n (started input k race) ≡ started input k race) → (q : Option ℕ) → (elim q as (λ _. RaceState) [ Some k ↦ fill input n (started input k race) | None ↦ race ]).live ≡ [] → elim q as (λ _. RaceState) [ Some k ↦ fill input n (started input k race) | None ↦ race ] ≡ race
    step more None none = refl
    step more (Some k) none = no_pushed race.live (live_at input k 0) (sym (ap (λ (r : RaceState). r.live) (more k none)) ∙ none)

raised_last : (input : RaceInput) (front : List LiveRun) (last : LiveRun) (gs : List ℕ) → (f : List LiveRun) × (l : LiveRun) × (raised input (front ++ last ∷ []) gs ≡ f ++ l ∷ []) × (l.horizon ≡ last.horizon)
raised_last input [] last [] = ([], last, refl, refl)
raised_last input [] last (g ∷ gs) = ([], live_at input last.horizon (last.target + g), refl, refl)
raised_last input (r ∷ front) last [] = (r ∷ front, last, refl, refl)
raised_last input (r ∷ front) last (g ∷ gs) =
    let rest = raised_last input front last gs in
    (live_at input r.horizon (r.target + g) ∷ rest.0, rest.1, ap (λ (xs : List LiveRun). live_at input r.horizon (r.target + g) ∷ xs) rest.2, rest.3)

raised_none : (input : RaceInput) (rs : List LiveRun) (gs : List ℕ) → raised input rs gs ≡ [] → rs ≡ []
raised_none input [] gs none = refl
raised_none input (r ∷ rs) [] none = none
raised_none input (r ∷ rs) (g ∷ gs) none = absurd (let never : live_at input r.horizon (r.target + g) ∷ raised input rs gs ≡ [] = none in cc)

advanced_ends : (input : RaceInput) (race : RaceState) → EndsListed input race → EndsListed input (advanced input race)
unfolding advanced
advanced_ends input race (inl none) = inl (ap (λ (rs : List LiveRun). raised input rs (grants input.rates 0 (input.budget - spent race) (length race.live))) none)
advanced_ends input race (inr h) =
    let gs = grants input.rates 0 (input.budget - spent race) (length race.live) in
    let r = raised_last input h.front h.last gs in
    inr (record { front = r.0; last = r.1; is = ap (λ (rs : List LiveRun). raised input rs gs) h.is ∙ r.2; place = h.place; before = h.before; listed_at = h.listed_at ∙ ap (λ (n : ℕ). Some n) (sym r.3) })

advanced_none : (input : RaceInput) (race : RaceState) → (advanced input race).live ≡ [] → race.live ≡ []
unfolding advanced
advanced_none input race none = raised_none input race.live (grants input.rates 0 (input.budget - spent race) (length race.live)) none

-- ---- what is cleared away

staying_ends : (front : List LiveRun) (last : LiveRun) → (staying (front ++ last ∷ []) ≡ []) ⊎ ((f : List LiveRun) × (staying (front ++ last ∷ []) ≡ f ++ last ∷ []))
staying_ends [] last = step (any_refuted (last ∷ []))
  where
    step : (b : Bool) → ((if b then staying [] else last ∷ []) ≡ []) ⊎ ((f : List LiveRun) × ((if b then staying [] else last ∷ []) ≡ f ++ last ∷ []))
    step true = inl refl
    step false = inr ([], refl)
staying_ends (r ∷ front) last = step (any_refuted (r ∷ (front ++ last ∷ []))) (staying_ends front last)
  where
    step : (b : Bool) → (staying (front ++ last ∷ []) ≡ []) ⊎ ((f : List LiveRun) × (staying (front ++ last ∷ []) ≡ f ++ last ∷ []))
        → ((if b then staying (front ++ last ∷ []) else r ∷ (front ++ last ∷ [])) ≡ []) ⊎ ((f : List LiveRun) × ((if b then staying (front ++ last ∷ []) else r ∷ (front ++ last ∷ [])) ≡ f ++ last ∷ []))
    step true h = h
    step false h = inr (r ∷ front, refl)

or_false : (b : Bool) → (b || false) ≡ true → b ≡ true
or_false true e = refl
or_false false e = e

-- where none stays, the last is refuted, and its line is there
passed_last : (front : List LiveRun) (last : LiveRun) → staying (front ++ last ∷ []) ≡ [] → Contains (passed (front ++ last ∷ [])) (passed_line last) × (is_refuted last.state.standing ≡ true)
passed_last [] last none = step (any_refuted (last ∷ [])) refl none
  where
    step : (b : Bool) → any_refuted (last ∷ []) ≡ b → (if b then staying [] else last ∷ []) ≡ [] → Contains (if b then passed_line last ∷ passed [] else []) (passed_line last) × (is_refuted last.state.standing ≡ true)
    step true e none = ((0, omega arith, refl), or_false (is_refuted last.state.standing) e)
    step false e none = absurd (let never : last ∷ [] ≡ [] = none in cc)
passed_last (r ∷ front) last none = step (passed_last front last) (any_refuted (r ∷ (front ++ last ∷ []))) none
  where
    step : (staying (front ++ last ∷ []) ≡ [] → Contains (passed (front ++ last ∷ [])) (passed_line last) × (is_refuted last.state.standing ≡ true)) → (b : Bool) → (if b then staying (front ++ last ∷ []) else r ∷ (front ++ last ∷ [])) ≡ [] → Contains (if b then passed_line r ∷ passed (front ++ last ∷ []) else []) (passed_line last) × (is_refuted last.state.standing ≡ true)
    step more true none = let rest = more none in (Contains-append_right (passed_line r ∷ []) (passed (front ++ last ∷ [])) (passed_line last) rest.0, rest.1)
    step more false none = absurd (let never : r ∷ (front ++ last ∷ []) ≡ [] = none in cc)

word_refuted : (s : Standing) → is_refuted s ≡ true → passed_word s ≡ WordRefuted
word_refuted s e = ap (λ (b : Bool). if b then WordRefuted else WordDropped) e

-- ---- stages

-- a race that goes on: its last live horizon is the one that was listed last, and with none live one is listed next
abbrev GoesOn : RaceInput → RaceState → Type 0
GoesOn input race = EndsListed input race × (race.live ≡ [] → (h : ℕ) × (listed input.rates race.next ≡ Some h))

abbrev IsFineEnd : RaceInput → EndView → Type 0
IsFineEnd input (Planned h steps ls) = Unit {0}
IsFineEnd input (Exhausted h ls) = LastRefuted input h ls
IsFineEnd input (Unfinished ls) = Unit {0}

abbrev IsFine : RaceInput → Stage → Type 0
IsFine input (On race) = GoesOn input race
IsFine input (Ended end) = IsFineEnd input end
IsFine input (TooLarge h) = Unit {0}

exhausted_parts : (input : RaceInput) (live : List LiveRun) (next : ℕ) (closed : List LineView) → is_exhausted input (record { live = live; next = next; closed = closed }) ≡ true → (live ≡ []) × (listed input.rates next ≡ None)
exhausted_parts input [] next closed e = (refl, step (listed input.rates next) e)
  where
    step : (o : Option ℕ) → not (is_some o) ≡ true → o ≡ None
    step None e = refl
    step (Some h) e = absurd (let never : false ≡ true = e in cc)
exhausted_parts input (r ∷ rs) next closed e = absurd (let never : false ≡ true = e in cc)

not_exhausted : (input : RaceInput) (live : List LiveRun) (next : ℕ) (closed : List LineView) → is_exhausted input (record { live = live; next = next; closed = closed }) ≡ false → live ≡ [] → (h : ℕ) × (listed input.rates next ≡ Some h)
not_exhausted input [] next closed e none = step (listed input.rates next) e
  where
    step : (o : Option ℕ) → not (is_some o) ≡ false → (h : ℕ) × (o ≡ Some h)
    step None e = absurd (let never : true ≡ false = e in cc)
    step (Some h) e = (h, refl)
not_exhausted input (r ∷ rs) next closed e none = absurd (let never : r ∷ rs ≡ [] = none in cc)

module _ (input : RaceInput) (race : RaceState) (h : HasLast input race.live race.next) where
  last_refuted : is_exhausted input (cleared race) ≡ true → LastRefuted input (last_started input (cleared race)) (lines (cleared race))
  unfolding cleared
  last_refuted e =
      let parts = exhausted_parts input (staying race.live) race.next (race.closed ++ passed race.live) e in
      let none : staying (h.front ++ h.last ∷ []) ≡ [] = subst (λ (rs : List LiveRun). staying rs ≡ []) h.is parts.0 in
      let there = passed_last h.front h.last none in
      let line = subst (λ (rs : List LiveRun). Contains (passed rs) (passed_line h.last)) (sym h.is) there.0 in
      let place : race.next - 1 ≡ h.place = omega (arith, h.before) in
      let horizon : horizon_at input.rates (race.next - 1) ≡ h.last.horizon = ap (horizon_at input.rates) place ∙ (up_to-Some input.rates.max (horizon_at input.rates h.place) h.last.horizon h.listed_at).0 in
      record {
        listed_last = (h.place, h.listed_at ∙ ap (λ (n : ℕ). Some n) (sym horizon), subst (λ (n : ℕ). listed input.rates n ≡ None) h.before parts.1);
        line = passed_line h.last;
        told = Contains-append_left (race.closed ++ passed race.live) (map open_line (staying race.live)) (passed_line h.last) (Contains-append_right race.closed (passed race.live) (passed_line h.last) line);
        horizon_is = sym horizon;
        refuted = word_refuted h.last.state.standing there.1;
      }

  cleared_on : is_exhausted input (cleared race) ≡ false → GoesOn input (cleared race)
  unfolding cleared
  cleared_on e = (
    elim (staying_ends h.front h.last) [
      | inl none ↦ inl (ap staying h.is ∙ none)
      | inr f ↦ inr (record { front = f.0; last = h.last; is = ap staying h.is ∙ f.1; place = h.place; before = h.before; listed_at = h.listed_at })
    ],
    not_exhausted input (staying race.live) race.next (race.closed ++ passed race.live) e,
  )

  settled_fine : (b d : Bool) → is_exhausted input (cleared race) ≡ b → (spent (cleared race) == input.budget) ≡ d → IsFine input (settled input (cleared race))
  settled_fine true d e f = subst (IsFine input) (sym (settled-exhausted input (cleared race) e)) (last_refuted e)
  settled_fine false true e f = subst (IsFine input) (sym (settled-else input (cleared race) true e f)) tt
  settled_fine false false e f = subst (IsFine input) (sym (settled-else input (cleared race) false e f)) (cleared_on e)

  judged_fine : (o : Option LiveRun) → first_found race.live ≡ o → IsFine input (judged input race)
  judged_fine (Some r) e = subst (IsFine input) (sym (judged-plan input race r e)) tt
  judged_fine None e = subst (IsFine input) (sym (judged-none input race e)) (settled_fine (is_exhausted input (cleared race)) (spent (cleared race) == input.budget) refl refl)

filled_ends : (input : RaceInput) (race : RaceState) → EndsListed input race → EndsListed input (filled input race)
unfolding filled
filled_ends input race h = fill_ends input (input.rates.width - length race.live) race h

filled_none : (input : RaceInput) (race : RaceState) → (filled input race).live ≡ [] → filled input race ≡ race
unfolding filled
filled_none input race none = fill_none input (input.rates.width - length race.live) race none

none_listed : (input : RaceInput) (race : RaceState) → race.live ≡ [] → too_large input race ≡ listed input.rates race.next
none_listed input race none = ap (λ (rs : List LiveRun). elim rs as (λ _. Option ℕ) [ [] ↦ listed input.rates race.next | _ ∷ _ ↦ None ]) none

-- once a round is filled some horizon is live
some_live : (input : RaceInput) (race : RaceState) → GoesOn input race → too_large input (filled input race) ≡ None → (advanced input (filled input race)).live ≡ [] → ⊥
some_live input race on small none =
    let empty = advanced_none input (filled input race) none in
    let same = filled_none input race empty in
    let next = on.1 (sym (ap (λ (r : RaceState). r.live) same) ∙ empty) in
    let never : None ≡ Some next.0 = sym small ∙ (none_listed input (filled input race) empty ∙ (ap (λ (r : RaceState). listed input.rates r.next) same ∙ next.1)) in
    cc

round_fine : (input : RaceInput) (race : RaceState) → GoesOn input race → IsFine input (round input race)
unfolding round
round_fine input race on = step (too_large input (filled input race)) refl
  where
    step : (o : Option ℕ) → too_large input (filled input race) ≡ o → IsFine input (elim o [ Some h ↦ TooLarge h | None ↦ judged input (advanced input (filled input race)) ])
    step (Some h) e = tt
    step None e = elim (advanced_ends input (filled input race) (filled_ends input race on.0)) [
      | inl none ↦ absurd (some_live input race on e none)
      | inr last ↦ judged_fine input (advanced input (filled input race)) last (first_found (advanced input (filled input race)).live) refl
    ]

next_fine : (input : RaceInput) (s : Stage) → IsFine input s → IsFine input (next_stage input s)
next_fine input (On race) on = round_fine input race on
next_fine input (Ended end) fine = fine
next_fine input (TooLarge h) fine = fine

after_fine : (input : RaceInput) (n : ℕ) → IsFine input (after_rounds input n)
unfolding after_rounds
after_fine input zero = (inl refl, λ none. (horizon_at input.rates 0, listed-first input.rates))
after_fine input (suc n) = next_fine input (after_rounds input n) (after_fine input n)

pub last_is_refuted : (input : RaceInput) (h : ℕ) (ls : List LineView) → race_of input ≡ Ended (Exhausted h ls) → LastRefuted input h ls
last_is_refuted input h ls ended = subst (IsFine input) ended (after_fine input (input.budget + 1))
