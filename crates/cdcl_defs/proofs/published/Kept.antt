-- What every state of a solver keeps, from one event to the next.
use Rattle.std.proofs.Common.{arith, ◌≡◌, ◌==◌, ℕ, zero, suc, ◌-◌, ◌/◌, ◌<◌, List, [], ◌∷◌, ◌++◌, map, length, reverse, Bool, true, false, not, ◌&&◌, refl, sym, ap, ◌∙◌, subst, if◌then◌else◌, Option, Some, None, IsSome, ◌⊎◌, inl, inr, length-append, append_assoc}
use Rattle.std.specs.List.{slice_get, AllByRecursion}
use Rattle.std.proofs.lemmas.List.Elements.{recursion_from_All}
use Rattle.std.proofs.lemmas.Bool.Decides.{nat_tests}
use Rattle.clause_base.specs.Literal.{opposite}
use Rattle.clause_base.specs.Clause.{IsRising, HasVariablesBelow}
use Rattle.clause_base.specs.Formula.{Cnf}
use Rattle.clause_base.specs.declared.log.Entry.{Entry}
use Rattle.clause_base.specs.declared.log.Entry.TheVariants.{Learn, Drop}
use Rattle.clause_base.specs.Derivation.{clauses_of, clause_kept, leads_to_conflict, EndsEmpty}
use Rattle.clause_base.specs.Choice.{Known, IsOpenChoice}
use Rattle.cdcl_defs.specs.declared.trail.Assigned.{Assigned}
use Rattle.cdcl_defs.specs.declared.standing.Standing.{Standing}
use Rattle.cdcl_defs.specs.declared.standing.Standing.TheVariants.{Going, Found, Refuted}
use Rattle.cdcl_defs.specs.declared.event.Event.{Event}
use Rattle.cdcl_defs.specs.declared.event.Event.TheVariants.{Conflict, Force, Decide, Finish}
use Rattle.cdcl_defs.specs.State.{State, clause_at, is_on, value_of, values_of}
use Rattle.cdcl_defs.specs.Open.{Opens}
use Rattle.cdcl_defs.specs.Pending.{open_ones, first_pending}
use Rattle.cdcl_defs.specs.Event.{asked, chosen_event}
use Rattle.cdcl_defs.specs.Learn.{learned, Learned, backtracked, backjump_level}
use Rattle.cdcl_defs.specs.Reduce.{candidates, first_half}
use Rattle.cdcl_defs.specs.Run.{apply, with_learned, after_conflict, trail_after, dropped_after, is_restart, is_going, next}
use Rattle.cdcl_defs.specs.Trail.{AllFalse, IsEntry, IsTrail}
use Rattle.cdcl_defs.proofs.published.Members.{member_of, at_clause}
use Rattle.cdcl_defs.proofs.published.WalkLaw.{learned_derived}
use Rattle.cdcl_defs.proofs.published.Pending.{Asks, IsAsking, asks}
use Rattle.cdcl_defs.proofs.published.Measure.{chosen_open, length-values_from}
use Rattle.cdcl_defs.proofs.published.Trails.{is_on-reverse, has_forced-reverse, trail_as, trail_push, backtracked_trail}
use Rattle.cdcl_defs.specs.Sound.{IsLawful, IsSound}
use Rattle.cdcl_defs.proofs.published.Lawful.{HasMembersBelow, IsGood, learned_good, good_clause, good_below}
use Rattle.cdcl_defs.proofs.published.Logs.{names_learn, logged_named, logged_names, logged_learn, get_last}
use Rattle.cdcl_defs.proofs.Drops.{Stands, IsDroppable, AreDroppable, drop_each, dropped_are, none_droppable}
use Rattle.cdcl_defs.proofs.Values.{unvalued, valued_from, all_true}
use Rattle.cdcl_defs.proofs.Models.{solution}

pub members_below : (n : ℕ) (clauses : List (List ℕ)) → AllByRecursion (IsLawful n) clauses → AllByRecursion (HasMembersBelow n) clauses
members_below n [] a = tt
members_below n (c ∷ clauses) a = (λ m e. member_of (λ l. l / 2 < n) c m (recursion_from_All (λ l. l / 2 < n) c a.0.below) e, members_below n clauses a.1)

pub all_rising : (n : ℕ) (clauses : List (List ℕ)) → AllByRecursion (IsLawful n) clauses → AllByRecursion IsRising clauses
all_rising n [] a = tt
all_rising n (c ∷ clauses) a = (a.0.clause.rising, all_rising n clauses a.1)

rising_at : (clauses : List (List ℕ)) (k : ℕ) (c : List ℕ) → AllByRecursion IsRising clauses → slice_get clauses k ≡ Some c → IsRising c
rising_at [] k c r e = cc
rising_at (d ∷ clauses) zero c r e = let s : d ≡ c = cc in subst IsRising s r.0
rising_at (d ∷ clauses) (suc k) c r e = rising_at clauses k c r.1 e

lawful_push : (n : ℕ) (clauses : List (List ℕ)) (c : List ℕ) → AllByRecursion (IsLawful n) clauses → IsLawful n c → AllByRecursion (IsLawful n) (clauses ++ c ∷ [])
lawful_push n [] c a l = (l, tt)
lawful_push n (k ∷ clauses) c a l = (a.0, lawful_push n clauses c a.1 l)

-- a clause that asks in a sound state is named by the log
pub asking_named : (f : Cnf) (s : State) (i : ℕ) → IsSound f s → IsAsking s i → clause_kept f.clauses s.log i ≡ Some (clause_at s.clauses i)
asking_named f s i o a = logged_named f s.clauses s.kept s.log i o.logged a.in_range a.kept

-- what the conflict in a clause teaches
pub conflict_good : (f : Cnf) (s : State) (i : ℕ) → IsSound f s → IsAsking s i → AllFalse s.trail (clause_at s.clauses i) → IsGood f.variables s.trail (learned s.clauses s.trail i).clause
conflict_good f s i o a n =
    learned_good f.variables (clause_kept f.clauses s.log) s.clauses (logged_names f s.clauses s.kept s.log o.logged) s.trail i o.trail (members_below f.variables s.clauses o.lawful)
    (at_clause IsRising s.clauses i tt (all_rising f.variables s.clauses o.lawful)) n

-- what is learned is a clause that is derived
pub record IsLearnt (f : Cnf) (s : State) (i : ℕ) : Type 0 where
  pub lawful : IsLawful f.variables (learned s.clauses s.trail i).clause
  pub derived : leads_to_conflict (clause_kept f.clauses s.log) (learned s.clauses s.trail i).clause (learned s.clauses s.trail i).hints ≡ true

pub learnt : (f : Cnf) (s : State) (i : ℕ) → IsSound f s → IsAsking s i → AllFalse s.trail (clause_at s.clauses i) → IsLearnt f s i
learnt f s i o a n =
    let g = conflict_good f s i o a n in
    let names = logged_names f s.clauses s.kept s.log o.logged in
    record {
      lawful = record {
        clause = good_clause f.variables (clause_kept f.clauses s.log) s.trail (learned s.clauses s.trail i).clause o.trail g;
        below = good_below f.variables s.trail (learned s.clauses s.trail i).clause g;
      };
      derived = learned_derived (clause_kept f.clauses s.log) s.clauses names s.trail i (clause_at s.clauses i)
          (λ r k e. rising_at s.clauses r k (all_rising f.variables s.clauses o.lawful) (names r k e)) o.trail (asking_named f s i o a) (λ m e. is_on-reverse s.trail (opposite m) ∙ n m e);
    }

not_found : (b : Bool) → (if b then Refuted else Going) ≡ Found → ⊥
not_found true e = cc
not_found false e = cc

trail_kept : (named : ℕ → Option (List ℕ)) (trail : List Assigned) (level : ℕ) (b : Bool) → IsTrail named (reverse trail) → IsTrail named (reverse (if b then trail else backtracked level trail))
trail_kept named trail level true t = t
trail_kept named trail level false t = backtracked_trail named level trail t

-- after a conflict: the clause is learned, and then some are dropped
conflict_stands : (f : Cnf) (s : State) (new : Learned) (ns : List ℕ) → IsSound f s → HasVariablesBelow f.variables new.clause → leads_to_conflict (clause_kept f.clauses s.log) new.clause new.hints ≡ true → AreDroppable s new.clause ns → Stands f (after_conflict s new ns).clauses (after_conflict s new ns).kept (after_conflict s new ns).log (reverse (after_conflict s new ns).trail)
conflict_stands f s new ns o v l are =
    let log = s.log ++ Learn new.clause new.hints ∷ [] in
    let t = trail_after s new.clause in
    let named = clause_kept f.clauses log in
    let older = trail_as (clause_kept f.clauses s.log) named (reverse s.trail) (λ r k e n. names_learn f.clauses s.log new.clause new.hints r k n) o.trail in
    let begun : Stands f (s.clauses ++ new.clause ∷ []) (s.kept ++ true ∷ []) log (reverse t) = record {
      logged = logged_learn f s.clauses s.kept s.log new.clause new.hints o.logged v l;
      trail = trail_kept named s.trail (if is_restart s then 0 else backjump_level s.trail new.clause) (length new.clause == 0) older;
    } in
    let ended = drop_each f (s.clauses ++ new.clause ∷ []) (s.kept ++ true ∷ []) log (reverse t) ns are.rising (λ n e. turn n (are.each n e)) begun in
    subst (λ (g : List Entry). Stands f (s.clauses ++ new.clause ∷ []) (after_conflict s new ns).kept g (reverse t)) (append_assoc s.log (Learn new.clause new.hints ∷ []) (map Drop ns)) ended
  where
    turn : (n : ℕ) → IsDroppable s.given (length (s.clauses ++ new.clause ∷ [])) (s.kept ++ true ∷ []) (trail_after s new.clause) n → IsDroppable (length f.clauses) (length (s.clauses ++ new.clause ∷ [])) (s.kept ++ true ∷ []) (reverse (trail_after s new.clause)) n
    turn n d = record { low = omega (arith, d.low, o.given); high = d.high; kept = d.kept; idle = has_forced-reverse (trail_after s new.clause) n ∙ d.idle }

count_drops : (ns : List ℕ) → clauses_of (map Drop ns) ≡ []
count_drops [] = refl
count_drops (n ∷ ns) = count_drops ns

learned_after : (log : List Entry) (c h : List ℕ) (ns : List ℕ) → clauses_of (log ++ Learn c h ∷ map Drop ns) ≡ clauses_of log ++ c ∷ []
learned_after [] c h ns = ap (λ (t : List (List ℕ)). c ∷ t) (count_drops ns)
learned_after (Learn k g ∷ log) c h ns = ap (λ (t : List (List ℕ)). k ∷ t) (learned_after log c h ns)
learned_after (Drop n ∷ log) c h ns = learned_after log c h ns

-- where it is refuted nothing is dropped, and the log ends with the empty clause
ends_by : (log : List Entry) (c h ns : List ℕ) (b : Bool) → (length c == 0) ≡ b → (b ≡ true → ns ≡ []) → (if b then Refuted else Going) ≡ Refuted → EndsEmpty (log ++ Learn c h ∷ map Drop ns)
ends_by log c h ns false e d g = cc
ends_by log (l ∷ c) h ns true e d g = let z : length (l ∷ c) ≡ 0 = grind (arith, nat_tests) in absurd (omega (arith, z))
ends_by log [] h ns true e d g =
    let n : length (log ++ Learn [] h ∷ []) - 1 ≡ length log = omega (arith, length-append log (Learn [] h ∷ [])) in
    rw (d refl) (rw (n, get_last log (Learn [] h)) refl)

pub sound_after_conflict : (f : Cnf) (s : State) (i : ℕ) (ns : List ℕ) → IsSound f s → IsLearnt f s i → AreDroppable s (learned s.clauses s.trail i).clause ns → ((length (learned s.clauses s.trail i).clause == 0) ≡ true → ns ≡ []) → IsSound f (after_conflict s (learned s.clauses s.trail i) ns)
sound_after_conflict f s i ns o l are empty =
    let new = learned s.clauses s.trail i in
    let c = new.clause in
    let stands = conflict_stands f s new ns o l.lawful.below l.derived are in
    record {
      many = o.many;
      given = o.given;
      logged = stands.logged;
      lawful = lawful_push f.variables s.clauses c o.lawful l.lawful;
      trail = stands.trail;
      counted = omega (arith, o.counted, ap (λ (cs : List (List ℕ)). length cs) (learned_after s.log c new.hints ns), length-append (clauses_of s.log) (c ∷ []));
      found = λ h. absurd (not_found (length c == 0) h);
      solved = λ h. absurd (not_found (length c == 0) h);
      refuted = λ h. ends_by s.log c new.hints ns (length c == 0) refl empty h;
    }

none_by : (b r : Bool) (ns : List ℕ) → b ≡ true → (if not b && r then ns else []) ≡ []
none_by true r ns e = refl
none_by false r ns e = cc

pub sound_conflict : (f : Cnf) (s : State) (i : ℕ) → IsSound f s → IsLearnt f s i → IsSound f (with_learned s (learned s.clauses s.trail i))
sound_conflict f s i o l =
    let c = (learned s.clauses s.trail i).clause in
    sound_after_conflict f s i (dropped_after s c) o l (dropped_are s c) (λ e. none_by (length c == 0) (is_restart s) (first_half (candidates s.given (s.clauses ++ c ∷ []) (s.kept ++ true ∷ []) (trail_after s c))) e)

-- before anything is dropped
pub sound_undropped : (f : Cnf) (s : State) (i : ℕ) → IsSound f s → IsLearnt f s i → IsSound f (after_conflict s (learned s.clauses s.trail i) [])
sound_undropped f s i o l = sound_after_conflict f s i [] o l (none_droppable s (learned s.clauses s.trail i).clause) (λ e. refl)

pub no_going : (x : Standing) → is_going x ≡ true → x ≡ Going
no_going Going e = refl
no_going Found e = cc
no_going Refuted e = cc

-- one more entry keeps what is known
pub sound_push : (f : Cnf) (s : State) (a : Assigned) → IsSound f s → is_going s.standing ≡ true → IsEntry (clause_kept f.clauses s.log) a (reverse s.trail) → IsSound f (record s { trail = s.trail ++ a ∷ [] })
sound_push f s a o g e =
    let h = no_going s.standing g in
    record {
      many = o.many;
      given = o.given;
      logged = o.logged;
      lawful = o.lawful;
      trail = trail_push (clause_kept f.clauses s.log) s.trail a o.trail e;
      counted = o.counted;
      found = λ k. let z : Going ≡ Found = sym h ∙ k in cc;
      solved = λ k. let z : Going ≡ Found = sym h ∙ k in absurd (let y : ⊥ = cc in y);
      refuted = λ k. let z : Going ≡ Refuted = sym h ∙ k in cc;
    }

sound_asked : (f : Cnf) (s : State) (e : Event) → IsSound f s → is_going s.standing ≡ true → Asks s e → IsSound f (apply s e)
sound_asked f s (Conflict i) o g a = sound_conflict f s i o (learnt f s i o a.0 a.1)
sound_asked f s (Force l i) o g a =
    let h = a.1 in
    sound_push f s (record { literal = l; reason = Some i }) o g (record {
      off = is_on-reverse s.trail l ∙ h.off;
      free = is_on-reverse s.trail (opposite l) ∙ h.free;
      reason = record { clause = clause_at s.clauses i; is_named = asking_named f s i o a.0; has = h.has; others = λ m e. turn m (h.others m e) };
    })
  where
    turn : (m : ℕ) → (m ≡ l) ⊎ (is_on s.trail (opposite m) ≡ true) → (m ≡ l) ⊎ (is_on (reverse s.trail) (opposite m) ≡ true)
    turn m (inl e) = inl e
    turn m (inr e) = inr (is_on-reverse s.trail (opposite m) ∙ e)
sound_asked f s (Decide l) o g a = absurd a
sound_asked f s Finish o g a = absurd a

sound_chosen : (f : Cnf) (s : State) (c : Option ℕ) → IsSound f s → is_going s.standing ≡ true → first_pending s ≡ None → IsOpenChoice (values_of s.variables s.trail) c → IsSound f (apply s (chosen_event c))
sound_chosen f s (Some l) o g a c =
    let u = unvalued s.trail l (chosen_open s (Some l) c).1 in
    sound_push f s (record { literal = l; reason = None }) o g (record { off = is_on-reverse s.trail l ∙ u.0; free = is_on-reverse s.trail (opposite l) ∙ u.1; reason = tt })
sound_chosen f s None o g a c =
    let v : (u : ℕ) → u < f.variables → IsSome (value_of s.trail u) = λ u l. valued_from s.trail 0 s.variables (recursion_from_All (λ x. IsSome x) (values_of s.variables s.trail) c) u (omega arith) (omega (arith, l, o.many)) in
    let t = all_true f s o v a in
    let solved = solution f s o v t in
    let refuted : Found ≡ Refuted → EndsEmpty s.log = λ h. cc in
    assumption (t, solved, refuted)

sound_by : (f : Cnf) (choose : Known → Option ℕ) (s : State) (o : Option ℕ) → first_pending s ≡ o → IsSound f s → is_going s.standing ≡ true → IsOpenChoice (values_of s.variables s.trail) (choose (values_of s.variables s.trail)) → IsSound f (apply s (elim o [ Some number ↦ asked number (open_ones (is_on s.trail) (clause_at s.clauses number)) | None ↦ chosen_event (choose (values_of s.variables s.trail)) ]))
sound_by f choose s (Some n) a o g c = sound_asked f s _ o g (asks s n a)
sound_by f choose s None a o g c = sound_chosen f s (choose (values_of s.variables s.trail)) o g a c

-- each turn keeps it
pub sound_next : (f : Cnf) (choose : Known → Option ℕ) (s : State) → Opens f.variables choose → IsSound f s → is_going s.standing ≡ true → IsSound f (next choose s)
sound_next f choose s c o g = sound_by f choose s (first_pending s) refl o g (c (values_of s.variables s.trail) (length-values_from s.trail 0 s.variables ∙ o.many))
