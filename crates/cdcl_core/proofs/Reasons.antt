-- In a sound state each entry that was forced has its reason, as the walk asks for it.
use Rattle.std.proofs.Common.{◌≡◌, ◌==◌, ℕ, List, [], ◌∷◌, ◌++◌, reverse, Bool, true, false, if◌then◌else◌, refl, sym, ap, ◌∙◌, subst, Option, Some, None, unwrap_or, ◌⊎◌, inl, inr}
use Rattle.std.specs.List.{AllByRecursion, slice_get}
use Rattle.std.specs.Prelude.{MatchOption}
use Rattle.std.proofs.lemmas.List.{reverse-append}
use Rattle.std.proofs.lemmas.List.Elements.{All-from_recursion}
use Rattle.clause_base.specs.Formula.{Cnf}
use Rattle.clause_base.specs.Literal.{opposite}
use Rattle.clause_base.specs.Clause.{has_literal}
use Rattle.clause_base.specs.declared.log.Entry.{Entry}
use Rattle.clause_base.specs.Derivation.{clause_kept, clauses_of, is_kept_after}
use Rattle.cdcl_defs.specs.declared.trail.Assigned.{Assigned}
use Rattle.cdcl_defs.specs.State.{State, clause_at, is_kept, is_on}
use Rattle.cdcl_defs.specs.Trail.{HasReason, IsTrail}
use Rattle.cdcl_defs.proofs.published.Tests.{or_true}
use Rattle.cdcl_defs.proofs.published.Members.{is_in, named_below}
use Rattle.cdcl_defs.proofs.published.WalkLaw.{Names}
use Rattle.cdcl_defs.proofs.published.Trails.{is_on-reverse}
use Rattle.cdcl_defs.specs.Sound.{IsLogged, IsSound}
use Rattle.cdcl_defs.proofs.published.Logs.{logged_names}
use Rattle.cdcl_tables.specs.Stored.{StoreView, CanRead, CanReadKept}
use Rattle.conflict_analysis.specs.Walk.{AreReasonsRead, IsForcedBy, IsReasonRead, IsReasoned}
use Rattle.propagation.specs.Pending.{HasOwn}

forced_by : (named : ℕ → Option (List ℕ)) (clauses : List (List ℕ)) → Names named clauses → (trail older : List Assigned) (l : ℕ) (o : Option ℕ) → ((m : ℕ) → is_on older m ≡ true → is_on trail m ≡ true) → HasReason named older l o → IsForcedBy clauses trail l o
forced_by named clauses names trail older l None w h = tt
forced_by named clauses names trail older l (Some r) w h =
    let is = names r h.clause h.is_named in
    let same : clause_at clauses r ≡ h.clause = ap (λ (o : Option (List ℕ)). unwrap_or o []) is in
    (named_below clauses r h.clause is, λ m e. widen m (h.others m (sym (ap (λ (c : List ℕ). is_in c m) same) ∙ e)))
  where
    widen : (m : ℕ) → (m ≡ l) ⊎ (is_on older (opposite m) ≡ true) → (m ≡ l) ⊎ (is_on trail (opposite m) ≡ true)
    widen m (inl s) = inl s
    widen m (inr s) = inr (w (opposite m) s)

all_forced : (named : ℕ → Option (List ℕ)) (clauses : List (List ℕ)) → Names named clauses → (trail es : List Assigned) → ((m : ℕ) → is_on es m ≡ true → is_on trail m ≡ true) → IsTrail named es → AllByRecursion (λ a. IsForcedBy clauses trail a.literal a.reason) es
all_forced named clauses names trail [] w t = tt
all_forced named clauses names trail (a ∷ es) w t =
    let v : (m : ℕ) → is_on es m ≡ true → is_on trail m ≡ true = λ m e. w m (rw e (or_true (a.literal == m))) in
    (forced_by named clauses names trail es a.literal a.reason v t.0.reason, all_forced named clauses names trail es v t.1)

split_all : (P : Assigned → Type 0) (xs ys : List Assigned) → AllByRecursion P (xs ++ ys) → AllByRecursion P xs × AllByRecursion P ys
split_all P [] ys h = (tt, h)
split_all P (x ∷ xs) ys h = let s = split_all P xs ys h.1 in ((h.0, s.0), s.1)

all_forwards : (P : Assigned → Type 0) (xs : List Assigned) → AllByRecursion P (reverse xs) → AllByRecursion P xs
all_forwards P [] h = tt
all_forwards P (x ∷ xs) h =
    let s = split_all P (reverse xs) (x ∷ []) (subst (AllByRecursion P) (reverse-append (x ∷ []) xs) h) in
    (s.1.0, all_forwards P xs s.0)

pub sound_reasoned : (f : Cnf) (s : State) → IsSound f s → IsReasoned s.clauses s.trail
sound_reasoned f s o =
    All-from_recursion (λ a. IsForcedBy s.clauses s.trail a.literal a.reason) s.trail (all_forwards (λ a. IsForcedBy s.clauses s.trail a.literal a.reason) s.trail
    (all_forced (clause_kept f.clauses s.log) s.clauses (logged_names f s.clauses s.kept s.log o.logged) s.trail (reverse s.trail) (λ l e. sym (is_on-reverse s.trail l) ∙ e) o.trail))

-- where an entry has its reason, the clause that forced it has its literal
own_by : (named : ℕ → Option (List ℕ)) (clauses : List (List ℕ)) → Names named clauses → (older : List Assigned) (l : ℕ) (o : Option ℕ)
    → HasReason named older l o → MatchOption o (Unit {0}) (λ n. has_literal (clause_at clauses n) l ≡ true)
own_by named clauses names older l None h = tt
own_by named clauses names older l (Some r) h =
    let same : clause_at clauses r ≡ h.clause = ap (λ (o : Option (List ℕ)). unwrap_or o []) (names r h.clause h.is_named) in
    ap (λ (c : List ℕ). has_literal c l) same ∙ h.has

-- so in a sound state with an entry that is the last one
pub sound_own : (f : Cnf) (s : State) (trail : List Assigned) (a : Assigned) → s.trail ≡ trail ++ a ∷ [] → IsSound f s → HasOwn s.clauses a
sound_own f s trail a e o =
    let t : IsTrail (clause_kept f.clauses s.log) (a ∷ reverse trail) = subst (IsTrail (clause_kept f.clauses s.log)) (ap (λ (es : List Assigned). reverse es) e ∙ reverse-append trail (a ∷ [])) o.trail in
    own_by (clause_kept f.clauses s.log) s.clauses (logged_names f s.clauses s.kept s.log o.logged) (reverse trail) a.literal a.reason t.0.reason

-- a number that names a clause by the log is that of a kept one
named_kept : (f : Cnf) (clauses : List (List ℕ)) (kept : List Bool) (log : List Entry) → IsLogged f clauses kept log → (r : ℕ) (c : List ℕ)
    → clause_kept f.clauses log r ≡ Some c → is_kept kept r ≡ true
named_kept f clauses kept log l r c h = by (is_kept_after log r) refl
  where
    by : (b : Bool) → is_kept_after log r ≡ b → is_kept kept r ≡ true
    by true e = l.kept_are r (named_below clauses r c (logged_names f clauses kept log l r c h)) ∙ e
    by false e =
        let z : None ≡ Some c = ap (λ (b : Bool). if b then slice_get (f.clauses ++ clauses_of log) r else None) (sym e) ∙ h in
        absurd (let w : ⊥ = cc in w)

read_by : (named : ℕ → Option (List ℕ)) (store : StoreView) → ((r : ℕ) (c : List ℕ) → named r ≡ Some c → CanRead store r) → (older : List Assigned) (l : ℕ) (o : Option ℕ)
    → HasReason named older l o → IsReasonRead store o
read_by named store can older l None h = tt
read_by named store can older l (Some r) h = can r h.clause h.is_named

all_read : (named : ℕ → Option (List ℕ)) (store : StoreView) → ((r : ℕ) (c : List ℕ) → named r ≡ Some c → CanRead store r) → (es : List Assigned) → IsTrail named es
    → AllByRecursion (λ a. IsReasonRead store a.reason) es
all_read named store can [] t = tt
all_read named store can (a ∷ es) t = (read_by named store can es a.literal a.reason t.0.reason, all_read named store can es t.1)

-- where each kept clause can be read, the reasons can
pub sound_read : (f : Cnf) (s : State) (store : StoreView) → IsSound f s → CanReadKept s.kept store → AreReasonsRead store s.trail
sound_read f s store o read =
    All-from_recursion (λ a. IsReasonRead store a.reason) s.trail (all_forwards (λ a. IsReasonRead store a.reason) s.trail
    (all_read (clause_kept f.clauses s.log) store (λ r c h. read r (named_kept f s.clauses s.kept s.log o.logged r c h)) (reverse s.trail) o.trail))
