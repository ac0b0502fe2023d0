-- Two states with the same members behave alike: the same literals hold in them, the same calls can run and
-- lead to states with the same members, and each list of calls comes to the same.
use Rattle.std.proofs.Common.{◌≡◌, ℕ, ◌+◌, Bool, true, false, cond, List, [], ◌∷◌, ◌++◌, length, get_or, drop, ◌<◌, refl, ap, ◌↔◌, ◌∙◌, sym, Option, Some, None}
use Rattle.std.specs.Prelude.{◌&&◌, ◌||◌, not, slice_get}
use Rattle.std.specs.List.{list_all, filter, flat_map}
use Rattle.std.proofs.lemmas.List.{at_drop_more, append-nil}
use Rattle.std.proofs.lemmas.List.Folds.{list_any-append}
use Rattle.std.proofs.lemmas.Bool.{false≢true}
use Rattle.pd_model.specs.declared.atoms.Atom.{Atom}
use Rattle.pd_model.specs.declared.conds.Cond.{Cond}
use Rattle.pd_model.specs.declared.conds.Cond.TheVariants.{Has, Same}
use Rattle.pd_model.specs.declared.effects.Effect.{Effect}
use Rattle.pd_model.specs.declared.schemas.Schema.{Schema}
use Rattle.pd_model.specs.declared.calls.Call.{Call}
use Rattle.pd_model.specs.declared.calls.Verdict.{Verdict}
use Rattle.pd_model.specs.declared.calls.Verdict.TheVariants.{Reaches, Blocked, Short}
use Rattle.pd_model.specs.declared.parts.Parts.{Parts}
use Rattle.pd_model.specs.State.{same_atom, is_in, SameState, SameOutcome}
use Rattle.pd_model.specs.Instance.{instance, agrees, holds, all_hold}
use Rattle.pd_model.specs.Fits.{tuples, is_call}
use Rattle.pd_model.specs.Exec.{active, of_sign, gains, losses, next, exec_schema, exec}
use Rattle.pd_model.specs.Plan.{verdict_from, verdict, exec_all, meets_goal, IsPlan}
use Rattle.pd_model.specs.own.Follows.{Follows}
use Rattle.pd_model.proofs.published.States.{is_in-filter}

pub same_holds : (s t : List Atom) → SameState s t → (objects : List ℕ) (c : Cond) → holds s objects c ≡ holds t objects c
same_holds s t same objects (Has atom want) = λ i. agrees want (same (instance objects atom) i)
same_holds s t same objects (Same left right want) = refl

pub same_all_hold : (s t : List Atom) → SameState s t → (objects : List ℕ) (conds : List Cond) → all_hold s objects conds ≡ all_hold t objects conds
same_all_hold s t same objects conds = λ i. list_all (λ c. same_holds s t same objects c i) conds

pub same_active : (p : Parts) (s t : List Atom) → SameState s t → (objects : List ℕ) (e : Effect) → active p s objects e ≡ active p t objects e
same_active p s t same objects e =
    λ i. flat_map (λ more. cond (same_all_hold s t same (objects ++ more) e.cond i) (instance (objects ++ more) e.atom ∷ []) []) (tuples p e.over)

pub same_gains : (p : Parts) (s t : List Atom) → SameState s t → (objects : List ℕ) (effects : List Effect) → gains p s objects effects ≡ gains p t objects effects
same_gains p s t same objects effects = λ i. flat_map (λ e. same_active p s t same objects e i) (of_sign true effects)

pub same_losses : (p : Parts) (s t : List Atom) → SameState s t → (objects : List ℕ) (effects : List Effect) → losses p s objects effects ≡ losses p t objects effects
same_losses p s t same objects effects =
    λ i. filter (λ a. not (is_in a (same_gains p s t same objects effects i))) (flat_map (λ e. same_active p s t same objects e i) (of_sign false effects))

members_of_next : (p : Parts) (s : List Atom) (objects : List ℕ) (effects : List Effect) (a : Atom)
    → is_in a (next p s objects effects) ≡ ((not (is_in a (losses p s objects effects)) && is_in a s) || is_in a (gains p s objects effects))
members_of_next p s objects effects a =
    let without : Atom → Bool = λ b. not (is_in b (losses p s objects effects)) in
    list_any-append (same_atom a) (filter without s) (gains p s objects effects)
    ∙ (λ i. is_in-filter a without s i || is_in a (gains p s objects effects))

pub same_next : (p : Parts) (s t : List Atom) → SameState s t → (objects : List ℕ) (effects : List Effect) → SameState (next p s objects effects) (next p t objects effects)
same_next p s t same objects effects a =
    members_of_next p s objects effects a
    ∙ (λ i. (not (is_in a (same_losses p s t same objects effects i)) && same a i) || is_in a (same_gains p s t same objects effects i))
    ∙ sym (members_of_next p t objects effects a)

by_can : (p : Parts) (s t : List Atom) → SameState s t → (objects : List ℕ) (schema : Schema) (b : Bool)
    → SameOutcome (cond b (Some (next p s objects schema.effects)) None) (cond b (Some (next p t objects schema.effects)) None)
by_can p s t same objects schema true = same_next p s t same objects schema.effects
by_can p s t same objects schema false = tt

same_schema : (p : Parts) (s t : List Atom) → SameState s t → (objects : List ℕ) (found : Option Schema) → SameOutcome (exec_schema p s objects found) (exec_schema p t objects found)
same_schema p s t same objects None = tt
same_schema p s t same objects (Some schema) =
    rw (same_all_hold s t same objects schema.pre) (by_can p s t same objects schema (all_hold t objects schema.pre))

by_call : (b : Bool) (o q : Option (List Atom)) → SameOutcome o q → SameOutcome (cond b o None) (cond b q None)
by_call true o q same = same
by_call false o q same = tt

pub same_exec : (p : Parts) (s t : List Atom) → SameState s t → (call : Call) → SameOutcome (exec p s call) (exec p t call)
same_exec p s t same call =
    let schema = slice_get p.schemas call.schema in
    by_call (is_call p call) (exec_schema p s call.objects schema) (exec_schema p t call.objects schema) (same_schema p s t same call.objects schema)

-- what the rest of the calls come to, by what the next of them gives
abbrev pub after : Parts → ℕ → Option (List Atom) → List Call → Verdict
after p index None calls = Blocked index
after p index (Some t) calls = verdict_from p (index + 1) t calls

pub verdict_from-after : (p : Parts) (index : ℕ) (s : List Atom) (call : Call) (calls : List Call) → verdict_from p index s (call ∷ calls) ≡ after p index (exec p s call) calls
verdict_from-after p index s call calls = by (exec p s call)
  where
    by : (o : Option (List Atom)) → elim o as (λ _. Verdict) [ None ↦ Blocked index | Some t ↦ verdict_from p (index + 1) t calls ] ≡ after p index o calls
    by None = refl
    by (Some t) = refl

same_after : (p : Parts) (calls : List Call) (index : ℕ) (o q : Option (List Atom)) → SameOutcome o q
    → ((s t : List Atom) → SameState s t → verdict_from p (index + 1) s calls ≡ verdict_from p (index + 1) t calls)
    → after p index o calls ≡ after p index q calls
same_after p calls index None None same rest = refl
same_after p calls index None (Some t) same rest = absurd same
same_after p calls index (Some s) None same rest = absurd same
same_after p calls index (Some s) (Some t) same rest = rest s t same

pub same_verdict : (p : Parts) (calls : List Call) (index : ℕ) (s t : List Atom) → SameState s t → verdict_from p index s calls ≡ verdict_from p index t calls
same_verdict p [] index s t same = λ i. cond (same_all_hold s t same [] p.goal i) Reaches Short
same_verdict p (call ∷ calls) index s t same =
    verdict_from-after p index s call calls
    ∙ same_after p calls index (exec p s call) (exec p t call) (same_exec p s t same call) (same_verdict p calls (index + 1))
    ∙ sym (verdict_from-after p index t call calls)

-- a step that could run, and one that could not
pub goes_on : (p : Parts) (index : ℕ) (o : Option (List Atom)) (calls : List Call) (t : List Atom) → Follows o true t → after p index o calls ≡ verdict_from p (index + 1) t calls
goes_on p index None calls t f = absurd (false≢true (sym f))
goes_on p index (Some u) calls t f = sym (same_verdict p calls (index + 1) t u f.1)

pub stops : (p : Parts) (index : ℕ) (o : Option (List Atom)) (calls : List Call) (t : List Atom) → Follows o false t → after p index o calls ≡ Blocked index
stops p index None calls t f = refl
stops p index (Some u) calls t f = absurd (false≢true f.0)

-- the first call, and the call after
pub begun : (p : Parts) (s : List Atom) (calls : List Call) → SameState s (p.init ++ []) → verdict_from p 0 s calls ≡ verdict p calls
begun p s calls same = same_verdict p calls 0 s p.init (λ a. same a ∙ ap (is_in a) (append-nil p.init))

found_rest : (p : Parts) (i : ℕ) (s : List Atom) (calls : List Call) (call : Call) → i < length calls → call ≡ get_or calls i call
    → verdict_from p i s (drop i calls) ≡ after p i (exec p s call) (drop (i + 1) calls)
found_rest p i s calls call lt at =
    at_drop_more (verdict_from p i s) calls i call lt
    ∙ ap (λ (c : Call). verdict_from p i s (c ∷ drop (i + 1) calls)) (sym at)
    ∙ verdict_from-after p i s call (drop (i + 1) calls)

pub one_run : (p : Parts) (i : ℕ) (s t : List Atom) (calls : List Call) (call : Call) → i < length calls → call ≡ get_or calls i call
    → Follows (exec p s call) true t → verdict_from p (i + 1) t (drop (i + 1) calls) ≡ verdict_from p i s (drop i calls)
one_run p i s t calls call lt at ran =
    sym (found_rest p i s calls call lt at ∙ goes_on p i (exec p s call) (drop (i + 1) calls) t ran)

pub one_blocked : (p : Parts) (i : ℕ) (s t : List Atom) (calls : List Call) (call : Call) → i < length calls → call ≡ get_or calls i call
    → Follows (exec p s call) false t → Blocked i ≡ verdict_from p i s (drop i calls)
one_blocked p i s t calls call lt at ran =
    sym (found_rest p i s calls call lt at ∙ stops p i (exec p s call) (drop (i + 1) calls) t ran)

pub ended : (p : Parts) (i : ℕ) (s : List Atom) (b : Bool) → all_hold s [] p.goal ≡ b → cond b Reaches Short ≡ verdict_from p i s []
ended p i s b is = λ j. cond (sym is j) Reaches Short

-- what a call comes to that can run, and one that cannot
pub call_runs : (p : Parts) (s t : List Atom) (call : Call) (schema : Schema) → is_call p call ≡ true → slice_get p.schemas call.schema ≡ Some schema → all_hold s call.objects schema.pre ≡ true
    → SameState t (next p s call.objects schema.effects) → Follows (exec p s call) true t
call_runs p s t call schema is found met same = rw (is, found, met) (refl, same)

pub call_stops : (p : Parts) (s t : List Atom) (call : Call) (schema : Schema) → is_call p call ≡ true → slice_get p.schemas call.schema ≡ Some schema → all_hold s call.objects schema.pre ≡ false
    → Follows (exec p s call) false t
call_stops p s t call schema is found met = rw (is, found, met) refl

-- ---- plans

abbrev all_after : Parts → Option (List Atom) → List Call → Option (List Atom)
all_after p None calls = None
all_after p (Some t) calls = exec_all p t calls

exec_all-after : (p : Parts) (s : List Atom) (call : Call) (calls : List Call) → exec_all p s (call ∷ calls) ≡ all_after p (exec p s call) calls
exec_all-after p s call calls = by (exec p s call)
  where
    by : (o : Option (List Atom)) → elim o as (λ _. Option (List Atom)) [ None ↦ None | Some t ↦ exec_all p t calls ] ≡ all_after p o calls
    by None = refl
    by (Some t) = refl

abbrev is_reached : Verdict → Bool
is_reached Reaches = true
is_reached (Blocked index) = false
is_reached Short = false

reached_by : (b : Bool) → is_reached (cond b Reaches Short) ≡ b
reached_by true = refl
reached_by false = refl

reached_after : (p : Parts) (index : ℕ) (o : Option (List Atom)) (calls : List Call)
    → ((t : List Atom) → is_reached (verdict_from p (index + 1) t calls) ≡ meets_goal p (exec_all p t calls))
    → is_reached (after p index o calls) ≡ meets_goal p (all_after p o calls)
reached_after p index None calls rest = refl
reached_after p index (Some t) calls rest = rest t

reached_where : (p : Parts) (calls : List Call) (index : ℕ) (s : List Atom) → is_reached (verdict_from p index s calls) ≡ meets_goal p (exec_all p s calls)
reached_where p [] index s = reached_by (all_hold s [] p.goal)
reached_where p (call ∷ calls) index s =
    ap is_reached (verdict_from-after p index s call calls)
    ∙ reached_after p index (exec p s call) calls (reached_where p calls (index + 1))
    ∙ ap (meets_goal p) (sym (exec_all-after p s call calls))

only_reached : (v : Verdict) → is_reached v ≡ true → v ≡ Reaches
only_reached Reaches h = refl
only_reached (Blocked index) h = absurd (false≢true h)
only_reached Short h = absurd (false≢true h)

-- the verdict is that the calls reach the goal exactly where they are a plan
pub plan_where : (p : Parts) (calls : List Call) (v : Verdict) → v ≡ verdict p calls → (v ≡ Reaches) ↔ IsPlan p calls
plan_where p calls v is =
    let same = reached_where p calls 0 p.init in
    (λ reaches. sym same ∙ ap is_reached (sym is ∙ reaches), λ plan. only_reached v (ap is_reached is ∙ same ∙ plan))
