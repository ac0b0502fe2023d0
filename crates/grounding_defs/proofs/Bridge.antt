-- What a call does to a state, said of its instance.
use Rattle.std.proofs.Common.{arith, ◌≡◌, ℕ, List, [], ◌∷◌, ◌++◌, Bool, true, false, not, ◌&&◌, ◌||◌, refl, ap, sym, ◌∙◌, cond, Option, Some, None}
use Rattle.std.specs.Prelude.{slice_get}
use Rattle.std.specs.List.{list_any, list_all, filter, flat_map}
use Rattle.std.proofs.lemmas.List.Folds.{list_any-append}
use Rattle.gt_core.proofs.published.Basics.{any_same}
use Rattle.pd_model.specs.State.{is_in, same_atom}
use Rattle.pd_model.specs.Instance.{instance, agrees, holds, all_hold}
use Rattle.pd_model.specs.Fits.{tuples, is_call}
use Rattle.pd_model.specs.Exec.{active_at, active, of_sign, gains, deletes, losses, next, exec_schema, exec}
use Rattle.pd_model.specs.Plan.{exec_all}
use Rattle.pd_model.specs.declared.atoms.Atom.{Atom}
use Rattle.pd_model.specs.declared.calls.Call.{Call}
use Rattle.pd_model.specs.declared.conds.Cond.{Cond}
use Rattle.pd_model.specs.declared.conds.Cond.TheVariants.{Has, Same}
use Rattle.pd_model.specs.declared.effects.Effect.{Effect}
use Rattle.pd_model.specs.declared.parts.Parts.{Parts}
use Rattle.pd_model.specs.declared.schemas.Schema.{Schema}
use Rattle.pd_model.proofs.published.States.{is_in-filter}
use Rattle.grounding_defs.specs.Instance.{GroundLiteral, Holds, Fixed, Change, Instance, literal_of, literals_of, change_of, changes_of, instance_at, instance_of}
use Rattle.grounding_defs.proofs.published.Lists.{any_map, any_filter, any_flat_map, any_guarded}

-- whether a literal holds in a state
abbrev pub literal_holds : List Atom → GroundLiteral → Bool
literal_holds s (Holds a want) = agrees want (is_in a s)
literal_holds s (Fixed truth) = truth

abbrev pub literals_hold : List Atom → List GroundLiteral → Bool
literals_hold s literals = list_all (literal_holds s) literals

-- whether a change is active, has this sign and names this atom
abbrev pub names : List Atom → Atom → Bool → Change → Bool
names s a sign e = agrees sign e.adds && (literals_hold s e.condition && same_atom a e.atom)

abbrev pub named : List Atom → Atom → Bool → List Change → Bool
named s a sign changes = list_any (names s a sign) changes

-- whether an atom is in the state after the changes: an add wins over a delete
abbrev pub is_after : List Atom → List Change → Atom → Bool
is_after s changes a = named s a true changes || (is_in a s && not (named s a false changes && not (named s a true changes)))

-- an instance leads from one state to another
pub record Leads (s : List Atom) (i : Instance) (t : List Atom) : Type 0 where
  pub able : literals_hold s i.precondition ≡ true
  pub after : (a : Atom) → is_in a t ≡ is_after s i.changes a

cond_holds : (s : List Atom) (objects : List ℕ) (c : Cond) → literal_holds s (literal_of objects c) ≡ holds s objects c
cond_holds s objects (Has atom want) = refl
cond_holds s objects (Same left right want) = refl

pub conds_hold : (s : List Atom) (objects : List ℕ) (conds : List Cond) → literals_hold s (literals_of objects conds) ≡ all_hold s objects conds
conds_hold s objects [] = refl
conds_hold s objects (c ∷ conds) = λ i. cond_holds s objects c i && conds_hold s objects conds i

active_is : (s : List Atom) (e : Effect) (objects : List ℕ) (a : Atom)
    → is_in a (active_at s e objects) ≡ (literals_hold s (literals_of objects e.cond) && same_atom a (instance objects e.atom))
active_is s e objects a = one (all_hold s objects e.cond) (instance objects e.atom) ∙ λ i. sym (conds_hold s objects e.cond) i && same_atom a (instance objects e.atom)
  where
    or_false : (b : Bool) → (b || false) ≡ b
    or_false true = refl
    or_false false = refl

    one : (b : Bool) (x : Atom) → is_in a (cond b (x ∷ []) []) ≡ (b && same_atom a x)
    one true x = or_false (same_atom a x)
    one false x = refl

of_effect : (p : Parts) (s : List Atom) (objects : List ℕ) (a : Atom) (sign : Bool) (e : Effect)
    → named s a sign (changes_of p objects e) ≡ (agrees sign e.adds && is_in a (active p s objects e))
of_effect p s objects a sign e =
    any_map (names s a sign) (λ more. change_of e (objects ++ more)) (tuples p e.over)
    ∙ any_guarded (agrees sign e.adds) (λ more. literals_hold s (literals_of (objects ++ more) e.cond) && same_atom a (instance (objects ++ more) e.atom)) (tuples p e.over)
    ∙ ap (λ (b : Bool). agrees sign e.adds && b) (sym atoms)
  where
    atoms : is_in a (active p s objects e) ≡ list_any (λ more. literals_hold s (literals_of (objects ++ more) e.cond) && same_atom a (instance (objects ++ more) e.atom)) (tuples p e.over)
    atoms =
        any_flat_map (same_atom a) (λ more. active_at s e (objects ++ more)) (tuples p e.over)
        ∙ any_same _ _ (tuples p e.over) (λ more among. active_is s e (objects ++ more) a)

of_schema : (p : Parts) (s : List Atom) (objects : List ℕ) (effects : List Effect) (a : Atom) (sign : Bool)
    → named s a sign (flat_map (changes_of p objects) effects) ≡ is_in a (flat_map (active p s objects) (of_sign sign effects))
of_schema p s objects effects a sign =
    any_flat_map (names s a sign) (changes_of p objects) effects
    ∙ any_same _ _ effects (λ e among. of_effect p s objects a sign e)
    ∙ sym (any_flat_map (same_atom a) (active p s objects) (of_sign sign effects) ∙ any_filter (λ e. is_in a (active p s objects e)) (λ e. agrees sign e.adds) effects)

next_is : (p : Parts) (s : List Atom) (objects : List ℕ) (effects : List Effect) (a : Atom)
    → is_in a (next p s objects effects) ≡ is_after s (flat_map (changes_of p objects) effects) a
next_is p s objects effects a =
    list_any-append (same_atom a) (filter (λ b. not (is_in b (losses p s objects effects))) s) (gains p s objects effects)
    ∙ (λ i. is_in-filter a (λ b. not (is_in b (losses p s objects effects))) s i || is_in a (gains p s objects effects))
    ∙ (λ i. (not (is_in-filter a (λ b. not (is_in b (gains p s objects effects))) (deletes p s objects effects) i) && is_in a s) || is_in a (gains p s objects effects))
    ∙ (λ i. (not (not (gained i) && lost i) && is_in a s) || gained i)
    ∙ other_order (named s a true changes) (named s a false changes) (is_in a s)
  where
    changes : List Change
    changes = flat_map (changes_of p objects) effects

    gained : is_in a (gains p s objects effects) ≡ named s a true (flat_map (changes_of p objects) effects)
    gained = sym (of_schema p s objects effects a true)

    lost : is_in a (deletes p s objects effects) ≡ named s a false (flat_map (changes_of p objects) effects)
    lost = sym (of_schema p s objects effects a false)

    other_order : (g d now : Bool) → ((not (not g && d) && now) || g) ≡ (g || (now && not (d && not g)))
    other_order g d now = grind arith

pub some_is : {X : Type 0} (x y : X) → Some x ≡ Some y → x ≡ y
some_is x y e = cc

-- a call that is executed is one, and its instance leads to the state after it
pub record Executed (p : Parts) (s : List Atom) (c : Call) (t : List Atom) : Type 0 where
  pub callable : is_call p c ≡ true
  pub leads : Leads s (instance_of p c) t

pub executed : (p : Parts) (s : List Atom) (c : Call) (t : List Atom) → exec p s c ≡ Some t → Executed p s c t
executed p s c t e = first (is_call p c) refl e
  where
    runs : (schema : Schema) (b : Bool) → all_hold s c.objects schema.pre ≡ b → cond b (Some (next p s c.objects schema.effects)) None ≡ Some t → Leads s (instance_at p c.objects (Some schema)) t
    runs schema true h f = record {
      able = conds_hold s c.objects schema.pre ∙ h;
      after = λ a. ap (is_in a) (sym (some_is _ _ f)) ∙ next_is p s c.objects schema.effects a;
    }
    runs schema false h f = cc

    by : (o : Option Schema) → exec_schema p s c.objects o ≡ Some t → Leads s (instance_at p c.objects o) t
    by None f = cc
    by (Some schema) f = runs schema (all_hold s c.objects schema.pre) refl f

    first : (b : Bool) → is_call p c ≡ b → cond b (exec_schema p s c.objects (slice_get p.schemas c.schema)) None ≡ Some t → Executed p s c t
    first true call f = record { callable = call; leads = by (slice_get p.schemas c.schema) f }
    first false call f = cc

-- a call is executed where the precondition of its instance holds
pub can_execute : (p : Parts) (s : List Atom) (c : Call) → is_call p c ≡ true → literals_hold s (instance_of p c).precondition ≡ true → (t : List Atom) × (exec p s c ≡ Some t)
can_execute p s c call h =
    let found = by (slice_get p.schemas c.schema) h in
    (found.0, ap (λ (b : Bool). cond b (exec_schema p s c.objects (slice_get p.schemas c.schema)) None) call ∙ found.1)
  where
    by : (o : Option Schema) → literals_hold s (instance_at p c.objects o).precondition ≡ true → (t : List Atom) × (exec_schema p s c.objects o ≡ Some t)
    by None f = cc
    by (Some schema) f = (
      next p s c.objects schema.effects,
      ap (λ (b : Bool). cond b (Some (next p s c.objects schema.effects)) None) (sym (conds_hold s c.objects schema.pre) ∙ f),
    )

-- the first of some calls, and then the rest
pub first_executed : (p : Parts) (s : List Atom) (c : Call) (calls : List Call) (t : List Atom) → exec_all p s (c ∷ calls) ≡ Some t
    → (u : List Atom) × (exec p s c ≡ Some u) × (exec_all p u calls ≡ Some t)
first_executed p s c calls t e = by (exec p s c) refl e
  where
    by : (o : Option (List Atom)) → exec p s c ≡ o → elim o as (λ _. Option (List Atom)) [ None ↦ None | Some u ↦ exec_all p u calls ] ≡ Some t → (u : List Atom) × (exec p s c ≡ Some u) × (exec_all p u calls ≡ Some t)
    by None is f = cc
    by (Some u) is f = (u, is, f)

pub executed_on : (p : Parts) (s u : List Atom) (c : Call) (calls : List Call) → exec p s c ≡ Some u → exec_all p s (c ∷ calls) ≡ exec_all p u calls
executed_on p s u c calls e = ap (λ (o : Option (List Atom)). elim o as (λ _. Option (List Atom)) [ None ↦ None | Some v ↦ exec_all p v calls ]) e
