-- Sets of atoms that grow, and variables that an effect does not name: its instances are the same for each object.
use Rattle.std.proofs.Common.{arith, ◌≡◌, ℕ, zero, suc, ◌+◌, ◌<◌, Bool, true, false, cond, List, [], ◌∷◌, ◌++◌, length, take, get_or, map, refl, sym, subst, ◌∙◌}
use Rattle.std.specs.Prelude.{◌||◌, ◌==◌, slice_index}
use Rattle.std.specs.List.{list_any, flat_map, filter}
use Rattle.std.proofs.lemmas.Bool.{or_parts}
use Rattle.std.proofs.lemmas.List.{append-nil, take_more}
use Rattle.std.proofs.lemmas.List.Folds.{list_any-append}
use Rattle.std.proofs.lemmas.List.Concat.{flat_map-append, flat_map-cons}
use Rattle.pd_model.specs.State.{same_atom, is_in, SameState}
use Rattle.pd_model.specs.Instance.{value, instance, holds, all_hold}
use Rattle.pd_model.specs.Exec.{active_at}
use Rattle.pd_model.specs.own.Variables.{is_variable, atom_names, cond_names, effect_names, StandForAll}
use Rattle.pd_model.specs.declared.atoms.Term.{Term}
use Rattle.pd_model.specs.declared.atoms.Term.TheVariants.{Object, Variable}
use Rattle.pd_model.specs.declared.atoms.Pattern.{Pattern}
use Rattle.pd_model.specs.declared.atoms.Atom.{Atom}
use Rattle.pd_model.specs.declared.conds.Cond.{Cond}
use Rattle.pd_model.specs.declared.conds.Cond.TheVariants.{Has, Same}
use Rattle.pd_model.specs.declared.effects.Effect.{Effect}
use Rattle.pd_model.proofs.published.Walks.{moved, signed_more}

-- ---- sets that grow

last_first : (f m o : Bool) → (m || (f || o)) ≡ ((f || m) || o)
last_first f m o = grind arith

-- what was found, and then more
pub joined : (found more old into next : List Atom) → SameState into (found ++ old) → SameState next (more ++ into) → SameState next ((found ++ more) ++ old)
joined found more old into next so_far added a =
    added a ∙ list_any-append (same_atom a) more into ∙ (λ i. is_in a more || so_far a i)
    ∙ (λ i. is_in a more || list_any-append (same_atom a) found old i)
    ∙ last_first (is_in a found) (is_in a more) (is_in a old)
    ∙ (λ i. sym (list_any-append (same_atom a) found more) i || is_in a old)
    ∙ sym (list_any-append (same_atom a) (found ++ more) old)

one_further : {X : Type 0} (g : X → List Atom) (xs : List X) (i : ℕ) (x : X) → i < length xs → x ≡ get_or xs i x → flat_map g (take i xs) ++ g x ≡ flat_map g (take (i + 1) xs)
one_further g xs i x lt at = rw (take_more xs i x lt, ← at, flat_map-append, append-nil) refl

-- one more object
pub one_more : (f : List ℕ → List Atom) (objects : List ℕ) (ts : List (List ℕ)) (os : List ℕ) (i o : ℕ) (old into next : List Atom) → i < length os → o ≡ get_or os i o
    → SameState into (flat_map (λ o. flat_map (λ more. f (objects ++ o ∷ more)) ts) (take i os) ++ old)
    → SameState next (flat_map (λ more. f ((objects ++ o ∷ []) ++ more)) ts ++ into)
    → SameState next (flat_map (λ o. flat_map (λ more. f (objects ++ o ∷ more)) ts) (take (i + 1) os) ++ old)
one_more f objects ts os i o old into next lt at so_far added =
    let g : ℕ → List Atom = λ o. flat_map (λ more. f (objects ++ o ∷ more)) ts in
    let here : SameState next (g o ++ into) = subst (λ (found : List Atom). SameState next (found ++ into)) (moved f objects o ts) added in
    subst (λ (found : List Atom). SameState next (found ++ old)) (one_further g os i o lt at) (joined (flat_map g (take i os)) (g o) old into next so_far here)

-- a loop over what is picked, once more
pub active_more : {X : Type 0} (g : X → List Atom) (pick : X → Bool) (xs : List X) (i : ℕ) (x : X) (so_far next : List Atom) → i < length xs → x ≡ get_or xs i x
    → SameState so_far (flat_map g (filter pick (take i xs))) → SameState next (cond (pick x) (g x) [] ++ so_far) → SameState next (flat_map g (filter pick (take (i + 1) xs)))
active_more g pick xs i x so_far next lt at before added =
    let found = flat_map g (filter pick (take i xs)) in
    let one : List Atom = cond (pick x) (g x) [] in
    let start : SameState so_far (found ++ []) = subst (λ (ys : List Atom). SameState so_far ys) (sym (append-nil found)) before in
    subst (λ (ys : List Atom). SameState next ys) (append-nil (found ++ one) ∙ sym (signed_more g pick xs i x lt at)) (joined found one [] so_far next start added)

-- ---- variables that are not named

at_other : (xs ys : List ℕ) (o q v : ℕ) → (v == length xs) ≡ false → slice_index (xs ++ o ∷ ys) v ≡ slice_index (xs ++ q ∷ ys) v
at_other [] ys o q zero other = absurd (cc)
at_other [] ys o q (suc v) other = refl
at_other (x ∷ xs) ys o q zero other = refl
at_other (x ∷ xs) ys o q (suc v) other = at_other xs ys o q v (grind arith)

value_same : (xs ys : List ℕ) (o q : ℕ) (t : Term) → is_variable (length xs) t ≡ false → value (xs ++ o ∷ ys) t ≡ value (xs ++ q ∷ ys) t
value_same xs ys o q (Object k) other = refl
value_same xs ys o q (Variable v) other = at_other xs ys o q v other

terms_same : (xs ys : List ℕ) (o q : ℕ) (ts : List Term) → list_any (is_variable (length xs)) ts ≡ false → map (value (xs ++ o ∷ ys)) ts ≡ map (value (xs ++ q ∷ ys)) ts
terms_same xs ys o q [] other = refl
terms_same xs ys o q (t ∷ ts) other =
    let parts = or_parts (is_variable (length xs) t) (list_any (is_variable (length xs)) ts) other in
    rw (value_same xs ys o q t parts.0, terms_same xs ys o q ts parts.1) refl

instance_same : (xs ys : List ℕ) (o q : ℕ) (p : Pattern) → atom_names (length xs) p ≡ false → instance (xs ++ o ∷ ys) p ≡ instance (xs ++ q ∷ ys) p
instance_same xs ys o q p other = rw (terms_same xs ys o q p.terms other) refl

holds_same : (s : List Atom) (xs ys : List ℕ) (o q : ℕ) (c : Cond) → cond_names (length xs) c ≡ false → holds s (xs ++ o ∷ ys) c ≡ holds s (xs ++ q ∷ ys) c
holds_same s xs ys o q (Has atom want) other = rw (instance_same xs ys o q atom other) refl
holds_same s xs ys o q (Same left right want) other =
    let parts = or_parts (is_variable (length xs) left) (is_variable (length xs) right) other in
    rw (value_same xs ys o q left parts.0, value_same xs ys o q right parts.1) refl

all_same : (s : List Atom) (xs ys : List ℕ) (o q : ℕ) (cs : List Cond) → list_any (cond_names (length xs)) cs ≡ false → all_hold s (xs ++ o ∷ ys) cs ≡ all_hold s (xs ++ q ∷ ys) cs
all_same s xs ys o q [] other = refl
all_same s xs ys o q (c ∷ cs) other =
    let parts = or_parts (cond_names (length xs) c) (list_any (cond_names (length xs)) cs) other in
    rw (holds_same s xs ys o q c parts.0, all_same s xs ys o q cs parts.1) refl

active_same : (s : List Atom) (e : Effect) (xs ys : List ℕ) (o q : ℕ) → effect_names (length xs) e ≡ false → active_at s e (xs ++ o ∷ ys) ≡ active_at s e (xs ++ q ∷ ys)
active_same s e xs ys o q other =
    let parts = or_parts (atom_names (length xs) e.atom) (list_any (cond_names (length xs)) e.cond) other in
    rw (all_same s xs ys o q e.cond parts.1, instance_same xs ys o q e.atom parts.0) refl

tuples_same : (s : List Atom) (e : Effect) (xs : List ℕ) (o q : ℕ) (ts : List (List ℕ)) → effect_names (length xs) e ≡ false
    → flat_map (λ more. active_at s e (xs ++ o ∷ more)) ts ≡ flat_map (λ more. active_at s e (xs ++ q ∷ more)) ts
tuples_same s e xs o q [] other = refl
tuples_same s e xs o q (t ∷ ts) other = rw (flat_map-cons, flat_map-cons, active_same s e xs t o q other, tuples_same s e xs o q ts other) refl

again : (k x : Bool) → (k || x) ≡ k → (k || (k || x)) ≡ k
again k x h = grind arith

-- lists that are all one list, one after another, have no more members than it has
all_in : (g : ℕ → List Atom) (k : List Atom) (os : List ℕ) → ((o : ℕ) → g o ≡ k) → (a : Atom) → (is_in a k || is_in a (flat_map g os)) ≡ is_in a k
all_in g k [] same a = grind arith
all_in g k (o ∷ os) same a =
    (λ i. is_in a k || is_in a (flat_map-cons g o os i)) ∙ (λ i. is_in a k || list_any-append (same_atom a) (g o) (flat_map g os) i)
    ∙ (λ i. is_in a k || (is_in a (same o i) || is_in a (flat_map g os))) ∙ again (is_in a k) (is_in a (flat_map g os)) (all_in g k os same a)

one_is_all : (g : ℕ → List Atom) (some os : List ℕ) → length some ≡ length (take 1 os) → ((o q : ℕ) → g o ≡ g q) → SameState (flat_map g some) (flat_map g os)
one_is_all g [] [] long same a = refl
one_is_all g [] (o ∷ os) long same a = absurd (omega (arith, long))
one_is_all g (x ∷ some) [] long same a = absurd (omega (arith, long))
one_is_all g (x ∷ y ∷ some) (o ∷ os) long same a = absurd (omega (arith, long))
one_is_all g (x ∷ []) (o ∷ os) long same a =
    let one : flat_map g (x ∷ []) ≡ g o = rw (flat_map-cons) (append-nil (g x)) ∙ same x o in
    (λ i. is_in a (one i)) ∙ sym (all_in g (g o) os (λ q. same q o) a) ∙ sym (list_any-append (same_atom a) (g o) (flat_map g os))
    ∙ (λ i. is_in a (sym (flat_map-cons g o os) i))

onto : (found all old into : List Atom) → SameState found all → SameState into (found ++ old) → SameState into (all ++ old)
onto found all old into same h a =
    h a ∙ list_any-append (same_atom a) found old ∙ (λ i. same a i || is_in a old) ∙ sym (list_any-append (same_atom a) all old)

-- the objects that are tried stand for all
pub tried_all : (s : List Atom) (e : Effect) (xs some os : List ℕ) (ts : List (List ℕ)) (named : Bool) (old into : List Atom) → effect_names (length xs) e ≡ named
    → StandForAll named os some
    → SameState into (flat_map (λ o. flat_map (λ more. active_at s e (xs ++ o ∷ more)) ts) some ++ old)
    → SameState into (flat_map (λ o. flat_map (λ more. active_at s e (xs ++ o ∷ more)) ts) os ++ old)
tried_all s e xs some os ts true old into is same h =
    subst (λ (os : List ℕ). SameState into (flat_map (λ o. flat_map (λ more. active_at s e (xs ++ o ∷ more)) ts) os ++ old)) same h
tried_all s e xs some os ts false old into is long h =
    let g : ℕ → List Atom = λ o. flat_map (λ more. active_at s e (xs ++ o ∷ more)) ts in
    onto (flat_map g some) (flat_map g os) old into (one_is_all g some os long (λ o q. tuples_same s e xs o q ts is)) h
