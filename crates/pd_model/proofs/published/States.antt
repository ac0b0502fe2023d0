-- Members of states: after an atom was added or removed, and after a whole step.
use Rattle.std.proofs.Common.{arith, ◌≡◌, Bool, true, false, cond, List, [], ◌∷◌, ◌++◌, refl, ap, ◌∙◌, sym}
use Rattle.std.specs.Prelude.{◌&&◌, ◌||◌, not}
use Rattle.std.specs.List.{list_any, filter}
use Rattle.std.specs.Ordering.{is_eq}
use Rattle.std.proofs.lemmas.List.Folds.{list_any-append}
use Rattle.std.proofs.lemmas.Map.Views.{any-filter_same}
use Rattle.pd_model.specs.declared.atoms.Atom.{Atom}
use Rattle.pd_model.specs.State.{same_atom, is_in, SameState}
use Rattle.pd_model.specs.Order.{atom_cmp}
use Rattle.pd_model.proofs.published.Equality.{tied, any_tied, same_is, same_symm}

or_by_cond : (b x : Bool) → cond b true x ≡ (b || x)
or_by_cond true x = refl
or_by_cond false x = refl

and_by_cond : (b x : Bool) → cond b false x ≡ (not b && x)
and_by_cond true x = refl
and_by_cond false x = refl

-- a test keeps a member where it holds of it
pub is_in-filter : (a : Atom) (test : Atom → Bool) (s : List Atom) → is_in a (filter test s) ≡ (test a && is_in a s)
is_in-filter a test s = any-filter_same (same_atom a) test (test a) (λ b h. ap test (sym (same_is a b h))) s

pub added : (s n : List Atom) (x : Atom)
    → ((a : Atom) → list_any (λ b. is_eq (atom_cmp a b)) n ≡ cond (is_eq (atom_cmp x a)) true (list_any (λ b. is_eq (atom_cmp a b)) s))
    → SameState n (x ∷ s)
added s n x h a =
    sym (any_tied a n) ∙ h a ∙ (λ i. cond (tied x a i) true (any_tied a s i))
    ∙ or_by_cond (same_atom x a) (is_in a s) ∙ (λ i. same_symm x a i || is_in a s)

pub removed : (s n : List Atom) (x : Atom)
    → ((a : Atom) → list_any (λ b. is_eq (atom_cmp a b)) n ≡ cond (is_eq (atom_cmp x a)) false (list_any (λ b. is_eq (atom_cmp a b)) s))
    → SameState n (filter (λ b. not (same_atom x b)) s)
removed s n x h a =
    sym (any_tied a n) ∙ h a ∙ (λ i. cond (tied x a i) false (any_tied a s i))
    ∙ and_by_cond (same_atom x a) (is_in a s) ∙ sym (is_in-filter a (λ b. not (same_atom x b)) s)

in_neither : (ks k s : Bool) → (not ks && (not k && s)) ≡ (not (k || ks) && s)
in_neither ks k s = grind arith

-- an atom is taken from what is left out, and left out
pub leaves : (k : Atom) (ks s n whole : List Atom) → SameState n (filter (λ b. not (same_atom k b)) s) → SameState (filter (λ b. not (is_in b (k ∷ ks))) s) whole
    → SameState (filter (λ b. not (is_in b ks)) n) whole
leaves k ks s n whole removed both a =
    is_in-filter a (λ b. not (is_in b ks)) n ∙ (λ i. not (is_in a ks) && removed a i) ∙ (λ i. not (is_in a ks) && is_in-filter a (λ b. not (same_atom k b)) s i)
    ∙ (λ i. not (is_in a ks) && (not (same_symm k a i) && is_in a s)) ∙ in_neither (is_in a ks) (same_atom a k) (is_in a s)
    ∙ sym (is_in-filter a (λ b. not (is_in b (k ∷ ks))) s) ∙ both a

add_wins : (g d s : Bool) → (g || (not d && s)) ≡ ((not (not g && d) && s) || g)
add_wins g d s = grind arith

-- to take away the deletes and then put in the gains is to take away the losses and put in the gains
pub stepped : (s t n gains deletes : List Atom) → SameState t (filter (λ a. not (is_in a deletes)) s) → SameState n (gains ++ t)
    → SameState n (filter (λ a. not (is_in a (filter (λ b. not (is_in b gains)) deletes))) s ++ gains)
stepped s t n gains deletes without with_gains a =
    let losses : List Atom = filter (λ b. not (is_in b gains)) deletes in
    with_gains a ∙ list_any-append (same_atom a) gains t ∙ (λ i. is_in a gains || without a i)
    ∙ (λ i. is_in a gains || is_in-filter a (λ b. not (is_in b deletes)) s i)
    ∙ add_wins (is_in a gains) (is_in a deletes) (is_in a s)
    ∙ (λ i. (not (sym (is_in-filter a (λ b. not (is_in b gains)) deletes) i) && is_in a s) || is_in a gains)
    ∙ (λ i. sym (is_in-filter a (λ b. not (is_in b losses)) s) i || is_in a gains)
    ∙ sym (list_any-append (same_atom a) (filter (λ b. not (is_in b losses)) s) gains)

pub none_left : (s whole : List Atom) → SameState (filter (λ b. not (is_in b [])) s) whole → SameState s whole
none_left s whole h a = sym (is_in-filter a (λ b. not (is_in b [])) s) ∙ h a

-- the same, of states with the same atoms
pub stepped_alike : (s t n gains deletes more fewer : List Atom) → SameState more gains → SameState fewer deletes → SameState t (filter (λ a. not (is_in a fewer)) s) → SameState n (more ++ t)
    → SameState n (filter (λ a. not (is_in a (filter (λ b. not (is_in b gains)) deletes))) s ++ gains)
stepped_alike s t n gains deletes more fewer as_gains as_deletes without with_gains =
    let without_them : SameState t (filter (λ a. not (is_in a deletes)) s) =
    λ a. without a ∙ is_in-filter a (λ b. not (is_in b fewer)) s ∙ (λ i. not (as_deletes a i) && is_in a s) ∙ sym (is_in-filter a (λ b. not (is_in b deletes)) s) in
    let with_them : SameState n (gains ++ t) =
    λ a. with_gains a ∙ list_any-append (same_atom a) more t ∙ (λ i. as_gains a i || is_in a t) ∙ sym (list_any-append (same_atom a) gains t) in
    stepped s t n gains deletes without_them with_them
