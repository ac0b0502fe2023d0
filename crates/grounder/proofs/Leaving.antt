-- Atoms that are left out, one after the other.
use Rattle.std.proofs.Common.{arith, ◌≡◌, ℕ, ◌+◌, ◌<◌, ◌≤◌, List, [], ◌∷◌, ◌++◌, Bool, true, false, length, get_or, take, map, refl, ap, sym, ◌∙◌}
use Rattle.std.specs.Prelude.{◌&&◌, ◌||◌, not}
use Rattle.std.specs.List.{list_any, filter}
use Rattle.std.proofs.lemmas.List.{take_more, take_all}
use Rattle.std.proofs.lemmas.List.Folds.{list_any-append}
use Rattle.pd_model.specs.declared.atoms.Atom.{Atom}
use Rattle.pd_model.specs.State.{is_in, same_atom, SameState}
use Rattle.pd_model.proofs.published.Equality.{same_symm}
use Rattle.pd_model.proofs.published.States.{is_in-filter}
use Rattle.pd_model.specs.Fits.{fitting, tuples}
use Rattle.pd_model.specs.declared.effects.Effect.{Effect}
use Rattle.pd_model.specs.declared.parts.Parts.{Parts}
use Rattle.grounding_defs.specs.Instance.{Change, change_of, changes_of}
use Rattle.grounding_defs.specs.Found.{deletes, all_may_hold}
use Rattle.grounder.specs.declared.bindings.Bindings.{Bindings}
use Rattle.grounder.specs.own.Bindings.{size, tuple_at, AreBindings}
use Rattle.grounder.proofs.Tupled.{count_is, change_at}
use Rattle.grounder.specs.own.Putting.{LeavesOut}

nothing : (b : Bool) → b ≡ (b && true)
nothing true = refl
nothing false = refl

-- nothing is left out
pub left_none : (test : Atom → Bool) (s : List Atom) → ((a : Atom) → test a ≡ false) → LeavesOut test s s
left_none test s none a = nothing (is_in a s) ∙ ap (λ (b : Bool). is_in a s && not b) (sym (none a))

both : (s a b : Bool) → ((s && not a) && not b) ≡ (s && not (a || (b || false)))
both s a b = grind arith

-- what each element of a list leaves out: one element more
pub left_more : {X : Type 0} (f : Atom → X → Bool) (xs : List X) (i : ℕ) (x : X) (old mid new : List Atom) → i < length xs → x ≡ get_or xs i x
    → LeavesOut (λ a. list_any (f a) (take i xs)) old mid → LeavesOut (λ a. f a x) mid new → LeavesOut (λ a. list_any (f a) (take (i + 1) xs)) old new
left_more f xs i x old mid new l at so_far one a =
    let more : take (i + 1) xs ≡ take i xs ++ x ∷ [] = take_more xs i x l ∙ ap (λ y. take i xs ++ y ∷ []) (sym at) in
    one a ∙ (λ j. so_far a j && not (f a x)) ∙ both (is_in a old) (list_any (f a) (take i xs)) (f a x)
    ∙ (λ j. is_in a old && not (sym (list_any-append (f a) (take i xs) (x ∷ [])) j))
    ∙ (λ j. is_in a old && not (list_any (f a) (sym more j)))

-- the test is the same
pub left_same : (test more : Atom → Bool) (old new : List Atom) → ((a : Atom) → test a ≡ more a) → LeavesOut test old new → LeavesOut more old new
left_same test more old new same out a = out a ∙ ap (λ (b : Bool). is_in a old && not b) (same a)

swap : (t s : Bool) → (not t && s) ≡ (s && not t)
swap t s = grind arith

-- one atom is removed
pub left_one : (old new : List Atom) (x : Atom) → SameState new (filter (λ a. not (same_atom x a)) old) → LeavesOut (λ a. same_atom a x) old new
left_one old new x removed a =
    removed a ∙ is_in-filter a (λ b. not (same_atom x b)) old ∙ (λ i. not (same_symm x a i) && is_in a old) ∙ swap (same_atom a x) (is_in a old)

possible : (adds may same : Bool) → adds ≡ false → may ≡ true → same ≡ (not adds && (may && same))
possible false true same e f = refl
possible false false same e f = cc
possible true may same e f = cc

-- the atom of a possible delete is removed
pub left_deleted : (reached : List Atom) (c : Change) (old new : List Atom) (x : Atom) → c.adds ≡ false → all_may_hold reached c.condition ≡ true → x ≡ c.atom
    → SameState new (filter (λ a. not (same_atom x a)) old) → LeavesOut (λ a. deletes reached a c) old new
left_deleted reached c old new x adds may is removed =
    left_same (λ a. same_atom a x) (λ a. deletes reached a c) old new (λ a. ap (same_atom a) is ∙ possible c.adds (all_may_hold reached c.condition) (same_atom a c.atom) adds may) (left_one old new x removed)

added : (adds rest : Bool) → adds ≡ true → (not adds && rest) ≡ false
added true rest e = refl
added false rest e = cc

none_deleted : (reached : List Atom) (objects : List ℕ) (e : Effect) (a : Atom) (xs : List (List ℕ)) → e.adds ≡ true
    → list_any (deletes reached a) (map (λ more. change_of e (objects ++ more)) xs) ≡ false
none_deleted reached objects e a [] t = refl
none_deleted reached objects e a (x ∷ xs) t =
    (λ i. added e.adds (all_may_hold reached (change_of e (objects ++ x)).condition && same_atom a (change_of e (objects ++ x)).atom) t i || none_deleted reached objects e a xs t i)

-- an add deletes nothing
pub left_by_add : (p : Parts) (reached : List Atom) (objects : List ℕ) (e : Effect) (s : List Atom) → e.adds ≡ true
    → LeavesOut (λ a. list_any (deletes reached a) (changes_of p objects e)) s s
left_by_add p reached objects e s t = left_none _ s (λ a. none_deleted reached objects e a (tuples p e.over) t)

-- a loop over the changes of an effect: one more, and all
pub left_change : (p : Parts) (reached : List Atom) (objects : List ℕ) (e : Effect) (b : Bindings) → AreBindings p e.over b → (i : ℕ) → i < b.count
    → (all : List ℕ) → all ≡ objects ++ tuple_at b.domains.items i → (old mid new : List Atom)
    → LeavesOut (λ a. list_any (deletes reached a) (take i (changes_of p objects e))) old mid → LeavesOut (λ a. deletes reached a (change_of e all)) mid new
    → LeavesOut (λ a. list_any (deletes reached a) (take (i + 1) (changes_of p objects e))) old new
left_change p reached objects e b are i l all all_is old mid new so_far one =
    let within : i < size (map (fitting p) e.over) = omega (arith, l, are.count, ap size are.domains) in
    let below : i < length (changes_of p objects e) = omega (arith, within, count_is p objects e) in
    let this : change_of e all ≡ get_or (changes_of p objects e) i (change_of e all) =
    sym (change_at p objects e i (change_of e all) within ∙ ap (change_of e) ((λ j. objects ++ tuple_at (sym are.domains j) i) ∙ sym all_is)) in
    left_more (deletes reached) (changes_of p objects e) i (change_of e all) old mid new below this so_far one

pub left_changes : (p : Parts) (reached : List Atom) (objects : List ℕ) (e : Effect) (b : Bindings) → AreBindings p e.over b → (i : ℕ) → b.count ≤ i → (old new : List Atom)
    → LeavesOut (λ a. list_any (deletes reached a) (take i (changes_of p objects e))) old new → LeavesOut (λ a. list_any (deletes reached a) (changes_of p objects e)) old new
left_changes p reached objects e b are i l old new out =
    let within : length (changes_of p objects e) ≤ i = omega (arith, count_is p objects e, l, are.count, ap size are.domains) in
    let all : take i (changes_of p objects e) ≡ changes_of p objects e = take_all i (changes_of p objects e) within in
    left_same _ _ old new (λ a. ap (λ (cs : List Change). list_any (deletes reached a) cs) all) out
