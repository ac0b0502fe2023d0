-- What lists of the objects that fit types stand for.
use Rattle.std.proofs.Common.{◌≡◌, ◌∙◌, Bool, true, false, ◌||◌, List, [], ◌++◌, ℕ, length, map, refl, ap, sym}
use Rattle.std.specs.List.{list_any}
use Rattle.std.proofs.lemmas.List.{append-nil}
use Rattle.gt_core.specs.Task.{Effect}
use Rattle.pd_model.specs.Fits.{tuples}
use Rattle.pd_model.specs.declared.atoms.Atom.{Atom}
use Rattle.pd_model.specs.declared.effects.Effect.{Effect as Lifted}
use Rattle.pd_model.specs.declared.parts.Parts.{Parts}
use Rattle.grounding_defs.specs.Instance.{change_of, changes_of}
use Rattle.grounding_defs.specs.Found.{deletes}
use Rattle.grounder.specs.own.Putting.{left_effects, LeavesOut}
use Rattle.grounder.proofs.Bare.{bare_changes}
use Rattle.grounder.proofs.Leaving.{left_none, left_same}

-- an effect whose `forall` no tuple fits has no instance
no_changes : (p : Parts) (objects : List ℕ) (e : Lifted) → tuples p e.over ≡ [] → changes_of p objects e ≡ []
no_changes p objects e none = ap (map (λ more. change_of e (objects ++ more))) none

pub none_left_out : (p : Parts) (reached : List Atom) (objects : List ℕ) (e : Lifted) (s : List Atom) → tuples p e.over ≡ [] → LeavesOut (λ a. list_any (deletes reached a) (changes_of p objects e)) s s
none_left_out p reached objects e s none = left_none (λ a. list_any (deletes reached a) (changes_of p objects e)) s (λ a. ap (list_any (deletes reached a)) (no_changes p objects e none))

-- an effect under no `forall`
pub left_bare : (p : Parts) (reached : List Atom) (objects : List ℕ) (e : Lifted) (old new : List Atom) → length e.over ≡ 0 → LeavesOut (λ a. deletes reached a (change_of e objects)) old new
    → LeavesOut (λ a. list_any (deletes reached a) (changes_of p objects e)) old new
left_bare p reached objects e old new bare out =
    left_same (λ a. deletes reached a (change_of e objects)) (λ a. list_any (deletes reached a) (changes_of p objects e)) old new
    (λ a. alone (deletes reached a (change_of e objects)) ∙ ap (list_any (deletes reached a)) (sym (bare_changes p objects e bare))) out
  where
    alone : (b : Bool) → b ≡ (b || false)
    alone true = refl
    alone false = refl

pub nothing_added : (p : Parts) (facts : List Atom) (objects : List ℕ) (e : Lifted) (effects : List Effect) → tuples p e.over ≡ [] → effects ≡ effects ++ left_effects p facts (changes_of p objects e)
nothing_added p facts objects e effects none = sym (append-nil effects) ∙ ap (λ cs. effects ++ left_effects p facts cs) (sym (no_changes p objects e none))
