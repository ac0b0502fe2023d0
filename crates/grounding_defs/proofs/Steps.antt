-- A numbered action can run where its call can, and leads to the same state.
use Rattle.std.proofs.Common.{◌≡◌, ℕ, List, [], ◌∷◌, Bool, true, false, not, ◌&&◌, ◌||◌, refl, ap, sym, ◌∙◌, Option, Some}
use Rattle.std.specs.Prelude.{slice_get, unwrap_or}
use Rattle.std.specs.List.{list_any, AllByRecursion}
use Rattle.std.proofs.lemmas.Bool.{and_parts, or_from, false_from_ne_true, both_ways, not_from_true}
use Rattle.gt_core.specs.Literal.{all_hold}
use Rattle.gt_core.specs.Active.{is_active}
use Rattle.gt_core.specs.Task.{Action, Task, action, precondition, initial_state}
use Rattle.gt_core.specs.Execution.{makes, next_of_one}
use Rattle.gt_core.proofs.published.Basics.{same_if}
use Rattle.pd_model.specs.State.{is_in}
use Rattle.pd_model.specs.declared.atoms.Atom.{Atom}
use Rattle.pd_model.specs.declared.calls.Call.{Call}
use Rattle.pd_model.specs.declared.parts.Parts.{Parts}
use Rattle.grounding_defs.specs.Instance.{GroundLiteral, Holds, Fixed, instance_of}
use Rattle.grounding_defs.specs.Reach.{MayHold, AllMayHold, IsReachable, MayBeTrue, IsAction}
use Rattle.grounding_defs.specs.Simplify.{place, fact_literal, is_never, any_never, action_of}
use Rattle.grounding_defs.specs.Grounded.{IsGrounded}
use Rattle.grounding_defs.specs.Found.{grounded_by}
use Rattle.grounding_defs.specs.Laws.{IsSameState}
use Rattle.grounding_defs.proofs.published.Lists.{get_mapped, index_mapped}
use Rattle.grounding_defs.proofs.Bridge.{literal_holds, literals_hold, named, Leads}
use Rattle.grounding_defs.proofs.Reaching.{IsLawful}
use Rattle.grounding_defs.proofs.published.Kept.{kept_may}
use Rattle.grounding_defs.proofs.Constants.{is_constant, initial_or_fact}
use Rattle.grounding_defs.proofs.published.Places.{place_is, found_in}
use Rattle.grounding_defs.proofs.Simplifying.{Tells, simplified_hold, active_named}

module _ (p : Parts) (facts : List Atom) (calls : List Call) (is : IsGrounded p (grounded_by p facts calls)) where
  abbrev task : Task
  task = (grounded_by p facts calls).task

  abbrev IsSame : (ℕ → Bool) → List Atom → Type 0
  IsSame n s = IsSameState (grounded_by p facts calls) n s

  pub tells : (n : ℕ → Bool) (s : List Atom) → IsSame n s → IsLawful p s → Tells p facts n s
  tells n s same lawful = record {
    same = same;
    others = λ a out. same_if (is_in a s) (is_in a p.init)
        (λ t. initial_or_fact p facts is.fact_is a (lawful.reachable a t) out)
        (λ t. lawful.constant a (is_constant p facts is.fact_is a t out));
  }

  pub initial_same : IsSame (initial_state task) p.init
  initial_same f a e = ap (λ (o : Option Bool). unwrap_or o false) (get_mapped (λ b. is_in b p.init) facts f a e)

  -- a literal that may hold and may be true is not never true
  one_not_never : (x : GroundLiteral) → MayHold (IsReachable p) x → MayBeTrue p x → is_never p facts x ≡ false
  one_not_never (Holds a true) m b = by (is_in a facts) refl
    where
      by : (fact : Bool) → is_in a facts ≡ fact → (not fact && not (is_in a p.init)) ≡ false
      by true h = refl
      by false h = not_from_true (is_in a p.init) (initial_or_fact p facts is.fact_is a m h)
  one_not_never (Holds a false) m b = by (is_in a facts) refl
    where
      by : (fact : Bool) → is_in a facts ≡ fact → (not fact && is_in a p.init) ≡ false
      by true h = refl
      by false h = false_from_ne_true (is_in a p.init) (λ t. b (is_constant p facts is.fact_is a t h))
  one_not_never (Fixed truth) m b = not_from_true truth m

  not_never : (xs : List GroundLiteral) → AllMayHold (IsReachable p) xs → AllByRecursion (MayBeTrue p) xs → any_never p facts xs ≡ false
  not_never [] m b = refl
  not_never (x ∷ xs) m b = or_from _ _ (one_not_never x m.0 b.0) (not_never xs m.1 b.1)

  -- what holds in a lawful state may be true
  one_true : (s : List Atom) → IsLawful p s → (x : GroundLiteral) → literal_holds s x ≡ true → MayBeTrue p x
  one_true s lawful (Holds a true) t = tt
  one_true s lawful (Holds a false) t = λ constant. both_ways (not (is_in a s)) (not_from_true (is_in a s) (lawful.constant a constant)) t
  one_true s lawful (Fixed truth) t = tt

  pub all_true : (s : List Atom) → IsLawful p s → (xs : List GroundLiteral) → literals_hold s xs ≡ true → AllByRecursion (MayBeTrue p) xs
  all_true s lawful [] t = tt
  all_true s lawful (x ∷ xs) t =
      let parts = and_parts (literal_holds s x) (literals_hold s xs) t in
      (one_true s lawful x parts.0, all_true s lawful xs parts.1)

  -- the action of a call, by its number
  action_at : (k : ℕ) (c : Call) → slice_get calls k ≡ Some c → action task k ≡ action_of p facts (instance_of p c)
  action_at k c e = index_mapped (λ d. action_of p facts (instance_of p d)) calls k c _ e

  pub able_same : (n : ℕ → Bool) (s : List Atom) (k : ℕ) (c : Call) → IsSame n s → IsLawful p s → slice_get calls k ≡ Some c → IsAction p c
      → all_hold n (precondition task k) ≡ literals_hold s (instance_of p c).precondition
  able_same n s k c same lawful e action =
      ap (λ (x : Action). all_hold n x.precondition) (action_at k c e)
      ∙ simplified_hold p facts n s (tells n s same lawful) (instance_of p c).precondition (not_never (instance_of p c).precondition (kept_may p c action.kept) action.able)

  pub next_same : (n : ℕ → Bool) (s t : List Atom) (k : ℕ) (c : Call) → IsSame n s → IsLawful p s → slice_get calls k ≡ Some c → Leads s (instance_of p c) t
      → IsSame (next_of_one task n k) t
  next_same n s t k c same lawful e leads f a at =
      ap (next_of_one task n k) (sym its_place)
      ∙ (λ i. made true i || (now i && not (made false i && not (made true i))))
      ∙ sym (leads.after a)
    where
      fact : is_in a facts ≡ true
      fact = found_in facts f a at

      its_place : place facts a ≡ f
      its_place = place_is facts f a is.facts_sorted at

      now : n (place facts a) ≡ is_in a s
      now = ap n its_place ∙ same f a at

      made : (sign : Bool) → makes task n k (fact_literal facts a sign) ≡ named s a sign (instance_of p c).changes
      made sign =
          ap (λ (x : Action). list_any (is_active n (fact_literal facts a sign)) x.effects) (action_at k c e)
          ∙ active_named p facts n s (tells n s same lawful) a sign fact (instance_of p c).changes
