-- One call and one action: where the one runs so does the other, and they lead to the same state.
use Rattle.std.proofs.Common.{◌≡◌, ℕ, List, Bool, sym, ◌∙◌, Some}
use Rattle.std.specs.Prelude.{slice_get}
use Rattle.std.proofs.lemmas.Map.Keys.{any_passes_from_place}
use Rattle.gt_core.specs.Task.{Task, initial_state}
use Rattle.gt_core.specs.Execution.{Runs, next_of_one}
use Rattle.pd_model.specs.Exec.{exec}
use Rattle.pd_model.specs.declared.atoms.Atom.{Atom}
use Rattle.pd_model.specs.declared.calls.Call.{Call}
use Rattle.pd_model.specs.declared.parts.Parts.{Parts}
use Rattle.grounding_defs.specs.Instance.{instance_of}
use Rattle.grounding_defs.specs.Reach.{IsAction}
use Rattle.grounding_defs.specs.Simplify.{action_of}
use Rattle.grounding_defs.specs.Grounded.{IsGrounded, same_call}
use Rattle.grounding_defs.specs.Found.{grounded_by}
use Rattle.grounding_defs.specs.Laws.{IsSameState}
use Rattle.grounding_defs.proofs.published.Lists.{mapped_below, below_mapped}
use Rattle.grounding_defs.proofs.published.Members.{call_among, same_call_refl, numbered}
use Rattle.grounding_defs.proofs.Bridge.{executed, can_execute}
use Rattle.grounding_defs.proofs.Reaching.{IsLawful, init_lawful, runs_kept, next_lawful}
use Rattle.grounding_defs.proofs.published.Kept.{kept_call}
use Rattle.grounding_defs.proofs.Steps.{initial_same, all_true, able_same, next_same}

module _ (p : Parts) (facts : List Atom) (calls : List Call) (is : IsGrounded p (grounded_by p facts calls)) where
  abbrev task : Task
  task = (grounded_by p facts calls).task

  -- a state of numbered facts is that of a lawful state of atoms
  pub record Agree (n : ℕ → Bool) (s : List Atom) : Type 0 where
    pub same : IsSameState (grounded_by p facts calls) n s
    pub lawful : IsLawful p s

  pub begin : Agree (initial_state task) p.init
  begin = record { same = initial_same p facts calls is; lawful = init_lawful p }

  -- an action and its call lead from such states to such states
  pub record Turn (n : ℕ → Bool) (s : List Atom) (k : ℕ) (c : Call) (t : List Atom) : Type 0 where
    pub named : slice_get calls k ≡ Some c
    pub executed : exec p s c ≡ Some t
    pub runs : Runs task n k
    pub agree : Agree (next_of_one task n k) t

  -- where a call is executed, it is an action, which runs
  pub turn_of_call : (n : ℕ → Bool) (s : List Atom) (c : Call) (t : List Atom) → Agree n s → exec p s c ≡ Some t → (k : ℕ) × Turn n s k c t
  turn_of_call n s c t agree e =
      let done = executed p s c t e in
      let leads = done.leads in
      let kept = runs_kept p s c agree.lawful done.callable leads.able in
      let action : IsAction p c = record { kept = kept; able = all_true p facts calls is s agree.lawful (instance_of p c).precondition leads.able } in
      let at = numbered calls c (call_among c calls ((is.call_is c).1 action)) in (
        at.0,
        record {
          named = at.1;
          executed = e;
          runs = record {
            action = below_mapped (λ d. action_of p facts (instance_of p d)) calls at.0 c at.1;
            able = able_same p facts calls is n s at.0 c agree.same agree.lawful at.1 action ∙ leads.able;
          };
          agree = record {
            same = next_same p facts calls is n s t at.0 c agree.same agree.lawful at.1 leads;
            lawful = next_lawful p s t c agree.lawful kept leads;
          };
        },
      )

  -- where an action runs, its call is executed
  pub turn_of_action : (n : ℕ → Bool) (s : List Atom) (k : ℕ) → Agree n s → Runs task n k → (c : Call) × (t : List Atom) × Turn n s k c t
  turn_of_action n s k agree runs = from at.0 at.1 ((is.call_is at.0).0 (any_passes_from_place (same_call at.0) calls k at.0 at.1 (same_call_refl at.0)))
    where
      at : (c : Call) × (slice_get calls k ≡ Some c)
      at = mapped_below (λ d. action_of p facts (instance_of p d)) calls k runs.action

      from : (c : Call) → slice_get calls k ≡ Some c → IsAction p c → (d : Call) × (t : List Atom) × Turn n s k d t
      from c named action =
          let next = can_execute p s c (kept_call p c action.kept) (sym (able_same p facts calls is n s k c agree.same agree.lawful named action) ∙ runs.able) in
          let leads = (executed p s c next.0 next.1).leads in (
            c,
            next.0,
            record {
              named = named;
              executed = next.1;
              runs = runs;
              agree = record {
                same = next_same p facts calls is n s next.0 k c agree.same agree.lawful named leads;
                lawful = next_lawful p s next.0 c agree.lawful action.kept leads;
              };
            },
          )
