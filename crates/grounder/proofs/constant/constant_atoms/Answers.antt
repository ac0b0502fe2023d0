use Rattle.std.proofs.Common.{◌∙◌, List, sym, subst}
use Rattle.std.specs.List.{list_any}
use Rattle.std.proofs.lemmas.Option.{slice_get_within, get_or_from_slice_get}
use Rattle.pd_model.specs.declared.atoms.Atom.{Atom}
use Rattle.pd_model.specs.declared.calls.Call.{Call}
use Rattle.grounding_defs.specs.Instance.{instance_of}
use Rattle.grounding_defs.specs.Found.{deletes}
use Rattle.reachability.specs.Derived.{call_with}
use Rattle.grounder.specs.own.Few.{HasFew}
use Rattle.grounder.specs.own.Putting.{LeavesOut}
use Rattle.grounder.proofs.Few.{each_read}
use Rattle.grounder.proofs.Leaving.{left_more}
use Rattle.grounder.proofs.constant.constant_atoms.Goals as goal

pub leave_out_call-requires : goal.leave_out_call-requires
leave_out_call-requires c =
    let calls = c.args.reached.now.calls in
    let i = c.loop-place.place in
    let x = call_with c.at-schema.result.0 c.at-schema.result.1.now in
    each_read (HasFew c.args.domains.now) calls i x (slice_get_within calls i x c.at-schema.ensures) (sym (get_or_from_slice_get calls i x x c.at-schema.ensures)) c.requires

pub loop-place-preserved : goal.loop-place-preserved
loop-place-preserved c =
    let p = c.args.domains.now in
    let calls = c.args.reached.now.calls in
    let i = c.loop-place.place in
    let x = call_with c.at-schema.result.0 c.at-schema.result.1.now in
    let f = λ (xs : List Atom) (a : Atom) (d : Call). list_any (deletes xs a) (instance_of p d).changes in
    left_more (f c.args.reached.now.atoms) calls i x p.init c.loop-place.constant c.leave_out_call.new.constant
    (slice_get_within calls i x c.at-schema.ensures) (sym (get_or_from_slice_get calls i x x c.at-schema.ensures)) c.loop-place.invariant
    (subst (λ (xs : List Atom). LeavesOut (λ a. f xs a x) c.loop-place.constant c.leave_out_call.new.constant) (c.in_ok-atoms.ensures ∙ c.as_slice.ensures) c.in_ok-leave_out_call.ensures)
