use Rattle.std.proofs.Common.{arith, ◌≡◌, ◌==◌, ◌&&◌, ◌||◌, ◌<◌, ℕ, List, [], Bool, not, length, ap, ◌∙◌, subst, refl}
use Rattle.std.proofs.lemmas.List.{get_or_read}
use Rattle.bit_sets.specs.Rows.{row_has}
use Rattle.gt_core.specs.Task.{Action}
use Rattle.action_order.specs.own.Graph.{row_at}
use Rattle.action_order.specs.own.Readers.{act_at, ActionWithin}
use Rattle.action_order.specs.own.Edges.{is_touched, is_in_rows, is_opposed}
use Rattle.action_order.proofs.ReadersLaw.{act_is, within_at}
use Rattle.action_order.proofs.EdgesLaw.{touched_is, excluding_is, edge_is}
use Rattle.action_order.proofs.edges.Rows.row.Goals as goal

pub take_out_opposed-requires-clause-within : goal.take_out_opposed-requires-clause-within
take_out_opposed-requires-clause-within c =
    let s = c.requires.rows.sure in
    let lt : c.args.a < length c.args.self.now.sure.items = let l = s.long in let x = c.requires.a in omega arith in
    let list = get_or_read c.args.self.now.sure.items c.args.a c.index.result.now lt c.index.ensures [] in
    rw (c.as_slice-5.ensures, list) (s.each c.args.a c.requires.a).below

pub returns : goal.returns
returns c b =
    let r = c.requires.rows in
    let acts = c.args.acts.now in
    let a = c.args.a in
    let rows = c.args.self.now in
    let clauses = c.args.pairs.now.clauses in
    let la = c.requires.a in
    let act = act_is acts a c.index-acts-a.result la c.index-acts-a.is in
    let lt : a < length rows.sure.items = let l = r.sure.long in omega arith in
    let list = c.as_slice-5.ensures ∙ get_or_read rows.sure.items a c.index.result.now lt c.index.ensures [] in
    let within = within_at c.args.facts acts a c.index-acts-a.result c.requires.within la c.index-acts-a.is in
    let d = is_touched rows.needing.items rows.asking.items (act_at acts a).effects b in
    let x = is_in_rows rows.excluding.items (act_at acts a).precondition b in
    let o = is_opposed rows.making.items (row_at rows.sure.items a) b in
    let touched : row_has c.add_touched.new.row b ≡ d =
    c.in_ok-add_touched.ensures b
    ∙ ap (λ (t : Bool). t || is_touched c.as_slice.result.now c.as_slice-2.result.now c.effects.result.now b) (c.new-row.ensures.empty b)
    ∙ rw (c.as_slice.ensures.value, c.as_slice-2.ensures.value, c.effects.ensures) (ap (λ (y : Action). is_touched rows.needing.items rows.asking.items y.effects b) act) in
    let out : row_has c.take_out.new.row b ≡ (d && not x) =
    c.take_out.ensures b
    ∙ ap (λ (t : Bool). t && not (is_in_rows c.as_slice-3.result.now c.pre.result.now b)) touched
    ∙ rw (c.as_slice-3.ensures.value, c.pre.ensures) (ap (λ (y : Action). d && not (is_in_rows rows.excluding.items y.precondition b)) act) in
    let undone : row_has c.take_out_opposed.new.row b ≡ ((d && not x) && not o) =
    c.take_out_opposed.ensures b
    ∙ ap (λ (t : Bool). t && not (is_opposed c.as_slice-4.result.now c.as_slice-5.result.now b)) out
    ∙ rw c.as_slice-4.ensures.value (ap (λ (ls : List ℕ). (d && not x) && not (is_opposed rows.making.items ls b)) list) in
    c.remove.ensures.has b
    ∙ ap (λ (t : Bool). not (a == b) && t) undone
    ∙ edge_is clauses c.args.facts acts rows.sure.items rows.making.items rows.excluding.items a b d x o r.sure r.making la
    (touched_is clauses c.args.facts acts rows.needing.items rows.asking.items r.needing r.asking c.requires.within (act_at acts a) b (subst (ActionWithin c.args.facts) act within).effects)
    (excluding_is clauses c.args.facts acts rows.needing.items rows.asking.items r.needing r.asking c.requires.within rows.excluding.items a b r.excluding la)
    refl
