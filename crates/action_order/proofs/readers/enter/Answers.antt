use Rattle.std.proofs.Common.{◌≡◌, ◌==◌, ◌||◌, ℕ, List, [], subst}
use Rattle.std.proofs.lemmas.List.{get_or_read}
use Rattle.bit_sets.specs.Rows.{row_has}
use Rattle.action_order.specs.own.Graph.{row_at}
use Rattle.action_order.proofs.ReadersLaw.{entered_one}
use Rattle.action_order.proofs.readers.enter.Goals as goal

pub returns : goal.returns
returns c =
    let rows = c.args.rows.now.items in
    let read : c.index_mut-row.result.now ≡ row_at rows c.args.key = get_or_read rows c.args.key c.index_mut-row.result.now c.requires c.index_mut-row.ensures.value [] in
    entered_one rows c.insert.new.self c.args.key c.args.b c.requires (λ x. subst (λ (xs : List ℕ). row_has c.insert.new.self x ≡ ((c.args.b == x) || row_has xs x)) read (c.in_ok-insert.ensures.has x))
