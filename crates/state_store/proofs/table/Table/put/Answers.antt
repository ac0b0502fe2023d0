use Rattle.std.proofs.Common.{arith, ◌≡◌, ◌∙◌, ◌<◌, ap, sym, subst, length, Some}
use Rattle.std.specs.Prelude.{slice_get}
use Rattle.state_store.specs.own.Table.{IsSpot}
use Rattle.state_store.specs.declared.table.Spot.{Spot}
use Rattle.state_store.proofs.TableLaw.{end_within, trees_beside, trees_alone}
use Rattle.state_store.proofs.table.Table.put.Goals as goal

pub put_beside-requires-clause-node : goal.put_beside-requires-clause-node
put_beside-requires-clause-node c =
    let own : slice_get c.args.rows.now.rows (length c.args.self.now.nodes) ≡ Some c.at-row.result.now = ap (slice_get c.args.rows.now.rows) (sym c.count-number.ensures.count) ∙ c.at-row.ensures.row in
    let spot = subst (λ (s : Spot). IsSpot c.args.rows.now.width c.args.self.now.heads c.args.self.now.nodes c.args.rows.now.rows c.at-row.result.now s) c.in-Beside.is (c.requires.spot c.at-row.result.now own) in
    (end_within c.args.rows.now.width c.args.self.now.heads c.args.self.now.nodes c.args.rows.now.rows c.at-row.result.now _ _ _ c.requires.trees spot.0 spot.1).0

pub returns-in-Beside-clause-trees : goal.returns-in-Beside-clause-trees
returns-in-Beside-clause-trees c =
    let own : slice_get c.args.rows.now.rows (length c.args.self.now.nodes) ≡ Some c.at-row.result.now = ap (slice_get c.args.rows.now.rows) (sym c.count-number.ensures.count) ∙ c.at-row.ensures.row in
    let spot = subst (λ (s : Spot). IsSpot c.args.rows.now.width c.args.self.now.heads c.args.self.now.nodes c.args.rows.now.rows c.at-row.result.now s) c.in-Beside.is (c.requires.spot c.at-row.result.now own) in
    rw (c.put_beside.ensures.nodes, c.put_beside.ensures.heads)
    (trees_beside c.args.rows.now.width c.args.self.now.heads c.args.self.now.nodes c.args.rows.now.rows c.at-row.result.now c.in-Beside.node c.in-Beside.other c.in-Beside.bit c.requires.trees own spot)

pub returns-in-Alone-clause-trees : goal.returns-in-Alone-clause-trees
returns-in-Alone-clause-trees c =
    let own : slice_get c.args.rows.now.rows (length c.args.self.now.nodes) ≡ Some c.at-row.result.now = ap (slice_get c.args.rows.now.rows) (sym c.count-number.ensures.count) ∙ c.at-row.ensures.row in
    let spot = subst (λ (s : Spot). IsSpot c.args.rows.now.width c.args.self.now.heads c.args.self.now.nodes c.args.rows.now.rows c.at-row.result.now s) c.in-Alone.is (c.requires.spot c.at-row.result.now own) in
    let few : length c.args.self.now.nodes < 4294967295 = omega (arith, c.requires.row, c.requires.most, c.count-number.ensures.few) in
    rw (c.put_alone.ensures.nodes, c.put_alone.ensures.heads)
    (trees_alone c.args.rows.now.width c.args.self.now.heads c.args.self.now.nodes c.args.rows.now.rows c.at-row.result.now c.requires.trees own few c.requires.width c.put_alone.ensures.within spot)
