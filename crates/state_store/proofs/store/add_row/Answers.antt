use Rattle.std.proofs.Common.{arith, ◌∙◌, sym}
use Rattle.state_store.proofs.StoreLaw.{put_trees, put_apart, put_spot, long_now, same_width, same_most}
use Rattle.state_store.proofs.store.add_row.Goals as goal

pub put-requires-clause-trees : goal.put-requires-clause-trees
put-requires-clause-trees c = put_trees c.args.rows.now c.push.new.self c.args.table.now c.args.row.now c.requires.kept c.push.ensures

pub put-requires-clause-distinct : goal.put-requires-clause-distinct
put-requires-clause-distinct c = put_apart c.args.rows.now c.push.new.self c.args.table.now c.args.row.now c.requires.kept c.push.ensures c.requires.absent

pub put-requires-clause-spot : goal.put-requires-clause-spot
put-requires-clause-spot c = put_spot c.args.rows.now c.push.new.self c.args.table.now c.args.row.now c.requires.kept c.push.ensures c.args.spot c.requires.spot

pub grow-requires-clause-distinct : goal.grow-requires-clause-distinct
grow-requires-clause-distinct c = put_apart c.args.rows.now c.push.new.self c.args.table.now c.args.row.now c.requires.kept c.push.ensures c.requires.absent

pub returns-clause-kept : goal.returns-clause-kept
returns-clause-kept c =
    let long = long_now c.args.rows.now c.push.new.self c.args.table.now c.args.row.now c.requires.kept c.push.ensures in
    let width = same_width c.args.rows.now c.push.new.self c.args.table.now c.args.row.now c.requires.kept c.push.ensures in
    let most = same_most c.args.rows.now c.push.new.self c.args.table.now c.args.row.now c.requires.kept c.push.ensures in
    record {
      some = omega (arith, width, c.requires.kept.some);
      few = omega (arith, width, c.requires.kept.few);
      within = omega (arith, long, most, c.requires.room);
      room = c.grow.ensures.most ∙ c.put.ensures.most ∙ c.requires.kept.room ∙ sym most;
      apart = put_apart c.args.rows.now c.push.new.self c.args.table.now c.args.row.now c.requires.kept c.push.ensures c.requires.absent;
      all = c.grow.ensures.all;
      trees = c.grow.ensures.trees;
    }
