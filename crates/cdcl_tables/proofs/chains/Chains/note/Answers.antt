use Rattle.cdcl_tables.proofs.ChainWalks.{linked_note, walk_note, next_read}
use Rattle.cdcl_tables.proofs.chains.Chains.note.Goals as goal

pub returns-clause-linked : goal.returns-clause-linked
returns-clause-linked c on m =
    let nodes = c.args.self.now.nodes.items in
    let v = c.index_mut.result.now in
    linked_note c.args.self.now.heads.items nodes on c.args.node (record { next = v.next; blocking = c.args.blocking }) c.requires
    (next_read nodes c.args.node v c.requires c.index_mut.ensures.value) m

pub returns-clause-walk : goal.returns-clause-walk
returns-clause-walk c on code rest place w =
    let nodes = c.args.self.now.nodes.items in
    let v = c.index_mut.result.now in
    walk_note c.args.self.now.heads.items nodes on c.args.node (record { next = v.next; blocking = c.args.blocking }) code rest place c.requires
    (next_read nodes c.args.node v c.requires c.index_mut.ensures.value) w
