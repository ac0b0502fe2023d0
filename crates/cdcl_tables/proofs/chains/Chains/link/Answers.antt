use Rattle.std.proofs.lemmas.List.{get_or_read}
use Rattle.cdcl_tables.proofs.Linking.{linked_link}
use Rattle.cdcl_tables.proofs.ChainWalks.{walk_link}
use Rattle.cdcl_tables.proofs.chains.Chains.link.Goals as goal

pub returns-clause-linked : goal.returns-clause-linked
returns-clause-linked c on m o =
    let heads = c.args.self.now.heads.items in
    let next = c.index-next.result.now in
    linked_link heads c.args.self.now.nodes.items on c.args.node c.args.code (record { next = next; blocking = c.index_mut.result.now.blocking })
    c.requires.code c.requires.node o (get_or_read heads c.args.code next c.requires.code c.index-next.ensures 0) m

pub returns-clause-walk : goal.returns-clause-walk
returns-clause-walk c on l rest place w o ne =
    let heads = c.args.self.now.heads.items in
    let next = c.index-next.result.now in
    walk_link heads c.args.self.now.nodes.items on c.args.node c.args.code (record { next = next; blocking = c.index_mut.result.now.blocking }) l rest place
    c.requires.code c.requires.node o (get_or_read heads c.args.code next c.requires.code c.index-next.ensures 0) ne w
