use Rattle.std.proofs.Common.{refl}
use Rattle.std.proofs.lemmas.List.{get_or_read}
use Rattle.cdcl_tables.proofs.ChainWalks.{walk_first}
use Rattle.cdcl_tables.proofs.chains.Chains.first.Goals as goal

pub returns : goal.returns
returns c on m =
    let h = c.args.self.now.heads.items in
    walk_first h c.args.self.now.nodes.items on c.args.code (record { before = 4294967295; node = c.index.result.now }) c.requires refl
    (get_or_read h c.args.code c.index.result.now c.requires c.index.ensures 0) m
