use Rattle.std.proofs.Common.{arith, ◌≡◌, ℕ, List, ◌∷◌, Option, refl}
use Rattle.cdcl_tables.specs.Linked.{next_of}
use Rattle.cdcl_tables.specs.Walk.{IsWalk}
use Rattle.cdcl_tables.proofs.ChainWalks.{walk_below, before_below, walk_drop_first, walk_drop, next_read}
use Rattle.cdcl_tables.proofs.chains.Chains.drop_at.Goals as goal
use Rattle.cdcl_tables.proofs.chains.Chains.drop_at.Goals.{After-index}

pub index-requires : goal.index-requires
index-requires c =
    let n = c.args.self.now.nodes in
    omega (arith, n.ok, walk_below c.args.self.now.heads.items n.items c.requires.walk.0 c.args.code c.args.place.node c.requires.walk.1 c.args.place c.requires.walk.2)

pub index_mut-requires-else-place-eq-END : goal.index_mut-requires-else-place-eq-END
index_mut-requires-else-place-eq-END c =
    let n = c.args.self.now.nodes in
    let w = c.requires.walk in
    omega (arith, n.ok, before_below c.args.self.now.heads.items n.items w.0 c.args.code (c.args.place.node ∷ w.1) c.args.place w.2 c.if-place-eq-END.false)

-- the node behind the one that goes
next_is : (c : After-index) (on : ℕ → Option ℕ) (rest : List ℕ) → IsWalk c.args.self.now.heads.items c.args.self.now.nodes.items on c.args.code (c.args.place.node ∷ rest) c.args.place
    → c.index.result.now.next ≡ next_of c.args.self.now.nodes.items c.args.place.node
next_is c on rest w =
    let nodes = c.args.self.now.nodes.items in
    next_read nodes c.args.place.node c.index.result.now (walk_below c.args.self.now.heads.items nodes on c.args.code c.args.place.node rest c.args.place w) c.index.ensures

pub returns-then-place-eq-END-clause-walk : goal.returns-then-place-eq-END-clause-walk
returns-then-place-eq-END-clause-walk c on rest w =
    let here = (goal.at.returns-then-place-eq-END-clause-walk c).After-index in
    walk_drop_first c.args.self.now.heads.items c.args.self.now.nodes.items on c.args.code c.args.place.node rest c.args.place
    (record { before = c.args.place.before; node = c.index.result.now.next }) w c.if-place-eq-END.true c.if-place-eq-END.true (next_is here on rest w)

pub returns-else-place-eq-END-clause-walk : goal.returns-else-place-eq-END-clause-walk
returns-else-place-eq-END-clause-walk c on rest w =
    let n = next_is (goal.at.returns-else-place-eq-END-clause-walk c).After-index on rest w in
    walk_drop c.args.self.now.heads.items c.args.self.now.nodes.items on c.args.code c.args.place.node
    (record { next = c.index.result.now.next; blocking = c.index_mut-else-place-eq-END.result.now.blocking }) rest c.args.place
    (record { before = c.args.place.before; node = c.index.result.now.next }) w c.if-place-eq-END.false refl n n
