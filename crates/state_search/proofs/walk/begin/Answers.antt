use Rattle.std.proofs.Common.{◌∙◌, ap, sym, subst}
use Rattle.state_store.specs.Packed.{IsPacked}
use Rattle.state_search.proofs.WalkLaw.{begun, walk_first}
use Rattle.state_search.proofs.walk.begin.Goals as goal

pub enter-requires : goal.enter-requires
enter-requires c =
    let facts = ap (λ s. s.facts) c.clear.ensures ∙ c.requires.facts in
    subst (λ n. IsPacked n c.args.first.now) (sym facts) c.requires.packed

pub returns-clause-walk : goal.returns-clause-walk
returns-clause-walk c =
    let all = begun c.args.task.now c.args.store.now c.clear.new.self c.enter.new.self c.args.most c.args.first.now c.enter.result c.clear.ensures c.requires.some c.requires.facts c.requires.first c.enter.ensures in
    walk_first c.args.task.now c.enter.new.self (ap (λ s. s.facts) all ∙ c.requires.facts) (ap (λ s. s.states) all) (ap (λ s. s.parents) all) (ap (λ s. s.actions) all)

pub returns-clause-first : goal.returns-clause-first
returns-clause-first c =
    let all = begun c.args.task.now c.args.store.now c.clear.new.self c.enter.new.self c.args.most c.args.first.now c.enter.result c.clear.ensures c.requires.some c.requires.facts c.requires.first c.enter.ensures in
    ap (λ s. s.states) all

pub returns-clause-parents : goal.returns-clause-parents
returns-clause-parents c =
    let all = begun c.args.task.now c.args.store.now c.clear.new.self c.enter.new.self c.args.most c.args.first.now c.enter.result c.clear.ensures c.requires.some c.requires.facts c.requires.first c.enter.ensures in
    ap (λ s. s.parents) all

pub returns-clause-most : goal.returns-clause-most
returns-clause-most c =
    let all = begun c.args.task.now c.args.store.now c.clear.new.self c.enter.new.self c.args.most c.args.first.now c.enter.result c.clear.ensures c.requires.some c.requires.facts c.requires.first c.enter.ensures in
    ap (λ s. s.most) all

pub returns-clause-room : goal.returns-clause-room
returns-clause-room c =
    let all = begun c.args.task.now c.args.store.now c.clear.new.self c.enter.new.self c.args.most c.args.first.now c.enter.result c.clear.ensures c.requires.some c.requires.facts c.requires.first c.enter.ensures in
    ap (λ s. s.room) all
