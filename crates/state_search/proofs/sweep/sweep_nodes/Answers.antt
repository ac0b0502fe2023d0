use Rattle.std.proofs.Common.{arith, false, ℕ, ◌≡◌, ◌<◌, ◌∙◌, ap, length, sym, subst}
use Rattle.std.specs.Prelude.{slice_index}
use Rattle.bit_sets.specs.Rows.{row_has}
use Rattle.gt_core.specs.Literal.{holds}
use Rattle.state_store.specs.Packed.{unpacked}
use Rattle.successors.specs.Trie.{IsBefore}
use Rattle.successors.proofs.published.SkipLaw.{skipped}
use Rattle.state_store.proofs.published.RowLaw.{length-row, width_holds}
use Rattle.state_search.specs.own.Closing.{IsClosing}
use Rattle.state_search.specs.own.Breadth.{IsBreadth}
use Rattle.state_search.proofs.BreadthLaw.{all_tried, breadth_skipped}
use Rattle.state_search.proofs.ClosingLaw.{closing_tried, closing_skipped}
use Rattle.state_search.proofs.sweep.sweep_nodes.Goals as goal

pub returns-clause-closing : goal.returns-clause-closing
returns-clause-closing c =
    let inv = c.loop-node.invariant in
    let all = c.requires.ways.trie.all in
    let end : c.loop-node.node ≡ length c.args.ways.now.trie.lits = let within = inv.within in let past = c.loop-node-test.false in omega (arith, within, past, c.len.ensures) in
    closing_tried c.args.task.now c.loop-node.store c.args.number (IsBefore c.args.ways.now.trie.acts (slice_index c.args.ways.now.trie.froms c.loop-node.node)) inv.closing
    (λ a lt. subst (λ n. IsBefore c.args.ways.now.trie.acts (slice_index c.args.ways.now.trie.froms n) a) (sym end) (all a lt))

pub returns-clause-breadth : goal.returns-clause-breadth
returns-clause-breadth c =
    let inv = c.loop-node.invariant in
    let all = c.requires.ways.trie.all in
    let end : c.loop-node.node ≡ length c.args.ways.now.trie.lits = let within = inv.within in let past = c.loop-node-test.false in omega (arith, within, past, c.len.ensures) in
    λ breadth. all_tried c.args.task.now c.loop-node.store c.args.number (IsBefore c.args.ways.now.trie.acts (slice_index c.args.ways.now.trie.froms c.loop-node.node)) (unpacked c.args.task.now.facts c.args.before.now) (inv.breadth breadth) inv.at
    (λ a lt. subst (λ n. IsBefore c.args.ways.now.trie.acts (slice_index c.args.ways.now.trie.froms n) a) (sym end) (all a lt))

pub holds-requires : goal.holds-requires
holds-requires c =
    let lit = (c.requires.ways.trie.nodes c.loop-node.node (omega (arith, c.loop-node-test.true, c.len.ensures))).lit in
    let long = length-row c.args.task.now.facts c.args.before.now c.requires.packed in
    let wide = width_holds c.args.task.now.facts in
    omega (arith, c.lit.ensures, lit, long, wide)

pub loop-node-preserved-then-not-holds : goal.loop-node-preserved-then-not-holds
loop-node-preserved-then-not-holds c =
    let inv = c.loop-node.invariant in
    let task = c.args.task.now in
    let t = c.args.ways.now.trie in
    let here : c.loop-node.node < length t.lits = omega (arith, c.loop-node-test.true, c.len.ensures) in
    let node = c.requires.ways.trie.nodes c.loop-node.node here in
    let within = node.within in
    let none : holds (row_has c.args.before.now) (slice_index t.lits c.loop-node.node) ≡ false =
    ap (λ n. holds (row_has c.args.before.now) n) (sym c.lit.ensures) ∙ sym c.holds.ensures ∙ c.if-not-holds.true in
    let past = skipped task c.facts-facts.ensures.lawful c.args.before.now c.requires.packed t c.requires.ways.trie c.loop-node.node here none in
    let source = unpacked task.facts c.args.before.now in
    let tried = IsBefore t.acts (slice_index t.froms c.loop-node.node) in
    let more = IsBefore t.acts (slice_index t.froms (slice_index t.skips c.loop-node.node)) in
    record {
      within = omega (arith, within, c.skip-node.ensures);
      closing = subst (λ (n : ℕ). IsClosing task c.loop-node.store c.args.number (IsBefore t.acts (slice_index t.froms n))) (sym c.skip-node.ensures) (closing_skipped task c.loop-node.store c.args.number tried inv.closing more source inv.at past);
      breadth = λ breadth. subst (λ (n : ℕ). IsBreadth task c.loop-node.store c.args.number (IsBefore t.acts (slice_index t.froms n))) (sym c.skip-node.ensures)
          (breadth_skipped task c.loop-node.store c.args.number tried source (inv.breadth breadth) inv.at more past);
      at = inv.at;
      most = inv.most;
      room = inv.room;
      after = inv.after;
    }
