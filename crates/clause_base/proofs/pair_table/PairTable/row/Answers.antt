use Rattle.std.proofs.Common.{arith, length, ◌+◌, ◌-◌, ◌<◌, ◌≤◌, List, take, drop, sym, ap, ◌∙◌}
use Rattle.clause_base.specs.declared.pair.Pair.{Pair}
use Rattle.clause_base.specs.Pairs.{pairs_of}
use Rattle.clause_base.proofs.published.PairTables.{row_past, row_read, ends_read}
use Rattle.clause_base.proofs.pair_table.PairTable.row.Goals as goal

pub returns-then-code-len : goal.returns-then-code-len
returns-then-code-len c =
    let past : length c.self.inside.offsets.items ≤ c.args.code + 1 = omega (arith, c.self.inside.offsets.ok.0) in
    c.none.ensures ∙ sym (row_past c.self.inside.offsets.items c.self.inside.items.items c.args.code past) ∙ ap (λ (v : List (List Pair)). pairs_of v c.args.code) c.self.view_is

pub slice_bounds-result-count : goal.slice_bounds-result-count
slice_bounds-result-count c =
    let inside : c.args.code + 1 < length c.self.inside.offsets.items = omega (arith, c.self.inside.offsets.ok.0) in
    ends_read _ _ _ _ _ c.self.invariant inside c.index.ensures c.index-2.ensures

pub returns : goal.returns
returns c =
    let inside : c.args.code + 1 < length c.self.inside.offsets.items = omega (arith, c.self.inside.offsets.ok.0) in
    ap (λ (ps : List Pair). take (c.index-2.result.now - c.index.result.now) (drop c.index.result.now ps)) c.deref.ensures.value
    ∙ row_read c.self.inside.offsets.items c.self.inside.items.items c.args.code c.index.result.now c.index-2.result.now inside c.index.ensures c.index-2.ensures
    ∙ ap (λ (v : List (List Pair)). pairs_of v c.args.code) c.self.view_is
