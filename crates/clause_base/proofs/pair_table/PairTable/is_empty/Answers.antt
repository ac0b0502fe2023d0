-- is_empty
use Rattle.std.proofs.Common.{arith, ◌≡◌, ℕ, List, length, sym, ap, ◌∙◌}
use Rattle.std.proofs.lemmas.Bool.Decides.{nat_tests}
use Rattle.clause_base.specs.declared.pair.Pair.{Pair}
use Rattle.clause_base.specs.Pairs.{pairs_of}
use Rattle.clause_base.proofs.published.PairTables.{row_past}
use Rattle.clause_base.proofs.pair_table.PairTable.is_empty.Goals as goal

pub returns : goal.returns
returns c = λ none x.
    let zero : length c.self.inside.offsets.items ≡ 0 = grind (arith, nat_tests) in
    sym (ap (λ (v : List (List Pair)). pairs_of v x) c.self.view_is) ∙ row_past c.self.inside.offsets.items c.self.inside.items.items x (omega (arith, zero))
