use Rattle.std.specs.Prelude.{slice_index_or}
use Rattle.std.proofs.Common.{rules, of_calls, List, ◌≡◌, ℕ, [], false, length, ap, ◌∙◌}
use Rattle.std.proofs.lemmas.List.{length-replicate}
use Rattle.std.proofs.lemmas.Result.{IfOk-weaker}
use Rattle.containers.proofs.published.Made.{get_or-replicate_default}
use Rattle.bit_sets.specs.Rows.{row_has}
use Rattle.bit_sets.proofs.row.empty_rows.Goals as goal

no_bit : (k : ℕ) → row_has [] k ≡ false
no_bit k = search rules

-- src/row.rt:188:1
pub returns-clause-long : goal.returns-clause-long
returns-clause-long c = IfOk-weaker c.items_of.result _ _ (λ rows e. ap length e ∙ length-replicate c.args.count []) (c.items_of.ensures [] (λ before made after called. search of_calls))

-- src/row.rt:188:1
pub returns-clause-none : goal.returns-clause-none
returns-clause-none c = IfOk-weaker c.items_of.result _ _ (λ rows e j k. ap (λ (xs : List (List ℕ)). row_has (slice_index_or xs j []) k) e ∙ ap (λ (xs : List ℕ). row_has xs k) (get_or-replicate_default c.args.count [] j) ∙ no_bit k) (c.items_of.ensures [] (λ before made after called. search of_calls))
