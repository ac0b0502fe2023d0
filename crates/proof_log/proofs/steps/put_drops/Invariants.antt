use Rattle.std.proofs.Common.{◌≡◌, ◌++◌, length, map, take, drop}
use Rattle.clause_base.specs.declared.log.Entry.TheVariants.{Drop}
use Rattle.proof_log.specs.own.Held.{log_bytes, AreSmall}
use Rattle.proof_log.proofs.steps.put_drops.Given as goal

abbrev pub invariant-loop-number : goal.invariant-loop-number
invariant-loop-number l = record {
  told : l.steps.items ++ log_bytes (map (λ n. Drop n) (drop l.number-index l.numbers)) ≡ l.initial.steps.items ++ log_bytes (map (λ n. Drop n) l.numbers);
  small : AreSmall (map (λ n. Drop n) (take l.number-index l.numbers));
  before : take (length l.initial.steps.items) l.steps.items ≡ l.initial.steps.items;
}
