use Rattle.std.proofs.Common.{◌≡◌, ◌*◌, ◌<◌, ℕ, length}
use Rattle.action_order.specs.own.Graph.{row_at}
use Rattle.action_order.specs.own.Readers.{act_at}
use Rattle.action_order.specs.own.Sure.{IsSure}
use Rattle.action_order.proofs.sure.all_sure.Given as goal

abbrev pub invariant-loop-act : goal.invariant-loop-act
invariant-loop-act l = record {
  long : length l.all.items ≡ l.act-index;
  each : (a : ℕ) → a < l.act-index → IsSure (2 * l.facts) (act_at l.acts a).effects (row_at l.all.items a);
}
