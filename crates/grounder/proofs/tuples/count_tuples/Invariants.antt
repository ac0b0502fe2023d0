use Rattle.std.proofs.Common.{◌≡◌, ◌+◌, ◌-◌, ◌^◌, ◌≤◌, drop}
use Rattle.std.specs.Prelude.{sum_by}
use Rattle.grounding_defs.specs.Tuples.{schema_tuples, tuples_in, saturated}
use Rattle.grounder.proofs.tuples.count_tuples.Given as goal

abbrev pub invariant-loop-schema : goal.invariant-loop-schema
invariant-loop-schema l = record {
  sum : saturated (tuples_in l.p) ≡ saturated (l.sum + sum_by (schema_tuples l.p) (drop l.schema-index l.schema-items));
  fits : l.sum ≤ 2 ^ 64 - 1;
}
